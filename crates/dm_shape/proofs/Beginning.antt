-- How many of the first words of a text begin a line.
use Rattle.std.specs.Prelude.{◌≡◌, ◌≤◌, nat_eq, nat_le, ℕ, zero, suc, Bool, true, false, cond, ◌||◌, List, [], ◌∷◌, ◌++◌, length, slice_get}
use Rattle.std.specs.List.{list_any}
use Rattle.std.specs.Str.{bytes_eq}
use Rattle.std.specs.declared.option.Option.TheVariants.{None}
use Rattle.std.proofs.Common.{refl, sym, ap, ◌∙◌, subst, inl, inr, arith, append-nil}
use Rattle.std.proofs.lemmas.Bool.{le-leb, leb-true}
use Rattle.std.proofs.lemmas.Bool.Decides.{nat_tests}
unfoldable use Rattle.dm_reading.specs.Cuts.{pieces}
use Rattle.dm_reading.specs.Cuts.{onto_first}
use Rattle.dm_shape.specs.declared.sort.Sort.{Sort}
use Rattle.dm_shape.specs.declared.shape.Shape.{Shape}
use Rattle.dm_shape.specs.Begins.{fitting, fitting_row, greater, most_fitting}
unfoldable use Rattle.dm_shape.specs.Begins.{fitting_shape, words_that_begin, wrong_word}
use Rattle.dm_shape.specs.Shapes.{ShapeRow, all_shapes, fit, is_row}
use Rattle.dm_shape.specs.Sorts.{is_of}
use Rattle.dm_shape.specs.Laws.{IsLine, WordsBegin}
use Rattle.dm_line.specs.declared.line.Line.{Line}
use Rattle.dm_text.specs.Fits.{LineFits}
use Rattle.dm_text.specs.Text.{text}
use Rattle.dm_shape.proofs.Imports.{AreWords, line_words, line_words-are, row_of, spelled_line}
use Rattle.dm_shape.proofs.LinesFit.{RowOf, line_row}
use Rattle.dm_shape.proofs.Listed.{listed}
use Rattle.dm_shape.proofs.NamesRead.{some_piece}
use Rattle.dm_shape.proofs.ShapeLaws.{words_of_line}

-- none fits where there is none
pub none_fit : (ss : List Sort) → fitting ss [] ≡ 0
none_fit [] = refl
none_fit (s ∷ ss) = refl

-- the words that begin a line of a row are of its sorts
all_fit : (ss : List Sort) (xs ys : List (List ℕ)) → fit ss false (xs ++ ys) ≡ true → fitting ss xs ≡ length xs
all_fit [] [] ys h = refl
all_fit [] (x ∷ xs) ys h = absurd (cc h)
all_fit (s ∷ ss) [] ys h = refl
all_fit (s ∷ ss) (x ∷ xs) ys h = by (is_of s x) h (all_fit ss xs ys)
  where
    by : (t : Bool) → cond t (fit ss false (xs ++ ys)) false ≡ true → (fit ss false (xs ++ ys) ≡ true → fitting ss xs ≡ length xs) → cond t (suc (fitting ss xs)) 0 ≡ suc (length xs)
    by true h later = ap suc (later h)
    by false h later = absurd (cc h)

pub row_begins : (r : ShapeRow) (x : List ℕ) (xs ys : List (List ℕ)) → r.lists ≡ false → is_row r ((x ∷ xs) ++ ys) ≡ true → fitting_row r (x ∷ xs) ≡ length (x ∷ xs)
row_begins r x xs ys plain h = by (bytes_eq x r.name) h
  where
    by : (t : Bool) → cond t (fit r.sorts r.lists (xs ++ ys)) false ≡ true → cond t (suc (fitting r.sorts xs)) 0 ≡ suc (length xs)
    by true h = ap suc (all_fit r.sorts xs ys (subst (λ b. fit r.sorts b (xs ++ ys) ≡ true) plain h))
    by false h = absurd (cc h)

-- the most is no less than each
at_least : (m n : ℕ) → m ≤ greater m n
at_least m n = grind (arith, nat_tests)

as_many : (m n : ℕ) → n ≤ greater m n
as_many m n = grind (arith, nat_tests)

no_fewer : (k most : ℕ) (ss : List Shape) (text : List ℕ) → k ≤ most → k ≤ most_fitting most ss text
no_fewer k most [] text h = h
no_fewer k most (s ∷ ss) text h = no_fewer k (greater most (fitting_shape s text)) ss text (let up = at_least most (fitting_shape s text) in omega arith)

pub most_of_all : (k most : ℕ) (ss : List Shape) (text : List ℕ) → list_any (λ s. nat_le k (fitting_shape s text)) ss ≡ true → k ≤ most_fitting most ss text
most_of_all k most [] text h = absurd (cc h)
most_of_all k most (s ∷ ss) text h = by (nat_le k (fitting_shape s text)) refl h (most_of_all k (greater most (fitting_shape s text)) ss text)
  where
    by : (t : Bool) → nat_le k (fitting_shape s text) ≡ t → (t || list_any (λ s. nat_le k (fitting_shape s text)) ss) ≡ true → (list_any (λ s. nat_le k (fitting_shape s text)) ss ≡ true → k ≤ most_fitting (greater most (fitting_shape s text)) ss text) → k ≤ most_fitting (greater most (fitting_shape s text)) ss text
    by true is h later = no_fewer k (greater most (fitting_shape s text)) ss text (let few : k ≤ fitting_shape s text = leb-true k (fitting_shape s text) is in let up = as_many most (fitting_shape s text) in omega arith)
    by false is h later = later h

-- no word stands behind all of them
pub none_behind : (ws : List (List ℕ)) (k : ℕ) → length ws ≤ k → slice_get ws k ≡ None
none_behind [] k h = refl
none_behind (w ∷ ws) zero h = absurd (omega arith)
none_behind (w ∷ ws) (suc k) h = none_behind ws k (omega arith)

-- the words of a text that goes on behind a blank
pub pieces_before : (a b : List ℕ) → pieces 32 (a ++ 32 ∷ b) ≡ pieces 32 a ++ pieces 32 b
unfolding pieces
pieces_before [] b = refl
pieces_before (c ∷ a) b = by (nat_eq c 32) (pieces 32 a) refl (pieces_before a b)
  where
    by : (t : Bool) (ps : List (List ℕ)) → pieces 32 a ≡ ps → pieces 32 (a ++ 32 ∷ b) ≡ pieces 32 a ++ pieces 32 b
        → cond t ([] ∷ pieces 32 (a ++ 32 ∷ b)) (onto_first c (pieces 32 (a ++ 32 ∷ b))) ≡ cond t ([] ∷ pieces 32 a) (onto_first c (pieces 32 a)) ++ pieces 32 b
    by true ps is later = ap (λ xs. [] ∷ xs) later
    by false [] is later = absurd (some_piece 32 a is)
    by false (p ∷ ps) is later = ap (onto_first c) (later ∙ ap (λ xs. xs ++ pieces 32 b) is) ∙ sym (ap (λ xs. onto_first c xs ++ pieces 32 b) is)

-- a text of these words, with which a row begins, has no wrong one
none_wrong : (words : List ℕ) (ws ys : List (List ℕ)) → RowOf (ws ++ ys) → pieces 32 words ≡ ws → (ws ≡ [] → ⊥) → wrong_word words ≡ None
unfolding wrong_word words_that_begin
none_wrong words [] ys r is some = absurd (some refl)
none_wrong words (w ∷ ws) ys r is some =
    let k = length (w ∷ ws) in
    let fits : fitting_shape r.shape_ words ≡ k = r.printed words ∙ ap (fitting_row (row_of r.shape_)) is ∙ row_begins (row_of r.shape_) w ws ys r.plain r.is in
    let most : k ≤ most_fitting 0 all_shapes words = most_of_all k 0 all_shapes words (listed (λ s. nat_le k (fitting_shape s words)) r.shape_ (le-leb k (fitting_shape r.shape_ words) (omega arith))) in
    ap (λ ps. slice_get ps (most_fitting 0 all_shapes words)) is ∙ none_behind (w ∷ ws) (most_fitting 0 all_shapes words) most

words_are : (l : Line) (bytes : List ℕ) → LineFits l → IsLine bytes (text l) → pieces 32 bytes ≡ line_words l
words_are l bytes h e = by (line_words l) (line_words-are l h) e (line_row l h)
  where
    by : (ws : List (List ℕ)) → AreWords ws → IsLine bytes (spelled_line ws) → RowOf ws → pieces 32 bytes ≡ ws
    by [] h e r = absurd (let wrong = r.is in cc)
    by (w ∷ ws) h e r = words_of_line w ws bytes h e

pub words_begin : WordsBegin
words_begin l bytes words h e (inl same) =
    let is : pieces 32 words ≡ line_words l = ap (pieces 32) same ∙ words_are l bytes h e in
    none_wrong words (line_words l) [] (subst RowOf (sym (append-nil (line_words l))) (line_row l h)) is (λ none. some_piece 32 words (is ∙ none))
words_begin l bytes words h e (inr (rest, same)) =
    let is : line_words l ≡ pieces 32 words ++ pieces 32 rest = sym (words_are l bytes h e) ∙ ap (pieces 32) (sym same) ∙ pieces_before words rest in
    none_wrong words (pieces 32 words) (pieces 32 rest) (subst RowOf is (line_row l h)) refl (some_piece 32 words)
