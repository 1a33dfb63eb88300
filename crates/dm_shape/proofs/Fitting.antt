-- Words of a line, one by one.
use Rattle.dm_shape.proofs.Imports.{◌≡◌, ℕ, ◌<◌, Bool, true, false, ◌&&◌, List, [], ◌∷◌, length, drop, drop-cons, refl, ap, ◌∙◌, arith, Bor, Some, None, list_all, option_map, Option, pieces, Sort, behind, ends_so}
use Rattle.dm_shape.proofs.Imports.{fit, is_of, alone}
use Rattle.dm_shape.specs.declared.sort.Sort.TheVariants as sort
use Rattle.dm_shape.proofs.NamesRead.{some_piece}

-- what stands behind a piece
abbrev pub text_of : Option (Bor (List ℕ)) → Option (List ℕ)
text_of o = option_map (λ t. t.now) o

pub behind_some : (sep : ℕ) (o : Option (Bor (List ℕ))) (t : Bor (List ℕ)) → o ≡ Some t → behind sep (text_of o) ≡ pieces sep t.now
behind_some sep o t e = ap (λ (o : Option (Bor (List ℕ))). behind sep (text_of o)) e

pub behind_none : (sep : ℕ) (o : Option (Bor (List ℕ))) → o ≡ None → behind sep (text_of o) ≡ []
behind_none sep o e = ap (λ (o : Option (Bor (List ℕ))). behind sep (text_of o)) e

pub split_some : (sep : ℕ) (w a : List ℕ) (o : Option (Bor (List ℕ))) (t : Bor (List ℕ)) → pieces sep w ≡ a ∷ behind sep (text_of o) → o ≡ Some t → pieces sep w ≡ a ∷ pieces sep t.now
split_some sep w a o t h e = h ∙ ap (λ ps. a ∷ ps) (behind_some sep o t e)

-- a word before others isn't alone
alone_before : (w : List ℕ) (ps : List (List ℕ)) → (ps ≡ [] → ⊥) → alone (w ∷ ps) ≡ None
alone_before w [] h = absurd (h refl)
alone_before w (p ∷ ps) h = refl

pub alone_more : (w text : List ℕ) → alone (w ∷ pieces 32 text) ≡ None
alone_more w text = alone_before w (pieces 32 text) (some_piece 32 text)

ends_with_words : (lists : Bool) (ps : List (List ℕ)) → (ps ≡ [] → ⊥) → ends_so lists ps ≡ (lists && list_all (is_of sort.Message) ps)
ends_with_words true [] h = absurd (h refl)
ends_with_words true (p ∷ ps) h = refl
ends_with_words false [] h = absurd (h refl)
ends_with_words false (p ∷ ps) h = refl

pub ends_in_words : (lists : Bool) (text : List ℕ) → ends_so lists (pieces 32 text) ≡ (lists && list_all (is_of sort.Message) (pieces 32 text))
ends_in_words lists text = ends_with_words lists (pieces 32 text) (some_piece 32 text)

-- a word is due, and none is left
pub no_word_left : (sorts : List Sort) (i : ℕ) (lists : Bool) → i < length sorts → fit (drop i sorts) lists [] ≡ false
no_word_left [] i lists h = absurd (omega arith)
no_word_left (s ∷ ss) i lists h = ap (λ xs. fit xs lists []) (drop-cons (s ∷ ss) i s h)
