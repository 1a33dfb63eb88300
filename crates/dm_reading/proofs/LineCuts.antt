-- The lines of a text, cut at its line feeds.
use Rattle.dm_reading.proofs.Names.{ℕ, zero, suc, Bool, true, false, ◌&&◌, nat_lt, ◌≡◌, ◌+◌, ◌-◌, ◌<◌, ◌≤◌, List, [], ◌∷◌, length, take, drop, get_or, refl, ap, sym, ◌∙◌, arith, position, Some, None, if◌then◌else◌, nat_tests, position-Some}
use Rattle.dm_reading.proofs.Names.{ends_line, is_return, line_ends, lines, source_lines, onto_first}
use Rattle.dm_reading.proofs.Cuts.{drop-more, position-None}

-- nothing has no lines
lines-nil : lines [] ≡ []
unfolding lines
lines-nil = refl

pub lines-none : (text : List ℕ) → length text ≡ 0 → lines text ≡ []
lines-none [] e = lines-nil
lines-none (c ∷ cs) e = absurd (omega arith)

-- the same of lines with all that stands before their line feeds
pub source_lines-none : (text : List ℕ) → length text ≡ 0 → source_lines text ≡ []
unfolding source_lines
source_lines-none [] e = refl
source_lines-none (c ∷ cs) e = absurd (omega arith)

-- a false test behind another
and_false : (a b : Bool) → b ≡ false → (a && b) ≡ false
and_false true b e = e
and_false false b e = refl

-- a byte of the first line
lines-onto : (x : ℕ) (xs : List ℕ) → ends_line x ≡ false → (is_return x && line_ends xs) ≡ false → lines (x ∷ xs) ≡ onto_first x (lines xs)
unfolding lines
lines-onto x xs f g = rw (f, g) refl

-- an end of line
lines-end : (x : ℕ) (xs : List ℕ) → ends_line x ≡ true → lines (x ∷ xs) ≡ [] ∷ lines xs
unfolding lines
lines-end x xs p = rw p refl

-- a carriage return directly before a line feed
lines-return : (x : ℕ) (xs : List ℕ) → ends_line x ≡ false → (is_return x && line_ends xs) ≡ true → lines (x ∷ xs) ≡ lines xs
unfolding lines
lines-return x xs f g = rw (f, g) refl

-- the length of the line that ends before the line feed there
abbrev pub stop : List ℕ → ℕ → ℕ
stop xs zero = zero
stop [] (suc i) = zero
stop (x ∷ xs) (suc zero) = if is_return x then 0 else 1
stop (x ∷ xs) (suc (suc i)) = suc (stop xs (suc i))

-- one byte before a line feed
lines-short : (b : Bool) (x y : ℕ) (ys : List ℕ) → ends_line x ≡ false → ends_line y ≡ true → is_return x ≡ b → lines (x ∷ y ∷ ys) ≡ take (if b then 0 else 1) (x ∷ y ∷ ys) ∷ lines ys
lines-short true x y ys f p e = lines-return x (y ∷ ys) f (rw e p) ∙ lines-end y ys p
lines-short false x y ys f p e = lines-onto x (y ∷ ys) f (rw e refl) ∙ ap (onto_first x) (lines-end y ys p)

-- a text is cut at the first line feed
lines-at : (xs : List ℕ) (i : ℕ) → i < length xs → ends_line (get_or xs i 0) ≡ true → ((k : ℕ) → k < i → ends_line (get_or xs k 0) ≡ false) → lines xs ≡ take (stop xs i) xs ∷ lines (drop (i + 1) xs)
lines-at [] i h p q = absurd (omega arith)
lines-at (x ∷ xs) zero h p q = lines-end x xs p
lines-at (x ∷ []) (suc i) h p q = absurd (omega arith)
lines-at (x ∷ y ∷ ys) (suc zero) h p q = lines-short (is_return x) x y ys (q 0 (omega arith)) p refl
lines-at (x ∷ y ∷ ys) (suc (suc i)) h p q =
    let e : lines (y ∷ ys) ≡ take (stop (y ∷ ys) (suc i)) (y ∷ ys) ∷ lines (drop (suc i + 1) (y ∷ ys)) = lines-at (y ∷ ys) (suc i) (omega arith) p (λ k l. q (suc k) (omega arith)) in
    lines-onto x (y ∷ ys) (q 0 (omega arith)) (and_false (is_return x) (ends_line y) (q 1 (omega arith))) ∙ ap (onto_first x) e ∙ ap (λ (r : List ℕ). take (suc (stop (y ∷ ys) (suc i))) (x ∷ y ∷ ys) ∷ lines r) (sym (drop-more x (y ∷ ys) (suc i)))

-- a text without a line feed is one line
lines-one : (x : ℕ) (xs : List ℕ) → ((k : ℕ) → k < length (x ∷ xs) → ends_line (get_or (x ∷ xs) k 0) ≡ false) → lines (x ∷ xs) ≡ (x ∷ xs) ∷ lines []
lines-one x [] q = lines-onto x [] (q 0 (omega arith)) (and_false (is_return x) false refl) ∙ ap (onto_first x) lines-nil ∙ ap (λ (r : List (List ℕ)). (x ∷ []) ∷ r) (sym lines-nil)
lines-one x (y ∷ xs) q =
    lines-onto x (y ∷ xs) (q 0 (omega arith)) (and_false (is_return x) (ends_line y) (q 1 (omega arith))) ∙ ap (onto_first x) (lines-one y xs (λ k l. q (suc k) (omega arith)))

-- by the byte before
stop-by : (b : Bool) (i : ℕ) → suc (if b then i else suc i) ≡ (if b then suc i else suc (suc i))
stop-by true i = refl
stop-by false i = refl

-- the length, by the byte before the line feed
stop-later : (xs : List ℕ) (i : ℕ) → i < length xs → stop xs (suc i) ≡ (if is_return (get_or xs i 0) then i else suc i)
stop-later [] i h = absurd (omega arith)
stop-later (x ∷ xs) zero h = refl
stop-later (x ∷ xs) (suc i) h = ap suc (stop-later xs i (omega arith)) ∙ stop-by (is_return (get_or xs i 0)) i

stop-is : (xs : List ℕ) (i : ℕ) → i < length xs → stop xs i ≡ (if nat_lt 0 i && is_return (get_or xs (i - 1) 0) then i - 1 else i)
stop-is xs zero h = refl
stop-is xs (suc i) h =
    let e : suc i - 1 ≡ i = omega arith in
    let g : nat_lt 0 (suc i) ≡ true = grind (arith, nat_tests) in
    rw (e, g) (stop-later xs i (omega arith))

-- the first line ends at the first line feed
pub lines-first : (xs : List ℕ) (i n : ℕ) → position ends_line xs ≡ Some i → n ≡ (if nat_lt 0 i && is_return (get_or xs (i - 1) 0) then i - 1 else i) → lines xs ≡ take n xs ∷ lines (drop (i + 1) xs)
lines-first xs i n e l =
    let h = position-Some ends_line xs i 0 e in
    lines-at xs i h.0 h.1 h.2 ∙ ap (λ (k : ℕ). take k xs ∷ lines (drop (i + 1) xs)) (stop-is xs i h.0 ∙ sym l)

-- or it is all
lines-all : (xs : List ℕ) → ((k : ℕ) → k < length xs → ends_line (get_or xs k 0) ≡ false) → 0 < length xs → lines xs ≡ xs ∷ lines []
lines-all [] q l = absurd (omega arith)
lines-all (x ∷ xs) q l = lines-one x xs q

pub lines-whole : (xs : List ℕ) → position ends_line xs ≡ None → 0 < length xs → lines xs ≡ xs ∷ lines []
lines-whole xs e l = lines-all xs (position-None ends_line xs e) l
