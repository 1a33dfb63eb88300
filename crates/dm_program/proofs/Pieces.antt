-- Pieces that are written one behind another.
use Rattle.dm_program.proofs.Names.{◌≡◌, ℕ, zero, suc, ◌+◌, ◌<◌, ◌≤◌, List, [], ◌∷◌, ◌++◌, length, take, drop, map, get_or, refl, ap, sym, subst, ◌∙◌, arith, append_assoc, append-nil, length-append, take-append-le, concat, RoseOrFull}
use Rattle.dm_program.proofs.Names.{appended, appended_twice, IsCutShort}
use Rattle.std.specs.declared.option.Option.{Option}

-- one piece more
pub taken_more : {X : Type 0} (f : X → List ℕ) (xs : List X) (i : ℕ) (d : X) → i < length xs → concat (map f (take (i + 1) xs)) ≡ concat (map f (take i xs)) ++ f (get_or xs i d)
taken_more f [] i d within = absurd (omega arith)
taken_more f (x ∷ xs) zero d within = append-nil (f x)
taken_more f (x ∷ xs) (suc i) d within =
    let one : suc i + 1 ≡ suc (i + 1) = omega arith in
    ap (λ k. concat (map f (take k (x ∷ xs)))) one
    ∙ ap (λ t. f x ++ t) (taken_more f xs i d (omega arith))
    ∙ sym (append_assoc (f x) (concat (map f (take i xs))) (f (get_or xs i d)))

-- all of them, around one
pub whole_at : {X : Type 0} (f : X → List ℕ) (xs : List X) (i : ℕ) (d : X) → i < length xs → concat (map f xs) ≡ concat (map f (take i xs)) ++ (f (get_or xs i d) ++ concat (map f (drop (i + 1) xs)))
whole_at f [] i d within = absurd (omega arith)
whole_at f (x ∷ xs) zero d within = refl
whole_at f (x ∷ xs) (suc i) d within =
    let one : suc i + 1 ≡ suc (i + 1) = omega arith in
    ap (λ t. f x ++ t) (whole_at f xs i d (omega arith))
    ∙ sym (append_assoc (f x) (concat (map f (take i xs))) (f (get_or xs i d) ++ concat (map f (drop (i + 1) xs))))
    ∙ ap (λ k. (f x ++ concat (map f (take i xs))) ++ (f (get_or xs i d) ++ concat (map f (drop k (x ∷ xs))))) (sym one)

pub take_behind : (front piece rest : List ℕ) (n : ℕ) → n ≤ length piece → take (length front + n) (front ++ (piece ++ rest)) ≡ front ++ take n piece
take_behind [] piece rest n within =
    let none : 0 + n ≡ n = omega arith in
    ap (λ k. take k (piece ++ rest)) none ∙ take-append-le n piece rest within
take_behind (x ∷ front) piece rest n within =
    let one : suc (length front) + n ≡ suc (length front + n) = omega arith in
    ap (λ k. take k (x ∷ (front ++ (piece ++ rest)))) one ∙ ap (λ t. x ∷ t) (take_behind front piece rest n within)

-- a piece that was cut short cuts the whole
pub cut_at : (old now new : Option (List ℕ)) (front piece rest : List ℕ) → now ≡ appended old front → IsCutShort now piece new → IsCutShort old (front ++ (piece ++ rest)) new
cut_at old now new front piece rest e h = record {
  count = length front + h.count;
  fewer = omega (arith, h.fewer, length-append front (piece ++ rest), length-append piece rest);
  taken =
      h.taken
      ∙ ap (λ o. appended o (take h.count piece)) e
      ∙ appended_twice old front (take h.count piece)
      ∙ ap (λ t. appended old t) (sym (take_behind front piece rest h.count (omega (arith, h.fewer))));
}

-- one piece more was appended
pub one_more : {X : Type 0} (f : X → List ℕ) (xs : List X) (i : ℕ) (d : X) (old now new : Option (List ℕ)) → i < length xs → now ≡ appended old (concat (map f (take i xs))) → new ≡ appended now (f (get_or xs i d)) → new ≡ appended old (concat (map f (take (i + 1) xs)))
one_more f xs i d old now new within e n =
    n
    ∙ ap (λ o. appended o (f (get_or xs i d))) e
    ∙ appended_twice old (concat (map f (take i xs))) (f (get_or xs i d))
    ∙ ap (λ t. appended old t) (sym (taken_more f xs i d within))

-- one piece was cut short
pub cut_in : {X : Type 0} (f : X → List ℕ) (xs : List X) (i : ℕ) (d : X) (old now new : Option (List ℕ)) → i < length xs → now ≡ appended old (concat (map f (take i xs))) → IsCutShort now (f (get_or xs i d)) new → IsCutShort old (concat (map f xs)) new
cut_in f xs i d old now new within e h =
    subst (λ w. IsCutShort old w new) (sym (whole_at f xs i d within))
    (cut_at old now new (concat (map f (take i xs))) (f (get_or xs i d)) (concat (map f (drop (i + 1) xs))) e h)

-- a count that rose from what it was before
pub rose_from : (old now new : ℕ) → now ≡ old → RoseOrFull now new → RoseOrFull old new
rose_from old now new e h = subst (λ n. RoseOrFull n new) e h
