-- Numbers that are not told apart from a number on.
use Rattle.dm_reading.proofs.Names.{ℕ, ◌≡◌, ◌+◌, ◌*◌, ◌<◌, List, [], ◌∷◌, length, drop, get_or, min, refl, ap, sym, ◌∙◌, add-one, drop-cons, arith, Option, Some, None, option_map, option_and_then, Base, Ten, Sixteen, base_of, digit, digits_after}

-- a number, at most so much
abbrev pub capped : ℕ → Option ℕ → Option ℕ
capped most n = option_map (λ x. min x most) n

-- two numbers that are not told apart, with one digit more
alike-digit : (base : Base) (most x y d : ℕ) → min x most ≡ min y most → min (base_of base * x + d) most ≡ min (base_of base * y + d) most
alike-digit Sixteen most x y d h = omega arith
alike-digit Ten most x y d h = omega arith

-- the same, behind a digit
alike-next : (base : Base) (most x y : ℕ) (cs : List ℕ) (o : Option ℕ) → ((d : ℕ) → capped most (digits_after base (base_of base * x + d) cs) ≡ capped most (digits_after base (base_of base * y + d) cs)) → capped most (option_and_then (λ d. digits_after base (base_of base * x + d) cs) o) ≡ capped most (option_and_then (λ d. digits_after base (base_of base * y + d) cs) o)
alike-next base most x y cs None h = refl
alike-next base most x y cs (Some d) h = h d

-- two numbers that are not told apart go on alike
alike : (base : Base) (most x y : ℕ) (cs : List ℕ) → min x most ≡ min y most → capped most (digits_after base x cs) ≡ capped most (digits_after base y cs)
alike base most x y [] h = ap Some h
alike base most x y (c ∷ cs) h =
    alike-next base most x y cs (digit base c) (λ d. alike base most (base_of base * x + d) (base_of base * y + d) cs (alike-digit base most x y d h))

-- one digit is read
pub digit-read : (base : Base) (most v new d i : ℕ) (xs : List ℕ) → i < length xs → Some d ≡ digit base (get_or xs i 0) → new ≡ min (base_of base * v + d) most → capped most (digits_after base new (drop (i + 1) xs)) ≡ capped most (digits_after base v (drop i xs))
digit-read base most v new d i xs h e f =
    let a : capped most (digits_after base new (drop (i + 1) xs)) ≡ capped most (digits_after base (base_of base * v + d) (drop (i + 1) xs)) = alike base most new (base_of base * v + d) (drop (i + 1) xs) (omega arith) in
    let b : drop i xs ≡ get_or xs i 0 ∷ drop (i + 1) xs = drop-cons xs i 0 h ∙ ap (λ (k : ℕ). get_or xs i 0 ∷ drop k xs) (sym (add-one i)) in
    a ∙ sym (rw (b, ← e) refl)
