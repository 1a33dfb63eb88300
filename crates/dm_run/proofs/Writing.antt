-- Bytes that are written piece by piece.
use Rattle.dm_run.proofs.Names.{◌≡◌, ℕ, ◌+◌, ◌-◌, ◌<◌, ◌≤◌, List, ◌++◌, length, take, drop, refl, ap, sym, ◌∙◌, append_assoc, arith, take-append-drop, take-take, drop-take, take_rest, length-drop, Option, appended}
use Rattle.std.proofs.Common.{None, Some}

-- two pieces, one after the other
pub take_both : (bytes : List ℕ) (done n : ℕ) → take done bytes ++ take n (drop done bytes) ≡ take (done + n) bytes
take_both bytes done n =
    sym (ap (λ t. t ++ take n (drop done bytes)) (take-take done (done + n) bytes (omega arith)))
    ∙ ap (λ t. take done (take (done + n) bytes) ++ t) (sym (drop-take done n bytes))
    ∙ take-append-drop done (take (done + n) bytes)

-- more at the end of what was appended
pub appended_twice : (old : Option (List ℕ)) (a b : List ℕ) → appended (appended old a) b ≡ appended old (a ++ b)
appended_twice None a b = refl
appended_twice (Some old) a b = ap Some (append_assoc old a b)

-- one more piece is taken
pub takes_more : (old now new : Option (List ℕ)) (bytes : List ℕ) (done n : ℕ) → now ≡ appended old (take done bytes) → new ≡ appended now (take n (take (length bytes - done) (drop done bytes))) → new ≡ appended old (take (done + n) bytes)
takes_more old now new bytes done n e f =
    f
    ∙ ap (λ t. appended t (take n (take (length bytes - done) (drop done bytes)))) e
    ∙ ap (λ r. appended (appended old (take done bytes)) (take n r)) (take_rest bytes done)
    ∙ appended_twice old (take done bytes) (take n (drop done bytes))
    ∙ ap (λ t. appended old t) (take_both bytes done n)

-- and it is within what was left
pub within_rest : (bytes : List ℕ) (done n : ℕ) → done < length bytes → n ≤ length (take (length bytes - done) (drop done bytes)) → done + n ≤ length bytes
within_rest bytes done n below w = omega (arith, ap length (take_rest bytes done), length-drop done bytes)

-- something is left where fewer than all were taken
pub some_left : (bytes : List ℕ) (n : ℕ) → n < length bytes → 0 < length (drop n bytes)
some_left bytes n fewer = omega (arith, length-drop n bytes)
