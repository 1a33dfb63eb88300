-- One bit of a mask set or cleared.
use Rattle.dm_linktable.proofs.Names.{◌≡◌, ℕ, ◌-◌, ◌*◌, ◌%◌, ◌^◌, ◌<◌, ◌≤◌, ◌≢◌, ◌==◌, cond, arith, bit_or, bit_and, ⊎_elim, eq-zero-or-pos, cases_lt, common_steps, and_le_l, bit_at_set_same, bit_at_set_other, bit_at_clear_same}
use Rattle.dm_linktable.proofs.Names.{bit_at_clear_other, bit_at_above, bit_at-zero, bit_at, w128, and_lt}

pub or_above : (m s : ℕ) → s < 128 → 0 < bit_or m (1 * 2 ^ s % 2 ^ 128)
or_above m s lt = ⊎_elim (λ none. absurd (grind (arith, bit_at_set_same w128 m s lt, bit_at-zero s, none))) (λ some. some) (eq-zero-or-pos (bit_or m (1 * 2 ^ s % 2 ^ 128)))

pub bit_set : (m s t : ℕ) → s < 128 → bit_at (bit_or m (1 * 2 ^ s % 2 ^ 128)) t ≡ cond (t == s) 1 (bit_at m t)
bit_set m s t lt = grind (arith, common_steps, bit_at_set_same w128 m s lt, bit_at_set_other w128 m s lt t)

pub bit_clear : (m s t : ℕ) → s < 128 → m < 2 ^ 128 → bit_at (bit_and m (2 ^ 128 - 1 - 1 * 2 ^ s % 2 ^ 128)) t ≡ cond (t == s) 0 (bit_at m t)
bit_clear m s t lt fits =
    ⊎_elim
    (λ within. grind (arith, common_steps, bit_at_clear_same w128 m s lt, bit_at_clear_other w128 m s lt t within))
    (λ above. grind (arith, common_steps, bit_at_above m 128 t fits above, bit_at_above (bit_and m (2 ^ 128 - 1 - 1 * 2 ^ s % 2 ^ 128)) 128 t (and_lt 128 m (2 ^ 128 - 1 - 1 * 2 ^ s % 2 ^ 128) fits (omega arith)) above))
    (cases_lt t 128)

pub clear_less : (m s : ℕ) → s < 128 → m < 2 ^ 128 → bit_at m s ≡ 1 → bit_and m (2 ^ 128 - 1 - 1 * 2 ^ s % 2 ^ 128) < m
clear_less m s lt fits one =
    let cleared : ℕ = bit_and m (2 ^ 128 - 1 - 1 * 2 ^ s % 2 ^ 128) in
    let le : cleared ≤ m = and_le_l m (2 ^ 128 - 1 - 1 * 2 ^ s % 2 ^ 128) in
    let other : cleared ≢ m = λ e. absurd (grind (arith, one, e, bit_clear m s s lt fits)) in
    omega (arith, le, other)
