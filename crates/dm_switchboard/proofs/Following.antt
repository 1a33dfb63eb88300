-- Entries that are told one by one are all told.
use Rattle.dm_switchboard.proofs.Imports.{◌≡◌, ℕ, zero, suc, ◌+◌, ◌≤◌, if◌then◌else◌, [], ◌∷◌, length, map, count_by, slice_get, Some, refl, ap, arith, common_steps, ArrayVec, set_value_at, Pid, Link, is_behind, retargeted_link, listed}
use Rattle.dm_switchboard.proofs.Imports.{named_is_behind, retargeted_named, Entries, behind_at, counted, followed, told_at}

pub told_set : (p : Pid) (m c n : ℕ) (es : Entries) (e : ArrayVec ℕ × Link) → slice_get es n ≡ Some e → set_value_at es n (retargeted_link p m c e.1) ≡ told_at p m c n es
told_set p m c n [] e h = refl
told_set p m c zero (x ∷ es) e h = grind (arith, common_steps, h)
told_set p m c (suc n) (x ∷ es) e h = ap (λ xs. x ∷ xs) (told_set p m c n es e (grind (arith, common_steps, h)))

pub behind_set : (p : Pid) (c n : ℕ) (es : Entries) (e : ArrayVec ℕ × Link) → slice_get es n ≡ Some e → behind_at p c n es ≡ is_behind p c e.1.addr
behind_set p c n [] e h = absurd (grind (arith, common_steps, h))
behind_set p c zero (x ∷ es) e h = grind (arith, common_steps, h)
behind_set p c (suc n) (x ∷ es) e h = behind_set p c n es e (grind (arith, common_steps, h))

pub length_followed : (p : Pid) (m c n : ℕ) (es : Entries) → length (followed p m c n es) ≡ length es
length_followed p m c zero es = refl
length_followed p m c (suc n) [] = refl
length_followed p m c (suc n) (e ∷ es) = ap suc (length_followed p m c n es)

told_suc : (p : Pid) (m c n : ℕ) (es : Entries) → told_at p m c n (followed p m c n es) ≡ followed p m c (suc n) es
told_suc p m c zero [] = refl
told_suc p m c zero (e ∷ es) = refl
told_suc p m c (suc n) [] = refl
told_suc p m c (suc n) (e ∷ es) = ap (λ (xs : Entries). (e.0, retargeted_link p m c e.1) ∷ xs) (told_suc p m c n es)

pub told_next : (p : Pid) (m c n : ℕ) (es : Entries) → told_at p m c n (followed p m c n es) ≡ followed p m c (n + 1) es
told_next p m c n es = grind (arith, told_suc p m c n es)

pub behind_later : (p : Pid) (m c n : ℕ) (es : Entries) → behind_at p c n (followed p m c n es) ≡ behind_at p c n es
behind_later p m c zero es = refl
behind_later p m c (suc n) [] = refl
behind_later p m c (suc n) (e ∷ es) = behind_later p m c n es

counted_suc : (p : Pid) (c n : ℕ) (es : Entries) → counted p c (suc n) es ≡ counted p c n es + (if behind_at p c n es then 1 else 0)
counted_suc p c zero [] = refl
counted_suc p c zero (e ∷ es) = grind arith
counted_suc p c (suc n) [] = refl
counted_suc p c (suc n) (e ∷ es) = grind (arith, counted_suc p c n es)

pub counted_next : (p : Pid) (c n : ℕ) (es : Entries) → counted p c (n + 1) es ≡ counted p c n es + (if behind_at p c n es then 1 else 0)
counted_next p c n es = grind (arith, counted_suc p c n es)

pub counted_within : (p : Pid) (c n : ℕ) (es : Entries) → counted p c n es ≤ n
counted_within p c zero es = omega arith
counted_within p c (suc n) [] = omega arith
counted_within p c (suc n) (e ∷ es) = grind (arith, counted_within p c n es)

pub all_followed : (p : Pid) (m c : ℕ) (es : Entries) → listed (followed p m c (length es) es) ≡ map (retargeted_named p m c) (listed es)
all_followed p m c [] = refl
all_followed p m c (e ∷ es) = cc (all_followed p m c es)

pub all_counted : (p : Pid) (c : ℕ) (es : Entries) → counted p c (length es) es ≡ count_by (named_is_behind p c) (listed es)
all_counted p c [] = refl
all_counted p c (e ∷ es) = grind (arith, common_steps, all_counted p c es)
