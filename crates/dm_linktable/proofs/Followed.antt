-- A table whose slots have all been told where a process is.
use Rattle.dm_linktable.proofs.Names.{◌≡◌, ℕ, ◌==◌, false, List, [], ◌∷◌, Option, None, cond, count_by, get_or, length, map, refl, arith, common_steps, get_or-map, get_or_default, length-map, same_lists, bit_at-zero, bit_at, Pid, Link}
use Rattle.dm_linktable.proofs.Names.{retargeted_slot, slot_is_behind}

-- once no slot is left
pub all_followed : (p : Pid) (m c left : ℕ) (now old : List (Option Link)) → left ≡ 0 → length now ≡ length old → ((s : ℕ) → get_or now s None ≡ cond (bit_at left s == 1) (get_or old s None) (retargeted_slot p m c (get_or old s None))) → now ≡ map (retargeted_slot p m c) old
all_followed p m c left now old done same each =
    same_lists now (map (retargeted_slot p m c) old) (grind (arith, same, length-map old (retargeted_slot p m c)))
    (λ k d lt. grind (arith, same, done, each k, bit_at-zero k, get_or_default now k d None lt, get_or-map (retargeted_slot p m c) old k None d))

never_behind : (p : Pid) (m c : ℕ) (s : Option Link) → slot_is_behind p c (retargeted_slot p m c s) ≡ false
never_behind p m c s = grind (arith, common_steps)

pub none_behind : (p : Pid) (m c : ℕ) (ss : List (Option Link)) → count_by (slot_is_behind p c) (map (retargeted_slot p m c) ss) ≡ 0
none_behind p m c [] = refl
none_behind p m c (s ∷ ss) = grind (arith, common_steps, never_behind p m c s, none_behind p m c ss)
