-- Sides, computed on a worked case: two processes, of which the first has a link to the second.
use Rattle.dm_law_always.proofs.Names.{◌≡◌, ◌∙◌, ap, refl, if◌then◌else◌, inl, inr, None, Some, Pid, pid_eq, pid_of, id_of, Label, manager, start}
use Rattle.dm_law_rule.proofs.Worked.{hi}
use Rattle.dm_law_sides.specs.Sides.{Sides, LinkKeeps, next_sides, reached, side_of}

-- all on side 5
abbrev one_side : Sides
one_side = record { of = λ p. 5; told = λ n. 5 }

-- the second on a side of its own
abbrev apart : Sides
apart = record { of = λ p. if pid_eq p (pid_of 1 3) then 6 else 5; told = λ n. 5 }

-- whom a link reaches: a process, the child that its code names, or nobody
pub reaches_process : reached (start hi) (pid_of 1 3) 7 ≡ Some (pid_of 1 3)
reaches_process = refl

pub reaches_child : reached (start hi) manager 2 ≡ Some (pid_of 1 3)
reaches_child = refl

pub reaches_nobody : reached (start hi) manager 0 ≡ None
reaches_nobody = refl

pub reaches_no_child : reached (start hi) manager 3 ≡ None
reaches_no_child = refl

-- the link of the file keeps to one side, and not where the two are apart; a link to the manager with code 0 keeps to any
pub keeps : LinkKeeps (start hi) one_side 5 (pid_of 1 3) 7
keeps = inr (pid_of 1 3, refl, (refl, refl))

crossing : (q : Pid) → Some (pid_of 1 3) ≡ Some q → apart.of q ≡ 5 → ⊥
crossing q is on =
    let same : pid_of 1 3 ≡ q = cc in
    let six : 6 ≡ 5 = ap apart.of same ∙ on in cc

pub crosses : LinkKeeps (start hi) apart 5 (pid_of 1 3) 7 → ⊥
crosses (inl (is, code)) = let number : 3 ≡ 2 = ap (λ (p : Pid). p.num) is in cc
crosses (inr (q, is, on)) = crossing q is on.0

pub asks_for_a_child : LinkKeeps (start hi) apart 6 manager 0
asks_for_a_child = inl (refl, refl)

-- the manager takes a message of the second: what it sends now, its number 0, is on that side, and what it sent or sends otherwise isn't
pub taken : side_of (next_sides (start hi) (Label.Took (id_of (pid_of 1 3) 0)) apart) (id_of manager 0) ≡ 6
taken = refl

pub not_taken : side_of (next_sides (start hi) (Label.Took (id_of (pid_of 1 3) 0)) apart) (id_of manager 1) ≡ 5
not_taken = refl

-- a process that is made is on the side of the request
pub made : (next_sides (start hi) (Label.Created (id_of manager 0) (pid_of 1 4)) (next_sides (start hi) (Label.Took (id_of (pid_of 1 3) 0)) apart)).of (pid_of 1 4) ≡ 6
made = refl
