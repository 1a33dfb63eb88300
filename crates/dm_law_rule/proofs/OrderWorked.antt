-- Two processes move at once, each to the other's machine: what one kernel tells the other is in order, and wouldn't be the other way round.
use Rattle.dm_law_rule.proofs.Names.{◌≡◌, true, false, List, [], ◌∷◌, ◌++◌, filter, refl, Option, None, Some, pid_of, MsgId, id_of, instruction, Boot, bind, Step, View, Point, first_point, group_of, untaken, is_between_from, ordered}
use Rattle.dm_law_rule.proofs.Worked.{hi}

abbrev seen_behind : Boot → Point → List Step → Option View
seen_behind b pt [] = Some pt.view
seen_behind b pt (e ∷ es) = bind (group_of b pt e) (λ w. seen_behind b w.point es)

-- what machine 0 tells machine 1 of migrations, and hasn't been handled there
abbrev told : Option View → List MsgId
told None = []
told (Some v) = filter (is_between_from v 0) (v.inbox 1 ++ untaken (v.pair 0 1))

-- both are asked to move, machine 0 asks machine 1 for the one, accepts the other, and asks for its state
abbrev two_moves : List Step
two_moves = Step.Migrate (pid_of 0 3) 1 ∷ Step.Migrate (pid_of 1 3) 0 ∷ Step.Turn 0 ∷ Step.Deliver 0 1 0 ∷ Step.Turn 1 ∷ Step.Deliver 1 0 1 ∷ Step.Turn 0 ∷ []

pub both_told : told (seen_behind hi (first_point hi) two_moves) ≡ id_of (pid_of 0 0) 2 ∷ id_of (pid_of 0 0) 3 ∷ []
unfolding instruction
both_told = refl

-- an ask and what asks for a piece
pub in_order : ordered (λ i. true) 0 (id_of (pid_of 0 0) 2 ∷ id_of (pid_of 0 0) 3 ∷ []) ≡ true
in_order = refl

pub out_of_order : ordered (λ i. true) 0 (id_of (pid_of 0 0) 3 ∷ id_of (pid_of 0 0) 2 ∷ []) ≡ false
out_of_order = refl
