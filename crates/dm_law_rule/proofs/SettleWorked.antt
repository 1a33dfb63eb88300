-- A settle, computed: what a small system does until nothing is on its way, and that nothing is left of a second one.
use Rattle.dm_law_rule.proofs.Names.{◌≡◌, ℕ, zero, suc, List, [], ◌∷◌, refl, None, Some, pid_of, id_of, MessageKind, Label, Step, Load, instruction, Boot, Directive, Line, Todo, all_of, next_step, Point, first_point, group_of}
use Rattle.dm_law_rule.proofs.Worked.{hi}

-- the groups of directives, at most so many, and whether no directive is left
pub data Came : Type 0 where
  Over : Came
  More : Came
  Stuck : Came
  Group : List Line → Came → Came

abbrev pub comes : ℕ → Boot → Point → Todo → Came
comes zero b pt t = More
comes (suc k) b pt t = elim (next_step 2 pt t) [ None ↦ Over | Some n ↦ elim (group_of b pt n.step) [ None ↦ Stuck | Some w ↦ Group w.lines (comes k b w.point n.left) ] ]

-- a process of machine 0 sends a message to one of machine 1: it comes, it is acknowledged, and machine 1 queues it; no process
-- is served any more, and two settles more have no group
pub settles : comes 9 hi (first_point hi) (all_of (Directive.One (Step.Turn 0) ∷ Directive.Settle ∷ Directive.Settle ∷ Directive.Settle ∷ []))
    ≡ Group (Line.Head (Step.Turn 0) ∷ Line.Label (Label.Ran (pid_of 0 3) 2) ∷ Line.Label (Label.Send (pid_of 0 3) (id_of (pid_of 0 3) 0)) ∷ Line.Put 0 1 (id_of (pid_of 0 3) 0) MessageKind.User (pid_of 1 3) ∷ Line.Packet 0 1 0 (Load.Data 0) ∷ [])
    (Group (Line.Head (Step.Deliver 0 1 0) ∷ Line.Taken 0 1 0 ∷ Line.Packet 1 0 0 (Load.Ack 1) ∷ [])
    (Group (Line.Head (Step.Deliver 1 0 0) ∷ Line.Acked 1 0 1 ∷ [])
    (Group (Line.Head (Step.Turn 1) ∷ Line.Queued (id_of (pid_of 0 3) 0) ∷ []) Over)))
unfolding instruction
settles = refl

-- it ends in the midst of a pass: the packet that was sent again stays undelivered, since all is quiet without it
pub ends_amid : comes 9 hi (first_point hi) (all_of (Directive.One (Step.Turn 0) ∷ Directive.One (Step.Deliver 0 1 0) ∷ Directive.One (Step.Turn 1) ∷ Directive.One (Step.Tick 0) ∷ Directive.One (Step.Deliver 1 0 0) ∷ Directive.Settle ∷ []))
    ≡ Group (Line.Head (Step.Turn 0) ∷ Line.Label (Label.Ran (pid_of 0 3) 2) ∷ Line.Label (Label.Send (pid_of 0 3) (id_of (pid_of 0 3) 0)) ∷ Line.Put 0 1 (id_of (pid_of 0 3) 0) MessageKind.User (pid_of 1 3) ∷ Line.Packet 0 1 0 (Load.Data 0) ∷ [])
    (Group (Line.Head (Step.Deliver 0 1 0) ∷ Line.Taken 0 1 0 ∷ Line.Packet 1 0 0 (Load.Ack 1) ∷ [])
    (Group (Line.Head (Step.Turn 1) ∷ Line.Queued (id_of (pid_of 0 3) 0) ∷ [])
    (Group (Line.Head (Step.Tick 0) ∷ Line.Resent 0 1 ∷ Line.Packet 0 1 1 (Load.Data 0) ∷ [])
    (Group (Line.Head (Step.Deliver 1 0 0) ∷ Line.Acked 1 0 1 ∷ []) Over))))
unfolding instruction
ends_amid = refl
