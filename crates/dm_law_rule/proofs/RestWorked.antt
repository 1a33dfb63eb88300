-- A rest, computed: what a small system does until nothing can go on, and that nothing is left of a second one.
use Rattle.dm_law_rule.proofs.Names.{◌≡◌, [], ◌∷◌, refl, pid_of, id_of, MessageKind, Label, Step, Load, instruction, Directive, Line, all_of, first_point, Exit}
use Rattle.dm_law_rule.proofs.SettleWorked.{comes, Over, Group}
use Rattle.dm_law_rule.proofs.Worked.{hi}

-- a process of machine 0 sends a message to one of machine 1, and both end: no turn is idle, and the rest ends before its passes are gone
-- through; another has no group
pub rests : comes 12 hi (first_point hi) (all_of (Directive.Rest 9 ∷ Directive.Rest 1 ∷ []))
    ≡ Group (Line.Head (Step.Turn 0) ∷ Line.Label (Label.Ran (pid_of 0 3) 2) ∷ Line.Label (Label.Send (pid_of 0 3) (id_of (pid_of 0 3) 0)) ∷ Line.Put 0 1 (id_of (pid_of 0 3) 0) MessageKind.User (pid_of 1 3) ∷ Line.Packet 0 1 0 (Load.Data 0) ∷ [])
    (Group (Line.Head (Step.Turn 1) ∷ Line.Label (Label.Ran (pid_of 1 3) 3) ∷ Line.Label (Label.Wait (pid_of 1 3)) ∷ [])
    (Group (Line.Head (Step.Deliver 0 1 0) ∷ Line.Taken 0 1 0 ∷ Line.Packet 1 0 0 (Load.Ack 1) ∷ [])
    (Group (Line.Head (Step.Deliver 1 0 0) ∷ Line.Acked 1 0 1 ∷ [])
    (Group (Line.Head (Step.Turn 0) ∷ Line.Label (Label.Ran (pid_of 0 3) 0) ∷ Line.Label (Label.End (pid_of 0 3) Exit) ∷ [])
    (Group (Line.Head (Step.Turn 1) ∷ Line.Queued (id_of (pid_of 0 3) 0) ∷ [])
    (Group (Line.Head (Step.Turn 1) ∷ Line.Label (Label.Receive (pid_of 1 3) (id_of (pid_of 0 3) 0)) ∷ [])
    (Group (Line.Head (Step.Turn 1) ∷ Line.Label (Label.Ran (pid_of 1 3) 2) ∷ Line.Label (Label.Out (pid_of 1 3) 104) ∷ [])
    (Group (Line.Head (Step.Turn 1) ∷ Line.Label (Label.Ran (pid_of 1 3) 0) ∷ Line.Label (Label.End (pid_of 1 3) Exit) ∷ []) Over))))))))
unfolding instruction
rests = refl

-- it ends behind its passes, though a process could still be served
pub ends_behind : comes 12 hi (first_point hi) (all_of (Directive.Rest 2 ∷ []))
    ≡ Group (Line.Head (Step.Turn 0) ∷ Line.Label (Label.Ran (pid_of 0 3) 2) ∷ Line.Label (Label.Send (pid_of 0 3) (id_of (pid_of 0 3) 0)) ∷ Line.Put 0 1 (id_of (pid_of 0 3) 0) MessageKind.User (pid_of 1 3) ∷ Line.Packet 0 1 0 (Load.Data 0) ∷ [])
    (Group (Line.Head (Step.Turn 1) ∷ Line.Label (Label.Ran (pid_of 1 3) 3) ∷ Line.Label (Label.Wait (pid_of 1 3)) ∷ [])
    (Group (Line.Head (Step.Deliver 0 1 0) ∷ Line.Taken 0 1 0 ∷ Line.Packet 1 0 0 (Load.Ack 1) ∷ [])
    (Group (Line.Head (Step.Deliver 1 0 0) ∷ Line.Acked 1 0 1 ∷ [])
    (Group (Line.Head (Step.Turn 0) ∷ Line.Label (Label.Ran (pid_of 0 3) 0) ∷ Line.Label (Label.End (pid_of 0 3) Exit) ∷ [])
    (Group (Line.Head (Step.Turn 1) ∷ Line.Queued (id_of (pid_of 0 3) 0) ∷ []) Over)))))
unfolding instruction
ends_behind = refl

-- it ends in the midst of a pass: the acknowledgement that came again stays undelivered, since all is at rest without it
pub rests_amid : comes 12 hi (first_point hi)
    (all_of (Directive.One (Step.Turn 0) ∷ Directive.One (Step.Deliver 0 1 0) ∷ Directive.One (Step.Deliver 0 1 0) ∷ Directive.One (Step.Turn 0) ∷ Directive.One (Step.Turn 1) ∷ Directive.One (Step.Turn 1) ∷ Directive.One (Step.Turn 1) ∷ Directive.One (Step.Turn 1) ∷ Directive.One (Step.Turn 1) ∷ Directive.Rest 3 ∷ Directive.Rest 1 ∷ []))
    ≡ Group (Line.Head (Step.Turn 0) ∷ Line.Label (Label.Ran (pid_of 0 3) 2) ∷ Line.Label (Label.Send (pid_of 0 3) (id_of (pid_of 0 3) 0)) ∷ Line.Put 0 1 (id_of (pid_of 0 3) 0) MessageKind.User (pid_of 1 3) ∷ Line.Packet 0 1 0 (Load.Data 0) ∷ [])
    (Group (Line.Head (Step.Deliver 0 1 0) ∷ Line.Taken 0 1 0 ∷ Line.Packet 1 0 0 (Load.Ack 1) ∷ [])
    (Group (Line.Head (Step.Deliver 0 1 0) ∷ Line.Old 0 1 0 ∷ Line.Packet 1 0 1 (Load.Ack 1) ∷ [])
    (Group (Line.Head (Step.Turn 0) ∷ Line.Label (Label.Ran (pid_of 0 3) 0) ∷ Line.Label (Label.End (pid_of 0 3) Exit) ∷ [])
    (Group (Line.Head (Step.Turn 1) ∷ Line.Queued (id_of (pid_of 0 3) 0) ∷ [])
    (Group (Line.Head (Step.Turn 1) ∷ Line.Label (Label.Ran (pid_of 1 3) 3) ∷ Line.Label (Label.Wait (pid_of 1 3)) ∷ [])
    (Group (Line.Head (Step.Turn 1) ∷ Line.Label (Label.Receive (pid_of 1 3) (id_of (pid_of 0 3) 0)) ∷ [])
    (Group (Line.Head (Step.Turn 1) ∷ Line.Label (Label.Ran (pid_of 1 3) 2) ∷ Line.Label (Label.Out (pid_of 1 3) 104) ∷ [])
    (Group (Line.Head (Step.Turn 1) ∷ Line.Label (Label.Ran (pid_of 1 3) 0) ∷ Line.Label (Label.End (pid_of 1 3) Exit) ∷ [])
    (Group (Line.Head (Step.Deliver 1 0 0) ∷ Line.Acked 1 0 1 ∷ []) Over)))))))))
unfolding instruction
rests_amid = refl
