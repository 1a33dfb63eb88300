-- A process moves and ends: its machine forgets it and tells the one that it came from, which forgets it too.
use Rattle.dm_law_rule.proofs.Names.{◌≡◌, List, [], ◌∷◌, refl, Some, pid_of, id_of, MessageKind, Load, Stage, instruction, Boot, One, Step, Label, Line, first_point, Exit}
use Rattle.dm_law_rule.proofs.Worked.{groups}

abbrev two : Boot
two = record {
  numbers = 1048576;
  quantum = 16;
  format = One;
  machines = record { slots = 2; blocks = 2 } ∷ record { slots = 2; blocks = 2 } ∷ [];
  images = record { bytes = 20 ∷ 0 ∷ 0 ∷ 1 ∷ []; blocks = 1 } ∷ [];
  processes = record { pid = pid_of 0 3; name = []; image = 0; links = [] } ∷ [];
}

abbrev directives : List Step
directives =
    Step.Migrate (pid_of 0 3) 1 ∷ Step.Turn 0 ∷ Step.Deliver 0 1 0 ∷ Step.Turn 1 ∷ Step.Deliver 1 0 0 ∷ Step.Deliver 1 0 1 ∷ Step.Turn 0 ∷ Step.Deliver 0 1 1
    ∷ Step.Deliver 0 1 2 ∷ Step.Turn 1 ∷ Step.Deliver 1 0 2 ∷ Step.Deliver 1 0 3 ∷ Step.Turn 0 ∷ Step.Deliver 0 1 3 ∷ Step.Deliver 0 1 4 ∷ Step.Turn 1
    ∷ Step.Deliver 1 0 4 ∷ Step.Deliver 1 0 5 ∷ Step.Turn 0 ∷ Step.Deliver 0 1 5 ∷ Step.Deliver 0 1 6 ∷ Step.Turn 1 ∷ Step.Turn 1 ∷ Step.Deliver 1 0 6
    ∷ Step.Deliver 1 0 7 ∷ Step.Turn 0 ∷ []

abbrev said : List (List Line)
said =
    (Line.Head (Step.Migrate (pid_of 0 3) 1) ∷ Line.Put 0 0 (id_of (pid_of 0 0) 0) MessageKind.Migrate (pid_of 0 3) ∷ [])
    ∷ (Line.Head (Step.Turn 0) ∷ Line.Migration Stage.Frozen (pid_of 0 3) ∷ Line.Migration Stage.Asked (pid_of 0 3) ∷ Line.Put 0 1 (id_of (pid_of 0 0) 1) MessageKind.Ask (pid_of 1 0) ∷ Line.Packet 0 1 0 (Load.Data 0) ∷ [])
    ∷ (Line.Head (Step.Deliver 0 1 0) ∷ Line.Taken 0 1 0 ∷ Line.Packet 1 0 0 (Load.Ack 1) ∷ [])
    ∷ (Line.Head (Step.Turn 1) ∷ Line.Migration Stage.Accepted (pid_of 0 3) ∷ Line.Put 1 0 (id_of (pid_of 1 0) 0) MessageKind.PullState (pid_of 0 0) ∷ Line.Packet 1 0 1 (Load.Data 0) ∷ [])
    ∷ (Line.Head (Step.Deliver 1 0 0) ∷ Line.Acked 1 0 1 ∷ [])
    ∷ (Line.Head (Step.Deliver 1 0 1) ∷ Line.Taken 1 0 0 ∷ Line.Packet 0 1 1 (Load.Ack 1) ∷ [])
    ∷ (Line.Head (Step.Turn 0) ∷ Line.Proto (id_of (pid_of 1 0) 0) ∷ Line.Put 0 1 (id_of (pid_of 0 0) 2) MessageKind.State (pid_of 1 0) ∷ Line.Packet 0 1 2 (Load.Data 1) ∷ [])
    ∷ (Line.Head (Step.Deliver 0 1 1) ∷ Line.Acked 0 1 1 ∷ [])
    ∷ (Line.Head (Step.Deliver 0 1 2) ∷ Line.Taken 0 1 1 ∷ Line.Packet 1 0 2 (Load.Ack 2) ∷ [])
    ∷ (Line.Head (Step.Turn 1) ∷ Line.Migration Stage.StateTaken (pid_of 0 3) ∷ Line.Put 1 0 (id_of (pid_of 1 0) 1) MessageKind.PullBlock (pid_of 0 0) ∷ Line.Packet 1 0 3 (Load.Data 1) ∷ [])
    ∷ (Line.Head (Step.Deliver 1 0 2) ∷ Line.Acked 1 0 2 ∷ [])
    ∷ (Line.Head (Step.Deliver 1 0 3) ∷ Line.Taken 1 0 1 ∷ Line.Packet 0 1 3 (Load.Ack 2) ∷ [])
    ∷ (Line.Head (Step.Turn 0) ∷ Line.Proto (id_of (pid_of 1 0) 1) ∷ Line.Put 0 1 (id_of (pid_of 0 0) 3) MessageKind.Memory (pid_of 1 0) ∷ Line.Packet 0 1 4 (Load.Data 2) ∷ [])
    ∷ (Line.Head (Step.Deliver 0 1 3) ∷ Line.Acked 0 1 2 ∷ [])
    ∷ (Line.Head (Step.Deliver 0 1 4) ∷ Line.Taken 0 1 2 ∷ Line.Packet 1 0 4 (Load.Ack 3) ∷ [])
    ∷ (Line.Head (Step.Turn 1) ∷ Line.Migration Stage.MemoryTaken (pid_of 0 3) ∷ Line.Put 1 0 (id_of (pid_of 1 0) 2) MessageKind.AllTaken (pid_of 0 0) ∷ Line.Packet 1 0 5 (Load.Data 2) ∷ [])
    ∷ (Line.Head (Step.Deliver 1 0 4) ∷ Line.Acked 1 0 3 ∷ [])
    ∷ (Line.Head (Step.Deliver 1 0 5) ∷ Line.Taken 1 0 2 ∷ Line.Packet 0 1 5 (Load.Ack 3) ∷ [])
    ∷ (Line.Head (Step.Turn 0) ∷ Line.SentOn (pid_of 0 3) 0 ∷ Line.Migration Stage.Left (pid_of 0 3) ∷ Line.Put 0 1 (id_of (pid_of 0 0) 4) MessageKind.Restart (pid_of 1 0) ∷ Line.Packet 0 1 6 (Load.Data 3) ∷ [])
    ∷ (Line.Head (Step.Deliver 0 1 5) ∷ Line.Acked 0 1 3 ∷ [])
    ∷ (Line.Head (Step.Deliver 0 1 6) ∷ Line.Taken 0 1 3 ∷ Line.Packet 1 0 6 (Load.Ack 4) ∷ [])
    ∷ (Line.Head (Step.Turn 1) ∷ Line.Migration Stage.Restarted (pid_of 0 3) ∷ [])
    ∷ (Line.Head (Step.Turn 1) ∷ Line.Label (Label.Ran (pid_of 0 3) 0) ∷ Line.Label (Label.End (pid_of 0 3) Exit) ∷ Line.Put 1 0 (id_of (pid_of 1 0) 3) MessageKind.Bury (pid_of 0 0) ∷ Line.Packet 1 0 7 (Load.Data 3) ∷ [])
    ∷ (Line.Head (Step.Deliver 1 0 6) ∷ Line.Acked 1 0 4 ∷ [])
    ∷ (Line.Head (Step.Deliver 1 0 7) ∷ Line.Taken 1 0 3 ∷ Line.Packet 0 1 7 (Load.Ack 4) ∷ [])
    ∷ (Line.Head (Step.Turn 0) ∷ Line.Buried (id_of (pid_of 1 0) 3) 0 ∷ [])
    ∷ []

pub buried_behind : groups two (first_point two) directives ≡ Some said
unfolding instruction
buried_behind = refl
