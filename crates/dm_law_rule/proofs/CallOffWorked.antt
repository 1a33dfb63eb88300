-- A migration that is called off at once: what asked for the state is answered yet, the piece is stale, and the process stays.
use Rattle.dm_law_rule.proofs.Names.{◌≡◌, List, [], ◌∷◌, refl, Some, pid_of, id_of, MessageKind, Load, Stage, instruction, Boot, One, Step, Line, first_point}
use Rattle.dm_law_rule.proofs.Worked.{groups}

abbrev two : Boot
two = record {
  numbers = 1048576;
  quantum = 16;
  format = One;
  machines = record { slots = 2; blocks = 2 } ∷ record { slots = 2; blocks = 2 } ∷ [];
  images = record { bytes = 20 ∷ 0 ∷ 0 ∷ 7 ∷ []; blocks = 1 } ∷ [];
  processes = record { pid = pid_of 0 3; name = []; image = 0; links = [] } ∷ [];
}

abbrev directives : List Step
directives =
    Step.Migrate (pid_of 0 3) 1 ∷ Step.Turn 0 ∷ Step.Deliver 0 1 0 ∷ Step.Turn 1 ∷ Step.CallOff (pid_of 0 3) 1 ∷ Step.Deliver 1 0 1
    ∷ Step.Turn 0 ∷ Step.Deliver 1 0 2 ∷ Step.Turn 0 ∷ Step.Deliver 0 1 2 ∷ Step.Turn 1 ∷ Step.CallOff (pid_of 0 3) 1 ∷ []

abbrev said : List (List Line)
said =
    (Line.Head (Step.Migrate (pid_of 0 3) 1) ∷ Line.Put 0 0 (id_of (pid_of 0 0) 0) MessageKind.Migrate (pid_of 0 3) ∷ [])
    ∷ (Line.Head (Step.Turn 0) ∷ Line.Migration Stage.Frozen (pid_of 0 3) ∷ Line.Migration Stage.Asked (pid_of 0 3) ∷ Line.Put 0 1 (id_of (pid_of 0 0) 1) MessageKind.Ask (pid_of 1 0) ∷ Line.Packet 0 1 0 (Load.Data 0) ∷ [])
    ∷ (Line.Head (Step.Deliver 0 1 0) ∷ Line.Taken 0 1 0 ∷ Line.Packet 1 0 0 (Load.Ack 1) ∷ [])
    ∷ (Line.Head (Step.Turn 1) ∷ Line.Migration Stage.Accepted (pid_of 0 3) ∷ Line.Put 1 0 (id_of (pid_of 1 0) 0) MessageKind.PullState (pid_of 0 0) ∷ Line.Packet 1 0 1 (Load.Data 0) ∷ [])
    ∷ (Line.Head (Step.CallOff (pid_of 0 3) 1) ∷ Line.Called (pid_of 0 3) 0 ∷ Line.Put 1 0 (id_of (pid_of 1 0) 1) MessageKind.CallOff (pid_of 0 0) ∷ Line.Packet 1 0 2 (Load.Data 1) ∷ [])
    ∷ (Line.Head (Step.Deliver 1 0 1) ∷ Line.Taken 1 0 0 ∷ Line.Packet 0 1 1 (Load.Ack 1) ∷ [])
    ∷ (Line.Head (Step.Turn 0) ∷ Line.Proto (id_of (pid_of 1 0) 0) ∷ Line.Put 0 1 (id_of (pid_of 0 0) 2) MessageKind.State (pid_of 1 0) ∷ Line.Packet 0 1 2 (Load.Data 1) ∷ [])
    ∷ (Line.Head (Step.Deliver 1 0 2) ∷ Line.Taken 1 0 1 ∷ Line.Packet 0 1 3 (Load.Ack 2) ∷ [])
    ∷ (Line.Head (Step.Turn 0) ∷ Line.Stays (pid_of 0 3) ∷ [])
    ∷ (Line.Head (Step.Deliver 0 1 2) ∷ Line.Taken 0 1 1 ∷ Line.Packet 1 0 3 (Load.Ack 2) ∷ [])
    ∷ (Line.Head (Step.Turn 1) ∷ Line.Stale (id_of (pid_of 0 0) 2) ∷ [])
    ∷ (Line.Head (Step.CallOff (pid_of 0 3) 1) ∷ Line.NoCall (pid_of 0 3) ∷ [])
    ∷ []

pub called_off_at_once : groups two (first_point two) directives ≡ Some said
unfolding instruction
called_off_at_once = refl
