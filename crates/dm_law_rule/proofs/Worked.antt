-- The rule, computed on worked cases.
use Rattle.dm_law_rule.proofs.Names.{◌≡◌, List, [], ◌∷◌, refl, false, Option, Some, General, pid_of, id_of, MessageKind, Label, Load, instruction, Boot, One, bind, Step, Line, Point, first_point, group_of}

-- the groups of these directives, one after the other
abbrev pub groups : Boot → Point → List Step → Option (List (List Line))
groups b pt [] = Some []
groups b pt (e ∷ es) = bind (group_of b pt e) (λ w. bind (groups b w.point es) (λ gs. Some (w.lines ∷ gs)))

-- a process of machine 0 sends "hi" to one of machine 1, which puts out its first byte
abbrev pub hi : Boot
hi = record {
  numbers = 1048576;
  quantum = 16;
  format = One;
  machines = record { slots = 4; blocks = 16 } ∷ record { slots = 4; blocks = 16 } ∷ [];
  images =
      record { bytes = 1 ∷ 2 ∷ 0 ∷ 16 ∷ 1 ∷ 3 ∷ 0 ∷ 2 ∷ 20 ∷ 0 ∷ 0 ∷ 6 ∷ 20 ∷ 0 ∷ 0 ∷ 1 ∷ 104 ∷ 105 ∷ []; blocks = 1 }
      ∷ record { bytes = 1 ∷ 1 ∷ 0 ∷ 1 ∷ 1 ∷ 2 ∷ 0 ∷ 64 ∷ 1 ∷ 3 ∷ 0 ∷ 8 ∷ 20 ∷ 0 ∷ 0 ∷ 7 ∷ 1 ∷ 6 ∷ 0 ∷ 64 ∷ 14 ∷ 1 ∷ 6 ∷ 0 ∷ 20 ∷ 0 ∷ 0 ∷ 2 ∷ 20 ∷ 0 ∷ 0 ∷ 1 ∷ []; blocks = 1 }
      ∷ [];
  processes =
      record { pid = pid_of 0 3; name = []; image = 0; links = record { addr = record { pid = pid_of 1 3; at = 1; moves = 0 }; kind = General; to_kernel = false; code = 7; channel = 0; area = record { base = 0; len = 0; read = false; write = false } } ∷ [] }
      ∷ record { pid = pid_of 1 3; name = []; image = 1; links = [] }
      ∷ [];
}

-- one packet, delivered three times; its acknowledgement; and the message is received
abbrev pub directives : List Step
directives =
    Step.Turn 0 ∷ Step.Deliver 0 1 0 ∷ Step.Deliver 0 1 0 ∷ Step.Deliver 0 1 0 ∷ Step.Deliver 1 0 0 ∷ Step.Tick 0
    ∷ Step.Turn 1 ∷ Step.Turn 1 ∷ Step.Turn 1 ∷ Step.Turn 1 ∷ Step.Deliver 0 1 5 ∷ []

abbrev pub said : List (List Line)
said =
    (Line.Head (Step.Turn 0) ∷ Line.Label (Label.Ran (pid_of 0 3) 2) ∷ Line.Label (Label.Send (pid_of 0 3) (id_of (pid_of 0 3) 0)) ∷ Line.Put 0 1 (id_of (pid_of 0 3) 0) MessageKind.User (pid_of 1 3) ∷ Line.Packet 0 1 0 (Load.Data 0) ∷ [])
    ∷ (Line.Head (Step.Deliver 0 1 0) ∷ Line.Taken 0 1 0 ∷ Line.Packet 1 0 0 (Load.Ack 1) ∷ [])
    ∷ (Line.Head (Step.Deliver 0 1 0) ∷ Line.Old 0 1 0 ∷ Line.Packet 1 0 1 (Load.Ack 1) ∷ [])
    ∷ (Line.Head (Step.Deliver 0 1 0) ∷ Line.Old 0 1 0 ∷ Line.Packet 1 0 2 (Load.Ack 1) ∷ [])
    ∷ (Line.Head (Step.Deliver 1 0 0) ∷ Line.Acked 1 0 1 ∷ [])
    ∷ (Line.Head (Step.Tick 0) ∷ Line.Resent 0 0 ∷ [])
    ∷ (Line.Head (Step.Turn 1) ∷ Line.Queued (id_of (pid_of 0 3) 0) ∷ [])
    ∷ (Line.Head (Step.Turn 1) ∷ Line.Label (Label.Ran (pid_of 1 3) 3) ∷ Line.Label (Label.Wait (pid_of 1 3)) ∷ [])
    ∷ (Line.Head (Step.Turn 1) ∷ Line.Label (Label.Receive (pid_of 1 3) (id_of (pid_of 0 3) 0)) ∷ [])
    ∷ (Line.Head (Step.Turn 1) ∷ Line.Label (Label.Ran (pid_of 1 3) 2) ∷ Line.Label (Label.Out (pid_of 1 3) 104) ∷ [])
    ∷ (Line.Head (Step.Deliver 0 1 5) ∷ Line.Nothing ∷ [])
    ∷ []

pub one_packet_three_times : groups hi (first_point hi) directives ≡ Some said
unfolding instruction
one_packet_three_times = refl
