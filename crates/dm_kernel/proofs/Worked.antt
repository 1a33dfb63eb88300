-- A worked case, computed: what one machine's kernel says in eight turns, where all that it routes comes to itself.
use Rattle.dm_kernel.proofs.Names.{◌≡◌, ℕ, zero, suc, List, [], ◌∷◌, ◌++◌, map, refl, false, Option, General, pid_of, Message, id_of, kind_of, instruction, Boot, One, bind, Line, Part, Says, Routes, opened, KernelState, Turned, turn}
use Rattle.dm_kernel.proofs.Names.{machines_with}
use Rattle.std.specs.declared.option.Option.TheVariants.{Some}
use Rattle.dm_message.specs.declared.kind.MessageKind.TheVariants as kind
use Rattle.dm_onekernel.specs.declared.label.Label.TheVariants as label
use Rattle.dm_onekernel.specs.declared.label.Why.TheVariants as why
use Rattle.dm_line.specs.declared.line.Line.TheVariants as line

-- a message that is routed from machine 0 to itself
abbrev pub line_of : Part → Line
line_of (Says l) = l
line_of (Routes m) = line.Put 0 0 m.id (kind_of m.what) m.to.pid

abbrev pub sent : List Part → List Message
sent [] = []
sent (Says l ∷ parts) = sent parts
sent (Routes m ∷ parts) = m ∷ sent parts

abbrev pub comes_back : Turned → KernelState
comes_back t = record t.state { inbox = t.state.inbox ++ sent t.parts }

-- the lines of so many turns
abbrev pub groups : ℕ → Boot → KernelState → Option (List (List Line))
groups zero b s = Some []
groups (suc k) b s = bind (turn b s) (λ t. bind (groups k b (comes_back t)) (λ gs. Some (map line_of t.parts ∷ gs)))

-- one process sends "hi" to the other, which puts out its first byte
abbrev pub hi : Boot
hi = record {
  numbers = 1048576;
  quantum = 16;
  format = One;
  machines = record { slots = 4; blocks = 16 } ∷ [];
  images =
      record { bytes = 1 ∷ 2 ∷ 0 ∷ 16 ∷ 1 ∷ 3 ∷ 0 ∷ 2 ∷ 20 ∷ 0 ∷ 0 ∷ 6 ∷ 20 ∷ 0 ∷ 0 ∷ 1 ∷ 104 ∷ 105 ∷ []; blocks = 1 }
      ∷ record { bytes = 1 ∷ 1 ∷ 0 ∷ 1 ∷ 1 ∷ 2 ∷ 0 ∷ 64 ∷ 1 ∷ 3 ∷ 0 ∷ 8 ∷ 20 ∷ 0 ∷ 0 ∷ 7 ∷ 1 ∷ 6 ∷ 0 ∷ 64 ∷ 14 ∷ 1 ∷ 6 ∷ 0 ∷ 20 ∷ 0 ∷ 0 ∷ 2 ∷ 20 ∷ 0 ∷ 0 ∷ 1 ∷ []; blocks = 1 }
      ∷ [];
  processes =
      record { pid = pid_of 0 3; name = []; image = 0; links = record { addr = record { pid = pid_of 0 4; at = 0; moves = 0 }; kind = General; to_kernel = false; code = 7; channel = 0; area = record { base = 0; len = 0; read = false; write = false } } ∷ [] }
      ∷ record { pid = pid_of 0 4; name = []; image = 1; links = [] }
      ∷ [];
}

abbrev pub said : List (List Line)
said =
    (line.Label (label.Ran (pid_of 0 3) 2) ∷ line.Label (label.Send (pid_of 0 3) (id_of (pid_of 0 3) 0)) ∷ line.Put 0 0 (id_of (pid_of 0 3) 0) kind.User (pid_of 0 4) ∷ [])
    ∷ (line.Queued (id_of (pid_of 0 3) 0) ∷ [])
    ∷ (line.Label (label.Ran (pid_of 0 4) 3) ∷ line.Label (label.Wait (pid_of 0 4)) ∷ [])
    ∷ (line.Label (label.Ran (pid_of 0 3) 0) ∷ line.Label (label.End (pid_of 0 3) why.Exit) ∷ [])
    ∷ (line.Label (label.Receive (pid_of 0 4) (id_of (pid_of 0 3) 0)) ∷ [])
    ∷ (line.Label (label.Ran (pid_of 0 4) 2) ∷ line.Label (label.Out (pid_of 0 4) 104) ∷ [])
    ∷ (line.Label (label.Ran (pid_of 0 4) 0) ∷ line.Label (label.End (pid_of 0 4) why.Exit) ∷ [])
    ∷ (line.Idle 0 ∷ [])
    ∷ []

pub eight_turns : groups 8 hi (opened hi 0) ≡ Some said
unfolding instruction machines_with
eight_turns = refl
