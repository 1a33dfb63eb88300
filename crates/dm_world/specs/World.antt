-- All machines and the wires between them, and what a directive does.
use Rattle.std.specs.Prelude.{ℕ, zero, suc, ◌+◌, if◌then◌else◌, is_some, List, [], ◌∷◌, length}
use Rattle.std.specs.declared.option.Option.{Option}
use Rattle.std.specs.declared.option.Option.TheVariants.{None, Some}
use Rattle.std.specs.declared.result.Result.{Result}
use Rattle.std.specs.declared.result.Result.TheVariants.{Ok, Err}
use Rattle.dm_link.specs.declared.Pid.{Pid}
use Rattle.dm_link.specs.Names.{pid_eq}
use Rattle.dm_message.specs.declared.Message.{Message}
use Rattle.dm_stream.specs.Packets.{Load, Data, Ack}
use Rattle.dm_packet.specs.declared.Packet.{Packet}
use Rattle.dm_packet.specs.declared.Packet.TheVariants as packet
use Rattle.dm_packet.specs.declared.PacketError.{PacketError}
use Rattle.dm_packet.specs.Packets.{packet_of}
use Rattle.dm_wire.specs.Sent.{Sent, bytes_at}
use Rattle.dm_wire.specs.Wire.{after_mark}
use Rattle.dm_onekernel.specs.declared.boot.Boot.{Boot}
use Rattle.dm_onekernel.specs.declared.label.Why.{Why}
use Rattle.dm_schedule.specs.declared.Step.{Step}
use Rattle.dm_schedule.specs.declared.Step.TheVariants as step
use Rattle.dm_line.specs.declared.line.Line.{Line}
use Rattle.dm_line.specs.declared.line.Line.TheVariants as line
use Rattle.dm_line.specs.Sets.{at_machine}
use Rattle.dm_line.specs.Todo.{or}
use Rattle.dm_onekernel.specs.Boot.{manager}
use Rattle.dm_kernel.specs.State.{manager_in}
use Rattle.dm_node.specs.State.{NodeState, node_opened}
use Rattle.dm_node.specs.Out.{Acted, Acts, Goes, Worn}
use Rattle.dm_node.specs.Acts as node
use Rattle.dm_node.specs.Wired.{Spoken, spoken}

pub record WorldState : Type 0 where
  pub nodes : ℕ → NodeState
  -- all packets ever put on the wire from one machine to another
  pub wires : ℕ → ℕ → List Sent
  -- why each process ended that has
  pub ended : Pid → Option Why
  -- how many directives there were
  pub groups : ℕ

-- the world after a directive, and the group of lines that it printed
pub record Said : Type 0 where
  pub state : WorldState
  pub lines : List Line

-- the group of a directive, or the two machines that it would let count one message too many
pub data Happened : Type 0 where
  Says : (said : Said) → Happened
  WornOut : (from : ℕ) → (to : ℕ) → Happened

-- machine m has acted; the group begins with the directive
abbrev pub acted : WorldState → Step → ℕ → Acted → Said
acted w e m d =
    let gave : Spoken = spoken w.wires d.outs in
    record { state = record { nodes = at_machine w.nodes m d.state; wires = gave.wires; ended = w.ended; groups = w.groups + 1 }; lines = line.Head e ∷ gave.lines }

abbrev pub turned : WorldState → Step → ℕ → Option Acts → Option Happened
turned w e m None = None
turned w e m (Some (Goes d)) = Some (Says (acted w e m d))
turned w e m (Some (Worn from to)) = Some (WornOut from to)

-- who ended in a turn, and why
abbrev pub over_in : Option Acts → Option (Pid × Why)
over_in None = None
over_in (Some (Goes d)) = d.state.kernel.over
over_in (Some (Worn from to)) = None

abbrev pub with_over : (Pid → Option Why) → Option (Pid × Why) → Pid → Option Why
with_over ended None p = ended p
with_over ended (Some (q, y)) p = if pid_eq q p then Some y else ended p

-- the world keeps that
abbrev pub keeps_over : WorldState → Option Acts → WorldState
keeps_over w o = record w { ended = with_over w.ended (over_in o) }

-- a packet is delivered: what it carries comes to machine c from machine a
abbrev pub arrives : WorldState → Step → ℕ → ℕ → Load Message → Option Happened
arrives w e a c carried = Some (Says (acted w e c (node.arrives (w.nodes c) a carried)))

abbrev pub reads : WorldState → Step → ℕ → ℕ → Result Packet PacketError → Option Happened
reads w e a c (Ok (packet.Data from to k m)) = arrives w e a c (Data k m)
reads w e a c (Ok (packet.Ack from to k)) = arrives w e a c (Ack k)
reads w e a c (Err bad) = None

abbrev pub delivers : WorldState → Step → ℕ → ℕ → ℕ → Option (List ℕ) → Option Happened
delivers w e a c k None = Some (Says (record { state = record w { groups = w.groups + 1 }; lines = line.Head e ∷ line.Nothing ∷ [] }))
delivers w e a c k (Some bytes) = reads (record w { wires = after_mark w.wires a c k }) e a c (packet_of bytes)

-- the first of n machines that has the manager here
abbrev pub seat_of : ℕ → (ℕ → NodeState) → Option ℕ
seat_of zero nodes = None
seat_of (suc n) nodes = or (seat_of n nodes) (if is_some (manager_in ((nodes n).kernel.records manager)) then Some n else None)

-- the manager tells a process or a server to move on the machine where it is; while it is on its way nothing happens
abbrev pub asks_at : WorldState → Step → Pid → ℕ → Option ℕ → Option Happened
asks_at w e p machine None = Some (Says (record { state = record w { groups = w.groups + 1 }; lines = line.Head e ∷ line.Away ∷ [] }))
asks_at w e p machine (Some seat) = turned w e seat (node.asks_move (w.nodes seat) p machine)

-- an elementary directive, a row each
abbrev pub world_step : Boot → WorldState → Step → Option Happened
world_step b w (step.Turn m) = turned (keeps_over w (node.turn b (w.nodes m))) (step.Turn m) m (node.turn b (w.nodes m))
world_step b w (step.Tick m) = Some (Says (acted w (step.Tick m) m (node.tick (w.nodes m))))
world_step b w (step.Deliver a c k) = delivers w (step.Deliver a c k) a c k (bytes_at (w.wires a c) k)
world_step b w (step.Migrate p m) = asks_at w (step.Migrate p m) p m (seat_of (length b.machines) w.nodes)
world_step b w (step.CallOff p m) = turned w (step.CallOff p m) m (node.calls_off (w.nodes m) p)

-- the world as the boot file has it
abbrev pub first_world : Boot → WorldState
first_world b = record { nodes = node_opened b; wires = λ x y. []; ended = λ p. None; groups = 0 }
