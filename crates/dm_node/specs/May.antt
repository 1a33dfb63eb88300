-- What the events of a machine count on, as every machine of a good run has it.
use Rattle.std.specs.Prelude.{◌≡◌, ℕ, ◌+◌, ◌-◌, ◌^◌, ◌<◌, ◌≤◌, ◌≢◌}
use Rattle.std.specs.List.{All}
use Rattle.dm_link.specs.declared.Pid.{Pid}
use Rattle.dm_message.specs.declared.Message.{Message}
use Rattle.dm_message.specs.Lawful.{IsLawfulMessage}
use Rattle.dm_packet.specs.declared.Packet.{Packet}
use Rattle.dm_packet.specs.declared.Packet.TheVariants as packet
use Rattle.dm_stream.specs.Packets.{Load, Data, Ack}
use Rattle.dm_onekernel.specs.declared.boot.Boot.{Boot}
use Rattle.dm_kernel.specs.May as kernel
use Rattle.dm_node.specs.State.{NodeState, here}

-- there are at most 16 machines, and what waits to be acknowledged can be put into packets
pub record MayAct (n : NodeState) : Type 0 where
  pub here : here n < 16
  pub machines : n.machines ≤ 16
  pub numbers : n.numbers < 2 ^ 32
  pub home : n.home ≤ n.numbers
  pub unacked : (b : ℕ) → b < 16 → All IsLawfulMessage (n.senders b).unacked

pub record MayTurn (b : Boot) (n : NodeState) : Type 0 where
  pub acts : MayAct n
  pub kernel : kernel.MayTurn b n.kernel

pub record MayAskMove (n : NodeState) : Type 0 where
  pub acts : MayAct n
  pub kernel : kernel.MayAskMove n.kernel

pub record MayCallOff (n : NodeState) (p : Pid) : Type 0 where
  pub acts : MayAct n
  pub kernel : kernel.MayCallOff n.kernel p

-- a number comes from machine a that is in the window, and a count of what has gone out
abbrev pub FitsLoad : NodeState → ℕ → Load Message → Type 0
FitsLoad n a (Data k m) = (k < (n.receivers a).count + 8) × (k < 2 ^ 32 - 1)
FitsLoad n a (Ack k) = k ≤ (n.senders a).gone

pub record MayArrive (n : NodeState) (a : ℕ) (l : Load Message) : Type 0 where
  pub acts : MayAct n
  pub from : (a < 16) × (a ≢ here n)
  pub fits : FitsLoad n a l

-- the packet names this machine, and what it carries may arrive
abbrev pub MayArrivePacket : NodeState → Packet → Type 0
MayArrivePacket n (packet.Data from to seq m) = MayArrive n from (Data seq m) × (to ≡ here n)
MayArrivePacket n (packet.Ack from to count) = MayArrive n from (Ack count) × (to ≡ here n)
