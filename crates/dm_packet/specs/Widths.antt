-- The numbers that fields have room for. What the program holds fits by its types: a law over all values says so.
use Rattle.std.specs.Prelude.{◌≡◌, ◌<◌, ◌^◌, ℕ, List, length, slice_index}
use Rattle.std.specs.List.{All}
use Rattle.std.specs.Option.{IfSome}
use Rattle.dm_link.specs.declared.Pid.{Pid}
use Rattle.dm_link.specs.declared.Addr.{Addr}
use Rattle.dm_link.specs.declared.Link.{Link}
use Rattle.dm_message.specs.declared.Asker.{Asker}
use Rattle.dm_message.specs.declared.Message.{Message}
use Rattle.dm_message.specs.declared.MsgId.{MsgId}
use Rattle.dm_message.specs.declared.What.{What}
use Rattle.dm_message.specs.declared.What.TheVariants as what
use Rattle.dm_packet.specs.declared.Packet.{Packet}
use Rattle.dm_packet.specs.declared.Packet.TheVariants.{Data, Ack}

-- each item of a list is a byte
abbrev pub AreBytes : List ℕ → Type 0
AreBytes bytes = (k : ℕ) → slice_index bytes k < 256

-- the number fits into so many bytes
abbrev pub Fits : ℕ → ℕ → Type 0
Fits size n = n < 256 ^ size

abbrev pub FitsPid : Pid → Type 0
FitsPid p = Fits 4 p.num

abbrev pub FitsAddr : Addr → Type 0
FitsAddr a = FitsPid a.pid × Fits 4 a.moves

abbrev pub FitsLink : Link → Type 0
FitsLink l = FitsAddr l.addr × Fits 4 l.code

abbrev pub FitsAsker : Asker → Type 0
FitsAsker a = Fits 4 a.n × FitsAddr a.addr

-- what each kind carries
abbrev pub FitsWhat : What → Type 0
FitsWhat (what.User code channel body links) = Fits 4 code × All FitsLink links.items
FitsWhat what.Stop = Unit {0}
FitsWhat what.Resume = Unit {0}
FitsWhat what.Kill = Unit {0}
FitsWhat (what.Read base len) = Unit {0}
FitsWhat (what.Write base bytes) = Unit {0}
FitsWhat (what.Block bytes) = Unit {0}
FitsWhat what.Written = Unit {0}
FitsWhat what.Gone = Unit {0}
FitsWhat (what.Create image links) = Fits 2 image × All FitsLink links.items
FitsWhat (what.Created pid) = FitsPid pid
FitsWhat what.NoRoom = Unit {0}
FitsWhat (what.Migrate machine) = Unit {0}
FitsWhat (what.Update about) = FitsAddr about
FitsWhat (what.Ask pid blocks moves size asker) = FitsPid pid × Fits 4 moves × Fits 4 size × IfSome asker FitsAsker
FitsWhat (what.Refuse pid slots blocks) = FitsPid pid
FitsWhat (what.PullState pid chunk) = FitsPid pid × Fits 4 chunk
FitsWhat (what.State pid chunk last bytes) = FitsPid pid × Fits 4 chunk
FitsWhat (what.PullBlock pid block) = FitsPid pid × Fits 1 block
FitsWhat (what.Memory pid block bytes) = FitsPid pid × Fits 1 block × (length bytes ≡ 256)
FitsWhat (what.AllTaken pid) = FitsPid pid
FitsWhat (what.Restart pid) = FitsPid pid
FitsWhat (what.Move machine) = Unit {0}
FitsWhat (what.Moved outcome) = Unit {0}
FitsWhat (what.CallOff pid) = FitsPid pid
FitsWhat (what.Bury pid) = FitsPid pid

abbrev pub FitsId : MsgId → Type 0
FitsId i = FitsPid i.from × Fits 4 i.n

pub record FitsMessage (m : Message) : Type 0 where
  pub id : FitsId m.id
  pub to : FitsAddr m.to
  pub sender : FitsAddr m.sender
  pub what : FitsWhat m.what

abbrev pub FitsPacket : Packet → Type 0
FitsPacket (Data from to seq message) = Fits 4 seq × FitsMessage message
FitsPacket (Ack from to count) = Fits 4 count
