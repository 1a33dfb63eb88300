-- The messages that packets can carry.
use Rattle.std.specs.Prelude.{◌≡◌, ◌↔◌, ◌⊎◌, ℕ, ◌+◌, ◌≤◌, Bool, true, false, length}
use Rattle.std.specs.List.{All}
use Rattle.std.specs.Option.{IfSome}
use Rattle.dm_link.specs.declared.Pid.{Pid}
use Rattle.dm_link.specs.Lawful.{IsMachine, IsLawfulAddr, IsLawfulEnclosed}
use Rattle.dm_message.specs.declared.Asker.{Asker}
use Rattle.dm_message.specs.declared.Message.{Message}
use Rattle.dm_message.specs.declared.What.{What}
use Rattle.dm_message.specs.declared.What.TheVariants as what
use Rattle.dm_message.specs.declared.kind.MessageKind.{MessageKind}
use Rattle.dm_message.specs.Kinds.{kind_of}
use Rattle.dm_message.specs.Sorts.{Sort, sort_of}
use Rattle.dm_message.specs.Sorts as sort

-- the kinds that answer a request, under its name
abbrev pub answers : Sort → Bool
answers sort.PieceAnswered = true
answers sort.MakingAnswered = true
answers sort.MoveAnswered = true
answers s = false

abbrev pub is_answer : MessageKind → Bool
is_answer k = answers (sort_of k)

-- the switchboard and the manager have no memory of their own
abbrev pub IsServer : Pid → Type 0
IsServer p = (p.home ≡ 0) × ((p.num ≡ 1) ⊎ (p.num ≡ 2))

-- a piece of a data move: 1 to 256 bytes
abbrev pub IsPiece : ℕ → Type 0
IsPiece len = (1 ≤ len) × (len ≤ 256)

-- a process has 1 to 256 blocks, a server none
abbrev pub IsSize : Pid → ℕ → Type 0
IsSize p blocks = (blocks ≤ 256) × ((blocks ≡ 0) ↔ IsServer p)

-- what each kind may carry
abbrev pub IsLawfulWhat : What → Type 0
IsLawfulWhat (what.User code channel body links) = (channel ≤ 31) × (length body.items ≤ 256) × (length links.items ≤ 4) × All IsLawfulEnclosed links.items
IsLawfulWhat what.Stop = Unit {0}
IsLawfulWhat what.Resume = Unit {0}
IsLawfulWhat what.Kill = Unit {0}
IsLawfulWhat (what.Read base len) = IsPiece len × (base + len ≤ 65536)
IsLawfulWhat (what.Write base bytes) = IsPiece (length bytes.items) × (base + length bytes.items ≤ 65536)
IsLawfulWhat (what.Block bytes) = IsPiece (length bytes.items)
IsLawfulWhat what.Written = Unit {0}
IsLawfulWhat what.Gone = Unit {0}
IsLawfulWhat (what.Create image links) = (length links.items ≤ 3) × All IsLawfulEnclosed links.items
IsLawfulWhat (what.Created pid) = IsMachine pid.home
IsLawfulWhat what.NoRoom = Unit {0}
IsLawfulWhat (what.Migrate machine) = IsMachine machine
IsLawfulWhat (what.Update about) = IsLawfulAddr about
IsLawfulWhat (what.Ask pid blocks moves size asker) = IsMachine pid.home × IsSize pid blocks × IfSome asker (λ (a : Asker). IsLawfulAddr a.addr)
IsLawfulWhat (what.Refuse pid slots blocks) = IsMachine pid.home × (slots ≤ 64) × (blocks ≤ 4096)
IsLawfulWhat (what.PullState pid chunk) = IsMachine pid.home
IsLawfulWhat (what.State pid chunk last bytes) = IsMachine pid.home × (1 ≤ length bytes.items) × (length bytes.items ≤ 512)
IsLawfulWhat (what.PullBlock pid block) = IsMachine pid.home
IsLawfulWhat (what.Memory pid block bytes) = IsMachine pid.home
IsLawfulWhat (what.AllTaken pid) = IsMachine pid.home
IsLawfulWhat (what.Restart pid) = IsMachine pid.home
IsLawfulWhat (what.Move machine) = IsMachine machine
IsLawfulWhat (what.Moved outcome) = Unit {0}
IsLawfulWhat (what.CallOff pid) = IsMachine pid.home
IsLawfulWhat (what.Bury pid) = IsMachine pid.home

pub record IsLawfulMessage (m : Message) : Type 0 where
  pub from : IsMachine m.id.from.home
  pub answer : m.id.answer ≡ is_answer (kind_of m.what)
  pub to : IsLawfulAddr m.to
  pub sender : IsLawfulAddr m.sender
  pub what : IsLawfulWhat m.what
