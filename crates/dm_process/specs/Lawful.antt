-- The processes that state bytes can carry, with the messages that wait for them.
use Rattle.std.specs.Prelude.{◌≡◌, ◌⊎◌, ℕ, ◌+◌, ◌*◌, ◌≤◌, length}
use Rattle.std.specs.List.{All}
use Rattle.std.specs.declared.option.Option.{Option}
use Rattle.std.specs.Option.{IfSome}
use Rattle.dm_link.specs.declared.Link.{Link}
use Rattle.dm_link.specs.Lawful.{IsMachine, IsLawfulAddr, IsLawfulEnclosed}
use Rattle.dm_message.specs.Lawful.{IsLawfulMessage}
use Rattle.dm_process.specs.declared.process.Process.{Process}
use Rattle.dm_process.specs.declared.process.Status.{Status}
use Rattle.dm_process.specs.declared.process.Status.TheVariants.{Ready, Waiting, Moving}

-- a buffer lies in the memory of so many bytes; what is left of a move lies in it and in the largest area
abbrev pub IsLawfulStatus : ℕ → Status → Type 0
IsLawfulStatus size Ready = Unit {0}
IsLawfulStatus size (Waiting mask base cap) = base + cap ≤ size
IsLawfulStatus size (Moving dir owner base own left pending) =
    IsLawfulAddr owner × (1 ≤ left) × (left ≤ 65536) × (base + left ≤ 65536) × (own + left ≤ size)

-- what a slot of a table holds, if anything, can be enclosed
abbrev pub SlotIsLawful : Option Link → Type 0
SlotIsLawful slot = IfSome slot IsLawfulEnclosed

-- a process that a machine may have; its memory is one of whole blocks, and its table one of 32 or 128 slots, by their types
pub record IsLawfulProcess (p : Process) : Type 0 where
  pub home : IsMachine p.pid.home
  pub registers : length p.regs.r ≡ 16
  pub size : (blocks : ℕ) × (length p.memory ≡ 256 * blocks) × (1 ≤ blocks) × (blocks ≤ 256)
  pub links : All SlotIsLawful p.table
  pub slots : (length p.table ≡ 32) ⊎ (length p.table ≡ 128)
  pub status : IsLawfulStatus (length p.memory) p.status
  pub queue : All IsLawfulMessage p.queue
