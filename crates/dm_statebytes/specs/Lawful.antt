-- The processes that state bytes carry, without their memory and their queue.
use Rattle.std.specs.Prelude.{◌≡◌, ℕ, ◌*◌, ◌≤◌, length}
use Rattle.std.specs.List.{All}
use Rattle.dm_link.specs.Lawful.{IsMachine}
use Rattle.dm_process.specs.Lawful.{IsLawfulStatus, SlotIsLawful}
use Rattle.dm_statebytes.specs.declared.Shell.{Shell}

pub record IsLawfulShell (cap : ℕ) (s : Shell) : Type 0 where
  pub home : IsMachine s.pid.home
  pub registers : length s.regs.r ≡ 16
  pub blocks : (1 ≤ s.blocks) × (s.blocks ≤ 256)
  pub links : All SlotIsLawful s.table
  pub slots : length s.table ≡ cap
  pub status : IsLawfulStatus (256 * s.blocks) s.status
