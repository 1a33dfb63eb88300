-- The numbers that fields have room for. What the program holds fits by its types: a law over all values says so.
use Rattle.std.specs.declared.option.Option.{Option}
use Rattle.std.specs.List.{All}
use Rattle.std.specs.Option.{IfSome}
use Rattle.dm_link.specs.declared.Link.{Link}
use Rattle.dm_process.specs.declared.process.Status.{Status}
use Rattle.dm_process.specs.declared.process.Status.TheVariants.{Ready, Waiting, Moving}
use Rattle.dm_packet.specs.Widths.{Fits, FitsAddr, FitsLink, FitsPid}
use Rattle.dm_statebytes.specs.declared.Shell.{Shell}

abbrev pub FitsStatus : Status → Type 0
FitsStatus Ready = Unit {0}
FitsStatus (Waiting mask base cap) = Fits 4 mask × Fits 4 base × Fits 4 cap
FitsStatus (Moving dir owner base own left pending) = FitsAddr owner × Fits 4 base × Fits 4 own × Fits 4 left × Fits 4 pending

abbrev pub FitsSlot : Option Link → Type 0
FitsSlot slot = IfSome slot FitsLink

pub record FitsShell (s : Shell) : Type 0 where
  pub pid : FitsPid s.pid
  pub status : FitsStatus s.status
  pub sent : Fits 4 s.sent
  pub moves : Fits 4 s.moves
  pub registers : All (Fits 4) s.regs.r
  pub pc : Fits 4 s.regs.pc
  pub links : All FitsSlot s.table
