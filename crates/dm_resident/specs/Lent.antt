-- What becomes of what stands on a machine once a borrow of it ends.
use Rattle.std.specs.declared.option.Option.{Option}
use Rattle.std.specs.Borrow.{LendsIf, MutBor, Fml}
use Rattle.dm_process.specs.declared.process.Process as process_
use Rattle.dm_process.specs.contracts.process.Process.{the_row as process_row}
use Rattle.dm_switchboard.specs.Board as board_
use Rattle.dm_switchboard.specs.contracts.Switchboard.{the_row as board_row}
use Rattle.dm_procman.specs.Managing.{Managing}
use Rattle.dm_procman.specs.contracts.ProcMan.{the_row as manager_row}
use Rattle.dm_resident.specs.declared.Resident.{Resident}
use Rattle.dm_resident.specs.declared.Resident.TheVariants.{Process, Board, Manager}
use Rattle.dm_resident.specs.contracts.Resident.{the_row}

-- a process ends with the last value behind r
abbrev pub LendsProcess : MutBor Resident → Option (MutBor process_.Process) → Fml
LendsProcess s r = LendsIf the_row process_row s r Process s.now

-- so does the switchboard
abbrev pub LendsBoard : MutBor Resident → Option (MutBor board_.Board) → Fml
LendsBoard s r = LendsIf the_row board_row s r Board s.now

-- and so does the manager
abbrev pub LendsManager : MutBor Resident → Option (MutBor Managing) → Fml
LendsManager s r = LendsIf the_row manager_row s r Manager s.now
