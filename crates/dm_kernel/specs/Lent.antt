-- What becomes of the records once a borrow of a process or a server that is here ends.
use Rattle.std.specs.Prelude.{◌≡◌, IsSome}
use Rattle.std.specs.declared.option.Option.{Option}
use Rattle.std.specs.Borrow.{LendsSo, MutBor, Fml}
use Rattle.dm_link.specs.declared.Pid.{Pid}
use Rattle.dm_process.specs.declared.process.Process.{Process}
use Rattle.dm_process.specs.contracts.process.Process.{the_row as process_row}
use Rattle.dm_switchboard.specs.Board.{Board}
use Rattle.dm_switchboard.specs.contracts.Switchboard.{the_row as board_row}
use Rattle.dm_procman.specs.Managing.{Managing}
use Rattle.dm_procman.specs.contracts.ProcMan.{the_row as manager_row}
use Rattle.dm_migrate.specs.Arrival.{Arrival}
use Rattle.dm_migrate.specs.Departure.{Departure}
use Rattle.dm_migrate.specs.contracts.arriving.Arriving.{the_row as arriving_row}
use Rattle.dm_migrate.specs.contracts.leaving.Leaving.{the_row as leaving_row}
use Rattle.dm_resident.specs.declared.Resident.{Resident}
use Rattle.dm_resident.specs.declared.Resident.TheVariants as resident
use Rattle.dm_resident.specs.contracts.Resident.{the_row as resident_row}
use Rattle.dm_records.specs.declared.record.Record.TheVariants.{Here}
use Rattle.dm_records.specs.declared.records.Records.{Records}
use Rattle.dm_records.specs.contracts.records.Records.{the_row as records_row}
use Rattle.dm_records.specs.Records.{KeepsPreds, at, with_record}
use Rattle.dm_kernel.specs.State.{board_in, manager_in, process_in}

-- what a machine knows
abbrev pub Known : Type 0
Known = Records Resident Departure Arrival

-- the process p, which is here, ends as the last value behind r
abbrev pub LendsProcess : MutBor Known → Pid → Option (MutBor Process) → Fml
LendsProcess s p r =
    LendsSo (records_row resident_row leaving_row arriving_row) process_row s r
    (λ n w. IsSome (process_in (at s.now p)) → ((q : Pid) → at n q ≡ with_record (at s.now) p (Here (resident.Process w)) q) × KeepsPreds s.now n) (λ n. ((q : Pid) → at n q ≡ at s.now q) × KeepsPreds s.now n)

-- the switchboard p, which is here, ends as the last value behind r
abbrev pub LendsBoard : MutBor Known → Pid → Option (MutBor Board) → Fml
LendsBoard s p r =
    LendsSo (records_row resident_row leaving_row arriving_row) board_row s r
    (λ n w. IsSome (board_in (at s.now p)) → ((q : Pid) → at n q ≡ with_record (at s.now) p (Here (resident.Board w)) q) × KeepsPreds s.now n) (λ n. ((q : Pid) → at n q ≡ at s.now q) × KeepsPreds s.now n)

-- the manager p, which is here, ends as the last value behind r
abbrev pub LendsManager : MutBor Known → Pid → Option (MutBor Managing) → Fml
LendsManager s p r =
    LendsSo (records_row resident_row leaving_row arriving_row) manager_row s r
    (λ n w. IsSome (manager_in (at s.now p)) → ((q : Pid) → at n q ≡ with_record (at s.now) p (Here (resident.Manager w)) q) × KeepsPreds s.now n) (λ n. ((q : Pid) → at n q ≡ at s.now q) × KeepsPreds s.now n)
