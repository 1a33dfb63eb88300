use Rattle.dm_switchboard.proofs.Imports.{◌≡◌, [], listed}
use Rattle.std.proofs.Common.{◌-◌}
use Rattle.dm_switchboard.proofs.Loops.{read_behind}
use Rattle.dm_switchboard.specs.Packed.{read_names}
use Rattle.dm_switchboard.proofs.reading.name_run_at.Given as goal

abbrev pub invariant-loop : goal.invariant-loop
invariant-loop l = read_behind (listed l.names.entries) (l.count - l.counter) l.rest ≡ read_names l.count [] l.bytes
