use Rattle.dm_chart.proofs.Names.{◌≡◌, drop}
use Rattle.std.proofs.Common.{fold}
use Rattle.dm_chart.specs.Stays.{with_start}
use Rattle.dm_chart.proofs.stay.add_starts.Given as goal

abbrev pub invariant-loop-start : goal.invariant-loop-start
invariant-loop-start l = fold (with_start l.processes) l.stays (drop l.start-index l.starts) ≡ fold (with_start l.processes) l.initial.stays l.starts
