use Rattle.dm_drill.proofs.Names.{◌≡◌, ◌++◌, take, schedule_text}
use Rattle.dm_drill.proofs.schedule.write_schedule.Given as goal

abbrev pub invariant-loop-directive : goal.invariant-loop-directive
invariant-loop-directive l = l.into.items ≡ l.initial.into.items ++ schedule_text (take l.directive-index l.directives)
