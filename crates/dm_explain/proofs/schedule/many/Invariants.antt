use Rattle.dm_explain.proofs.Names.{◌≡◌, ◌≤◌, take, count_by, is_of}
use Rattle.dm_explain.proofs.schedule.many.Given as goal

abbrev pub invariant-loop-directive : goal.invariant-loop-directive
invariant-loop-directive l = record { same : l.count ≡ count_by (is_of l.keyword) (take l.directive-index l.directives); most : l.count ≤ l.directive-index }
