use Rattle.dm_explore.proofs.Redoing.{IsRedoing}
use Rattle.dm_explore.proofs.search.redo_all.Given as goal

-- the directives so far were done once more
abbrev pub invariant-loop-done : goal.invariant-loop-done
invariant-loop-done l = IsRedoing l.fn.world l.world l.past l.done-items l.done-index
