use Rattle.std.specs.Prelude.{◌+◌}
use Rattle.dm_explore.proofs.Lengths.{IsShorter}
use Rattle.dm_explore.proofs.search.Search.answer.Given as goal

-- nothing is found in what is shorter
abbrev pub invariant-loop-shorter : goal.invariant-loop-shorter
invariant-loop-shorter l = IsShorter l.fn.self l.self (l.shorter + 1)
