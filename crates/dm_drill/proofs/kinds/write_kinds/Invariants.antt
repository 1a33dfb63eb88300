use Rattle.dm_drill.proofs.Names.{◌≡◌, ◌++◌, map, take, kind_lines, kind_shown}
use Rattle.dm_drill.proofs.kinds.write_kinds.Given as goal

abbrev pub invariant-loop-tally : goal.invariant-loop-tally
invariant-loop-tally l = l.into.items ≡ l.initial.into.items ++ kind_lines (map kind_shown (take l.tally-index l.kinds))
