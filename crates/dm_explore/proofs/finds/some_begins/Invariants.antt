use Rattle.std.specs.Prelude.{◌≡◌, false, take}
use Rattle.dm_explore.specs.Finds.{some_begins}
use Rattle.dm_explore.proofs.finds.some_begins.Given as goal

-- none of those so far
abbrev pub invariant-loop-line : goal.invariant-loop-line
invariant-loop-line l = some_begins l.words (take l.line-index l.lines) ≡ false
