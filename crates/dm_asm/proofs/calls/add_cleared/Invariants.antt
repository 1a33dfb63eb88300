-- The image so far, and behind it the instructions that are left, are all.
use Rattle.dm_asm.proofs.Names.{◌≡◌, ◌+◌, ◌++◌, ◌≤◌, cleared}
use Rattle.dm_asm.proofs.calls.add_cleared.Given as goal

abbrev pub invariant-loop-left : goal.invariant-loop-left
invariant-loop-left l = record {
  few : l.register + l.left ≤ 6;
  all : l.image.items ++ cleared l.register l.left ≡ l.fn.image.items ++ cleared l.from l.count;
}

abbrev pub decreases-loop-left : goal.decreases-loop-left
decreases-loop-left l = l.left
