use Rattle.std.specs.Prelude.{◌≡◌, ◌++◌, length}
use Rattle.dm_lists.proofs.queue.put_before.Given as goal

-- what is there already, with what is still to be put before it, is all
abbrev pub invariant-loop-value : goal.invariant-loop-value
invariant-loop-value g l = l.values.items ++ l.queue ≡ l.fn.values.items ++ l.fn.queue

abbrev pub decreases-loop-value : goal.decreases-loop-value
decreases-loop-value g l = length l.values.items
