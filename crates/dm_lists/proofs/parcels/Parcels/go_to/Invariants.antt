use Rattle.std.specs.Prelude.{◌≡◌, ◌++◌, length}
use Rattle.dm_lists.proofs.parcels.Parcels.go_to.Given as goal

-- the parts together are what they were
abbrev pub invariant-loop-self : goal.invariant-loop-self
invariant-loop-self g l = l.self-inside.before.items ++ l.self-inside.behind.items ≡ l.fn.self

abbrev pub decreases-loop-self : goal.decreases-loop-self
decreases-loop-self g l = length l.self-inside.before.items

abbrev pub invariant-loop-self-2 : goal.invariant-loop-self-2
invariant-loop-self-2 g l = l.self-inside.before.items ++ l.self-inside.behind.items ≡ l.fn.self

abbrev pub decreases-loop-self-2 : goal.decreases-loop-self-2
decreases-loop-self-2 g l = length l.self-inside.behind.items
