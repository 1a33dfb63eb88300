use Rattle.dm_wire.proofs.Names.{◌≡◌, ◌-◌, ℕ, [], slice_index_or, vec_len}
use Rattle.dm_wire.proofs.wire.reach.Given as goal

abbrev pub invariant-loop-alloc : goal.invariant-loop-alloc
invariant-loop-alloc l = (q : ℕ) → slice_index_or l.pairs.items q [] ≡ slice_index_or l.initial.pairs.items q []

abbrev pub decreases-loop-alloc : goal.decreases-loop-alloc
decreases-loop-alloc l = l.len - vec_len l.pairs
