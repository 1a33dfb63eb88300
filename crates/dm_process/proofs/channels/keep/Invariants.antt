use Rattle.std.specs.Prelude.{slice_index_or}
use Rattle.dm_process.proofs.Names.{ℕ, ◌<◌}
use Rattle.dm_process.specs.Passed.{IsKept}
use Rattle.dm_process.proofs.channels.keep.Given as goal

abbrev pub invariant-loop-channel : goal.invariant-loop-channel
invariant-loop-channel l = (c : ℕ) → c < 32 → IsKept l.mask l.passed c (slice_index_or l.fn.places c 0) (slice_index_or l.places c 0)
