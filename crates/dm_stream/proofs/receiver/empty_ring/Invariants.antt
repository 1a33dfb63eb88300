use Rattle.dm_stream.proofs.Names.{◌≡◌, ◌≤◌, None, replicate, buffer}
use Rattle.dm_stream.proofs.receiver.empty_ring.Given as goal

abbrev pub invariant-loop-filled : goal.invariant-loop-filled
invariant-loop-filled g l = (l._filled ≤ 8) × (l.ring ≡ buffer (replicate l._filled None) 8)
