use Rattle.dm_wire.proofs.Names.{◌≡◌, ◌-◌, ◌<◌, ◌≤◌, ℕ, false, get_or, length, true}
use Rattle.dm_wire.proofs.packets.first_unseen.Given as goal

abbrev pub invariant-loop-at : goal.invariant-loop-at
invariant-loop-at l = record {
  within : l.at ≤ length l.marks;
  start : l.from ≤ l.at;
  below : (k : ℕ) → l.from ≤ k → k < l.at → get_or l.marks k false ≡ true;
}

abbrev pub decreases-loop-at : goal.decreases-loop-at
decreases-loop-at l = length l.marks - l.at
