use Rattle.dm_chart.proofs.Names.{◌≡◌, ℕ, ◌<◌, ◌≤◌, false, length, take}
use Rattle.std.specs.Prelude.{slice_index, slice_index_or, true}
use Rattle.dm_chart.specs.Left.{AreCounts, LeavesNothing}
use Rattle.dm_chart.proofs.left.left_of.Given as goal

abbrev pub invariant-loop-i : goal.invariant-loop-i
invariant-loop-i l = record {
  few : length l.left ≡ l.i;
  long : length l.counts ≡ 256;
  counts : AreCounts l.counts (take l.i l.front);
  each : (k : ℕ) → k < 256 → slice_index l.counts k ≤ l.i;
  nothing : (k : ℕ) → k < length l.left → slice_index_or l.left k true ≡ false → LeavesNothing l.frame.rows l.frame.hidden (λ y. record l.frame { layer = y }) l.lines k;
}
