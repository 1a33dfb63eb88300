use Rattle.dm_boot.proofs.Imports.{◌≡◌, ℕ, ◌≤◌, ◌++◌, drop, length, items_view, view, starting_at, blocks_at, first_failing, starts_from, starts_of, has_place}
use Rattle.dm_boot.proofs.Counted.{starting_below, Counts}
use Rattle.dm_boot.proofs.starts.starts_of.Given as goal

abbrev pub invariant-loop-i : goal.invariant-loop-i
invariant-loop-i l = record {
  places : first_failing (has_place (view l.document.top.now)) l.i (items_view (drop l.i l.tables)) ≡ first_failing (has_place (view l.document.top.now)) 0 (items_view l.tables);
  built : l.starts ++ starts_from (view l.document.top.now) l.starts (items_view (drop l.i l.tables)) ≡ starts_of (view l.document.top.now);
  many : length l.starts ≡ l.i;
  homes : starting_below 16 l.starts ≡ l.i;
  slots : (m : ℕ) → starting_at m l.starts ≤ 255;
  counts : Counts l.taken l.images l.starts;
  blocks : (m : ℕ) → blocks_at m l.images l.starts ≤ 65535;
}
