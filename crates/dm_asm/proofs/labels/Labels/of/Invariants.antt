-- The labels so far, and behind them those of the lines that are left, are all.
use Rattle.dm_asm.proofs.Names.{ℕ, List, ◌≡◌, ◌+◌, ◌*◌, ◌^◌, ◌≤◌, length, place_in, source_lines, first_of, place_from}
use Rattle.dm_asm.proofs.labels.Labels.of.Given as goal

abbrev pub invariant-loop-rest : goal.invariant-loop-rest
invariant-loop-rest l = record {
  few : l.place.line + length l.rest ≤ length l.text + 1;
  low : l.place.address ≤ 2 ^ 64 * l.place.line;
  all : (q : List ℕ) → first_of (place_in l.labels q) (place_from l.place.line l.place.address (source_lines l.rest) q) ≡ place_from 1 0 (source_lines l.text) q;
}

abbrev pub decreases-loop-rest : goal.decreases-loop-rest
decreases-loop-rest l = length l.rest
