-- What was written, and behind it what is said of the lines that are left, is all.
use Rattle.dm_explain.proofs.Names.{◌≡◌, ◌≤◌, ◌+◌, ◌++◌, length, later_lines, place_in, source_lines, view}
use Rattle.std.specs.Prelude.{◌*◌, ◌^◌}
use Rattle.dm_explain.proofs.told.programs.put_later.Given as goal

abbrev pub invariant-loop-rest : goal.invariant-loop-rest
invariant-loop-rest l = record {
  few : l.number + length l.rest ≤ length l.text + 1;
  low : l.at ≤ 2 ^ 64 * l.number;
  same : l.into.items ++ later_lines (view l.program.image.now) l.program.before l.program.first (place_in l.program.labels.now) l.number l.at (source_lines l.rest) ≡ l.initial.into.items ++ later_lines (view l.program.image.now) l.program.before l.program.first (place_in l.program.labels.now) 1 0 (source_lines l.text);
}

abbrev pub decreases-loop-rest : goal.decreases-loop-rest
decreases-loop-rest l = length l.rest
