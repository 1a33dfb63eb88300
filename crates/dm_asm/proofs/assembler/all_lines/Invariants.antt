-- The image so far, and behind it the lines that are left, are all.
use Rattle.dm_asm.proofs.Names.{◌≡◌, ◌+◌, ◌≤◌, [], length, with_lines, place_in, source_lines}
use Rattle.dm_asm.proofs.assembler.all_lines.Given as goal

abbrev pub invariant-loop-rest : goal.invariant-loop-rest
invariant-loop-rest l = record {
  few : l.number + length l.rest ≤ length l.text + 1;
  most : length l.image.items ≤ 65536;
  all : with_lines (place_in l.labels) l.number l.image.items (source_lines l.rest) ≡ with_lines (place_in l.labels) 1 [] (source_lines l.text);
}

abbrev pub decreases-loop-rest : goal.decreases-loop-rest
decreases-loop-rest l = length l.rest
