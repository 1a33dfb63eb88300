-- What is left of the lines has the label where the text has it.
use Rattle.dm_asm.proofs.Names.{◌≡◌, ◌+◌, ◌*◌, ◌^◌, ◌≤◌, length, source_lines, place_from}
use Rattle.dm_asm.proofs.one_label.place_of.Given as goal

abbrev pub invariant-loop-rest : goal.invariant-loop-rest
invariant-loop-rest l = record {
  few : l.place.line + length l.rest ≤ length l.text + 1;
  low : l.place.address ≤ 2 ^ 64 * l.place.line;
  same : place_from l.place.line l.place.address (source_lines l.rest) l.name ≡ place_from 1 0 (source_lines l.text) l.name;
}

abbrev pub decreases-loop-rest : goal.decreases-loop-rest
decreases-loop-rest l = length l.rest
