-- What is left of the operands says why, and of those before none is refused.
use Rattle.dm_explain.proofs.Names.{◌≡◌, ◌≤◌, ◌+◌, length, operands_why, place_in, source_words}
use Rattle.dm_explain.proofs.program.refusals.operands_why.Given as goal

abbrev pub invariant-loop-word : goal.invariant-loop-word
invariant-loop-word l = record {
  same : operands_why (place_in l.labels) l.at l.takes l.place (source_words l.rest) ≡ operands_why (place_in l.labels) l.at l.takes 1 (source_words l.operands);
  most : l.place + length l.rest ≤ 1 + length l.operands;
}

abbrev pub decreases-loop-word : goal.decreases-loop-word
decreases-loop-word l = length l.rest
