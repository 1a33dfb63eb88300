-- What is left of the operands has the one that is refused.
use Rattle.dm_explain.proofs.Names.{◌≡◌, ◌≤◌, ◌+◌, length, bad_word, place_in, source_words}
use Rattle.dm_explain.proofs.source.bad_word.Given as goal

abbrev pub invariant-loop-word : goal.invariant-loop-word
invariant-loop-word l = record {
  same : bad_word (place_in l.labels) l.takes l.place (source_words l.rest) ≡ bad_word (place_in l.labels) l.takes 1 (source_words l.operands);
  most : l.place + length l.rest ≤ 1 + length l.operands;
}

abbrev pub decreases-loop-word : goal.decreases-loop-word
decreases-loop-word l = length l.rest
