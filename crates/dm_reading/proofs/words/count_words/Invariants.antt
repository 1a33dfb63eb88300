-- The words so far and the words that are left are all.
use Rattle.dm_reading.proofs.Names.{◌≡◌, ◌+◌, ◌≤◌, length, stands_in, words_between}
use Rattle.dm_reading.proofs.words.count_words.Given as goal

abbrev pub invariant-loop-behind : goal.invariant-loop-behind
invariant-loop-behind l = record {
  all : l.count + length (words_between (stands_in l.gap) l.rest) ≡ length (words_between (stands_in l.gap) l.line);
  few : l.count + length l.rest ≤ length l.line;
}

abbrev pub decreases-loop-behind : goal.decreases-loop-behind
decreases-loop-behind l = length l.rest
