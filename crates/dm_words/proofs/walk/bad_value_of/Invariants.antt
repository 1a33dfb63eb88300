-- What is left has the same.
use Rattle.dm_words.proofs.Names.{◌≡◌, length, map, string_bytes, bad_value_of}
use Rattle.dm_words.proofs.walk.bad_value_of.Given as goal

abbrev pub invariant-loop-word : goal.invariant-loop-word
invariant-loop-word l = bad_value_of l.option (map string_bytes l.rest) ≡ bad_value_of l.option (map string_bytes l.words)

abbrev pub decreases-loop-word : goal.decreases-loop-word
decreases-loop-word l = length l.rest
