-- What is left has the value.
use Rattle.dm_words.proofs.Names.{◌≡◌, length, map, string_bytes, value_of}
use Rattle.dm_words.proofs.walk.value_of.Given as goal

abbrev pub invariant-loop-word : goal.invariant-loop-word
invariant-loop-word l = value_of l.option (map string_bytes l.rest) ≡ value_of l.option (map string_bytes l.words)

abbrev pub decreases-loop-word : goal.decreases-loop-word
decreases-loop-word l = length l.rest
