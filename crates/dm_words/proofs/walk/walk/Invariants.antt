-- What is wrong is so in what is left.
use Rattle.dm_words.proofs.Names.{◌≡◌, length, map, None, string_bytes, walk}
use Rattle.dm_words.proofs.walk.walk.Given as goal

abbrev pub invariant-loop-word : goal.invariant-loop-word
invariant-loop-word l = walk l.form l.waits (map string_bytes l.rest) ≡ walk l.form None (map string_bytes l.words)

abbrev pub decreases-loop-word : goal.decreases-loop-word
decreases-loop-word l = length l.rest
