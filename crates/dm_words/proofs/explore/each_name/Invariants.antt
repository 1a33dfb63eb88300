-- What was found of the words so far, with what the others say.
use Rattle.dm_words.proofs.Names.{stuck_name}
use Rattle.dm_words.proofs.Places.{ReadUpTo}
use Rattle.dm_words.proofs.explore.each_name.Given as goal

abbrev pub invariant-loop-place : goal.invariant-loop-place
invariant-loop-place l = ReadUpTo stuck_name (λ w. w.now) l.words l.place l.found
