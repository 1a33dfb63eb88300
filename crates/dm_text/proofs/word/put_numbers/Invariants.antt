use Rattle.dm_text.proofs.Names.{◌≡◌, ◌++◌, take, map, decimal, spaced}
use Rattle.dm_text.proofs.word.put_numbers.Given as goal

abbrev pub invariant-loop-n : goal.invariant-loop-n
invariant-loop-n l = l.into.items ≡ l.initial.into.items ++ spaced (map decimal (take l.n-index l.numbers))
