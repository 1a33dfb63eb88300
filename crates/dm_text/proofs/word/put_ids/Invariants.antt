use Rattle.dm_text.proofs.Names.{◌≡◌, ◌++◌, take, map, id_word, spaced}
use Rattle.dm_text.proofs.word.put_ids.Given as goal

abbrev pub invariant-loop-id : goal.invariant-loop-id
invariant-loop-id l = l.into.items ≡ l.initial.into.items ++ spaced (map id_word (take l.id-index l.ids))
