use Rattle.dm_text.proofs.Names.{◌≡◌, ◌++◌, take, map, word_text, spaced}
use Rattle.dm_text.proofs.word.put_words.Given as goal

abbrev pub invariant-loop-word : goal.invariant-loop-word
invariant-loop-word l = l.into.items ≡ l.initial.into.items ++ spaced (map word_text (take l.word-index l.words))
