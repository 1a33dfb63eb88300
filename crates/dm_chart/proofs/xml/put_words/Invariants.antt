use Rattle.dm_chart.proofs.Names.{◌≡◌, ◌++◌, drop, map, concat, word_text}
use Rattle.dm_chart.proofs.xml.put_words.Given as goal

abbrev pub invariant-loop-word : goal.invariant-loop-word
invariant-loop-word l = l.into.items ++ concat (map word_text (drop l.word-index l.words)) ≡ l.initial.into.items ++ concat (map word_text l.words)
