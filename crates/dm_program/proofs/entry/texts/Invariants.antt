use Rattle.dm_program.proofs.Names.{◌≡◌, map, take, string_bytes}
use Rattle.dm_program.proofs.entry.texts.Given as goal

abbrev pub invariant-loop-word : goal.invariant-loop-word
invariant-loop-word l = map (λ t. t.now) l.texts.items ≡ map string_bytes (take l.word-index l.words)
