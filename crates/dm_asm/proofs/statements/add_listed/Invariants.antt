-- The bytes so far, and behind them those that are left, are all.
use Rattle.dm_asm.proofs.Names.{◌≡◌, length, source_words, bytes_behind, listed_bytes}
use Rattle.dm_asm.proofs.statements.add_listed.Given as goal

abbrev pub invariant-loop-word : goal.invariant-loop-word
invariant-loop-word l = bytes_behind l.image.items (listed_bytes (source_words l.rest)) ≡ bytes_behind l.fn.image.items (listed_bytes (source_words l.operands))

abbrev pub decreases-loop-word : goal.decreases-loop-word
decreases-loop-word l = length l.rest
