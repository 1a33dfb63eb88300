-- The image so far, and behind it the instructions that are left, are all.
use Rattle.dm_asm.proofs.Names.{◌≡◌, ◌+◌, length, source_words, place_in, bytes_behind, settings}
use Rattle.dm_asm.proofs.calls.add_settings.Given as goal

abbrev pub invariant-loop-word : goal.invariant-loop-word
invariant-loop-word l = record {
  count : l.place + length (source_words l.rest) ≡ 1 + length (source_words l.operands);
  all : bytes_behind l.image.items (settings (place_in l.labels) l.call l.place (source_words l.rest)) ≡ bytes_behind l.fn.image.items (settings (place_in l.labels) l.call 1 (source_words l.operands));
}

abbrev pub decreases-loop-word : goal.decreases-loop-word
decreases-loop-word l = length l.rest
