use Rattle.dm_text.proofs.Names.{◌≡◌, ◌++◌, take, hex}
use Rattle.dm_text.proofs.word.put_hex.Given as goal

abbrev pub invariant-loop-byte : goal.invariant-loop-byte
invariant-loop-byte l = l.into.items ≡ l.initial.into.items ++ hex (take l.byte-index l.bytes)
