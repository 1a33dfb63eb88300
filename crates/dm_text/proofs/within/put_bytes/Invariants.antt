use Rattle.dm_text.proofs.Names.{◌≡◌, ◌+◌, ◌++◌, take}
use Rattle.dm_text.proofs.within.put_bytes.Given as goal

abbrev pub invariant-loop-byte : goal.invariant-loop-byte
invariant-loop-byte l = record {
  text : take l.end l.room ≡ take l.at l.initial.room ++ take l.byte-index l.bytes;
  end : l.end ≡ l.at + l.byte-index;
}
