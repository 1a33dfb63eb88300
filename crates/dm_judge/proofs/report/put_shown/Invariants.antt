use Rattle.dm_judge.proofs.Names.{◌≡◌, ◌++◌, drop, map, shown_byte}
use Rattle.dm_judge.proofs.report.put_shown.Given as goal

abbrev pub invariant-loop-byte : goal.invariant-loop-byte
invariant-loop-byte l = l.into.items ++ map shown_byte (drop l.byte-index l.text) ≡ l.initial.into.items ++ map shown_byte l.text
