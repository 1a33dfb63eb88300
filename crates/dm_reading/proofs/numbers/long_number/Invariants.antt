-- The digits that are left go on from the number so far.
use Rattle.dm_reading.proofs.Names.{◌≡◌, ◌≤◌, drop, number_after}
use Rattle.dm_reading.proofs.numbers.long_number.Given as goal

abbrev pub invariant-loop-byte : goal.invariant-loop-byte
invariant-loop-byte l = record {
  within : l.n ≤ l.most;
  so_far : number_after l.n (drop l.byte-index l.word) ≡ number_after 0 l.word;
}
