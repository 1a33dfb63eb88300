-- The digits that are left go on from the value so far.
use Rattle.dm_reading.proofs.Names.{◌≡◌, ◌<◌, ◌^◌, drop, number_after}
use Rattle.dm_reading.proofs.numbers.exact_number.Given as goal

abbrev pub invariant-loop-c : goal.invariant-loop-c
invariant-loop-c l = record {
  small : l.value < 10 ^ l.c-index;
  same : number_after l.value (drop l.c-index l.digits) ≡ number_after 0 l.digits;
}
