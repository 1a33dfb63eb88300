-- The digits that are left go on from the value so far.
use Rattle.dm_reading.proofs.Names.{◌≡◌, ◌≤◌, drop, digits_after}
use Rattle.dm_reading.proofs.Capped.{capped}
use Rattle.dm_reading.proofs.numbers.capped_number.Given as goal

abbrev pub invariant-loop-c : goal.invariant-loop-c
invariant-loop-c l = record {
  small : l.value ≤ l.most;
  same : capped l.most (digits_after l.base l.value (drop l.c-index l.digits)) ≡ capped l.most (digits_after l.base 0 l.digits);
}
