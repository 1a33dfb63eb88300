use Rattle.dm_draw.proofs.Names.{◌≡◌, small_machines}
use Rattle.dm_draw.proofs.boot.machines_of.Given as goal

abbrev pub invariant-loop : goal.invariant-loop
invariant-loop l = l.items ≡ small_machines l.counter
