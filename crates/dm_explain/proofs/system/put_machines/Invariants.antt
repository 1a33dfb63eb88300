use Rattle.dm_explain.proofs.Names.{◌≡◌, ◌++◌, drop, each, machine_told}
use Rattle.dm_explain.proofs.system.put_machines.Given as goal

abbrev pub invariant-loop-i : goal.invariant-loop-i
invariant-loop-i l = l.into.items ++ each machine_told l.i (drop l.i l.machines) ≡ l.initial.into.items ++ each machine_told 0 l.machines
