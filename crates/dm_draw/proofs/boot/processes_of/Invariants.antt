use Rattle.dm_draw.proofs.Names.{◌≡◌, first_processes}
use Rattle.dm_draw.proofs.boot.processes_of.Given as goal

abbrev pub invariant-loop-i : goal.invariant-loop-i
invariant-loop-i l = l.items ≡ first_processes l.machines l.i
