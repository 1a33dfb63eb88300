use Rattle.dm_kernel.proofs.Names.{◌≡◌, ◌-◌, ◌≤◌, ran}
use Rattle.dm_kernel.proofs.Running.{more}
use Rattle.dm_kernel.proofs.run.execute.Given as goal

abbrev pub invariant-loop-count : goal.invariant-loop-count
invariant-loop-count l =
    record {
      within : l.count ≤ l.quantum;
      ran : ran l.quantum (record { regs = l.fn.regs; bytes = l.fn.memory }) ≡ more l.count (ran (l.quantum - l.count) (record { regs = l.regs; bytes = l.memory }));
    }

abbrev pub decreases-loop-count : goal.decreases-loop-count
decreases-loop-count l = l.quantum - l.count
