use Rattle.dm_kernel.proofs.Names.{arith, ran}
use Rattle.dm_kernel.proofs.Running.{one_further}
use Rattle.dm_kernel.proofs.run.execute.Goals as goal

pub loop-count-preserved : goal.loop-count-preserved
loop-count-preserved c =
    record {
      within = omega arith;
      ran =
          one_further c.args.quantum c.loop-count.count (record { regs = c.loop-count.regs; bytes = c.loop-count.memory }) c.step.new.regs c.step.new.cells
          (ran c.args.quantum (record { regs = c.args.regs.now; bytes = c.args.memory.now })) c.loop-count-test.true c.loop-count.invariant.ran
          c.in-Plain.ensures.row;
    }
