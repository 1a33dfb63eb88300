use Rattle.dm_replay.proofs.Executing.{further, stops}
use Rattle.dm_replay.proofs.steps.execute.Goals as goal

pub loop-done-preserved : goal.loop-done-preserved
loop-done-preserved c =
    further c.loop-done.done (record { regs = c.args.regs.now; bytes = c.args.memory.now }) (record { regs = c.loop-done.regs; bytes = c.loop-done.memory }) c.step.new.regs c.step.new.cells
    c.loop-done.invariant c.in-Plain.ensures.row

pub returns-in_default : goal.returns-in_default
returns-in_default c =
    stops c.args.count c.loop-done.done (record { regs = c.args.regs.now; bytes = c.args.memory.now }) (record { regs = c.loop-done.regs; bytes = c.loop-done.memory }) c.step.result c.step.new.regs c.step.new.cells c.loop-done-test.true
    c.loop-done.invariant c.in_default.not-Plain c.step.ensures.row
