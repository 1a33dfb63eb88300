use Rattle.std.proofs.Common.{arith}
use Rattle.dm_onekernel.specs.Step.{next_row, next_trap, running}
use Rattle.dm_processor.specs.Instructions.{instruction}
use Rattle.dm_replay.specs.State.{one_kernel}
use Rattle.dm_replay.proofs.Rows.{passes, refused}
use Rattle.dm_replay.proofs.Trapping.{call_said, called_fits, calls_fit, fault_fits, traps_call, traps_fault, traps_not}
use Rattle.dm_replay.proofs.kernel.Kernel.take_trapped.Goals as goal

pub returns-in_err-process-clause-gives : goal.returns-in_err-process-clause-gives
returns-in_err-process-clause-gives c = λ b.
    passes c.from_residual.result c.in_err-process.field-0.0 _ (next_trap (one_kernel b c.args.self.now) c.args.pid) c.from_residual.ensures
    (refused c.in_err-process.field-0.0 (running (one_kernel b c.args.self.now) c.args.pid) (λ x. next_row c.args.pid x (instruction x.regs x.memory)) (c.in_err-process.ensures.gives b))

pub returns-in-Plain-clause-gives : goal.returns-in-Plain-clause-gives
returns-in-Plain-clause-gives c = λ b.
    traps_not (one_kernel b c.args.self.now) c.args.pid c.in_ok-process.process c.step.new.regs c.step.new.cells (c.in_ok-process.ensures.gives b) c.in-Plain.ensures.row

pub call-requires-clause-lawful : goal.call-requires-clause-lawful
call-requires-clause-lawful c =
    calls_fit c.args.self.now.labels c.in-Call.number c.args.pid c.in_ok-process.process c.step.new.regs c.step.new.cells (c.in_ok-process.ensures.fit c.args.self.now.labels c.requires.sound) c.in-Call.ensures.row

pub call-requires-clause-counts : goal.call-requires-clause-counts
call-requires-clause-counts c =
    let f = c.in_ok-process.ensures.fit c.args.self.now.labels c.requires.sound in omega (arith, f.sent, c.requires.room)

pub returns-in_ok-called-in-Call-clause-gives : goal.returns-in_ok-called-in-Call-clause-gives
returns-in_ok-called-in-Call-clause-gives c = λ b.
    traps_call (one_kernel b c.args.self.now) c.args.pid c.in_ok-process.process c.call.new.process c.in-Call.number c.step.new.regs c.step.new.cells c.in_ok-called-in-Call.called (c.in_ok-process.ensures.gives b) c.in-Call.ensures.row
    (c.in_ok-process.ensures.fit c.args.self.now.labels c.requires.sound).pid c.in_ok-called-in-Call.ensures.plain

pub returns-in_ok-called-in-Call-clause-fit : goal.returns-in_ok-called-in-Call-clause-fit
returns-in_ok-called-in-Call-clause-fit c =
    called_fits c.args.self.now.labels 0 c.in-Call.number c.args.pid c.in_ok-process.process c.call.new.process c.step.new.regs c.step.new.cells (c.in_ok-process.ensures.fit c.args.self.now.labels c.requires.sound)
    c.in_ok-called-in-Call.ensures.process c.in_ok-called-in-Call.ensures.lawful

pub returns-in-Fault-clause-gives : goal.returns-in-Fault-clause-gives
returns-in-Fault-clause-gives c = λ b.
    traps_fault (one_kernel b c.args.self.now) c.args.pid c.in_ok-process.process (record c.in_ok-process.process { regs = c.step.new.regs; memory = c.step.new.cells }) c.in-Fault.fault c.step.new.regs c.step.new.cells
    (c.in_ok-process.ensures.gives b) c.in-Fault.ensures.row

pub returns-in-Fault-clause-fit : goal.returns-in-Fault-clause-fit
returns-in-Fault-clause-fit c =
    fault_fits c.args.self.now.labels c.in-Fault.fault c.args.pid c.in_ok-process.process c.step.new.regs c.step.new.cells (c.in_ok-process.ensures.fit c.args.self.now.labels c.requires.sound) c.in-Fault.ensures.row

pub returns-in_ok-called-in-Call-clause-said : goal.returns-in_ok-called-in-Call-clause-said
returns-in_ok-called-in-Call-clause-said c = call_said c.call.new.process c.in_ok-called-in-Call.called _ c.in-Call.number c.in_ok-called-in-Call.ensures.plain
