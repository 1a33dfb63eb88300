use Rattle.std.specs.Prelude.{◌+◌}
use Rattle.std.proofs.Common.{arith}
use Rattle.dm_onekernel.specs.Plain.{plain_process}
use Rattle.dm_onekernel.specs.Step.{next_trap, replies}
use Rattle.dm_replay.specs.State.{one_kernel}
use Rattle.dm_replay.specs.Traps.{plain_trap}
use Rattle.dm_replay.proofs.Rows.{given_as, goes_if, passes, refused, weaker}
use Rattle.dm_replay.proofs.kernel.Kernel.reply.Goals as goal

pub returns-in_err-process-clause-steps : goal.returns-in_err-process-clause-steps
returns-in_err-process-clause-steps c = λ b.
    let s = one_kernel b c.args.self.now in
    passes c.from_residual.result c.in_err-process.field-0.0 _ _ c.from_residual.ensures (refused c.in_err-process.field-0.0 (next_trap s c.args.pid) (replies s c.args.pid c.args.number c.args.reply) (c.in_err-process.ensures.gives b))

pub returns-clause-steps : goal.returns-clause-steps
returns-clause-steps c = λ b.
    let s = one_kernel b c.args.self.now in
    given_as c.put_back_if.result _ _ _
    (goes_if s (one_kernel b c.take_trapped.new.self) c.args.pid (plain_process c.in_ok-process.process) c.replied.result (next_trap s c.args.pid) (plain_trap c.in_ok-process.process c.in_ok-process.trap) (replies s c.args.pid c.args.number c.args.reply)
    (c.in_ok-process.ensures.out b) (c.replied.ensures s c.args.pid c.in_ok-process.process) (c.in_ok-process.ensures.gives b))
    (c.put_back_if.ensures.steps b)

pub returns-clause-sound : goal.returns-clause-sound
returns-clause-sound c =
    c.put_back_if.ensures.sound (c.args.self.now.labels + 1)
    (weaker c.args.self.now.labels (c.args.self.now.labels + 1) c.take_trapped.new.self (omega arith) (c.in_ok-process.ensures.sound c.args.self.now.labels c.requires.sound)) c.in_ok-process.ensures.fit
