use Rattle.std.specs.Prelude.{◌+◌}
use Rattle.std.proofs.Common.{ap, arith, sym, ◌∙◌}
use Rattle.std.specs.declared.option.Option.TheVariants.{Some}
use Rattle.dm_syscall.specs.declared.Completed.{Completed}
use Rattle.dm_syscall.specs.Completing.{plain_completed}
use Rattle.dm_onekernel.specs.Options.{bind, when}
use Rattle.dm_onekernel.specs.Plain.{plain_process}
use Rattle.dm_onekernel.specs.Step.{completing, goes_on, refuses}
use Rattle.dm_replay.specs.State.{one_kernel}
use Rattle.dm_replay.proofs.Rows.{fitter, given_as, goes_if, passes, refused, weaker}
use Rattle.dm_replay.proofs.kernel.Kernel.refuse.Goals as goal

pub returns-in_err-process-clause-steps : goal.returns-in_err-process-clause-steps
returns-in_err-process-clause-steps c = λ b.
    let s = one_kernel b c.args.self.now in
    passes c.from_residual.result c.in_err-process.field-0.0 _ _ c.from_residual.ensures
    (refused c.in_err-process.field-0.0 (completing s c.args.pid c.args.id) (refuses s c.args.pid c.args.reply) (c.in_err-process.ensures.gives b))

pub returns-in-Refused-clause-steps : goal.returns-in-Refused-clause-steps
returns-in-Refused-clause-steps c = λ b.
    let s = one_kernel b c.args.self.now in
    let x = c.in_ok-process.process in
    given_as c.put_back_if.result _ _ _
    (goes_if s (one_kernel b c.complete.new.self) c.args.pid (plain_process x) c.same_reply.result (completing s c.args.pid c.args.id) (Some (plain_completed c.in_ok-process.completed x)) (refuses s c.args.pid c.args.reply)
    (c.in_ok-process.ensures.out b)
    (ap (λ (k : Completed). bind (Some (plain_completed k x)) (refuses s c.args.pid c.args.reply)) c.in-Refused.is ∙ ap (λ h. when h (goes_on s c.args.pid (plain_process x))) (sym c.same_reply.ensures))
    (c.in_ok-process.ensures.gives b))
    (c.put_back_if.ensures.steps b)

pub returns-in-Refused-clause-sound : goal.returns-in-Refused-clause-sound
returns-in-Refused-clause-sound c =
    c.put_back_if.ensures.sound (c.args.self.now.labels + 1) (weaker c.args.self.now.labels (c.args.self.now.labels + 1) c.complete.new.self (omega arith) c.in_ok-process.ensures.sound)
    (fitter c.args.self.now.labels (c.args.self.now.labels + 1) c.args.pid c.in_ok-process.process (omega arith) c.in_ok-process.ensures.fit)

pub returns-in-Received-clause-steps : goal.returns-in-Received-clause-steps
returns-in-Received-clause-steps c = λ b.
    let s = one_kernel b c.args.self.now in
    ap (λ o. bind o (refuses s c.args.pid c.args.reply)) (c.in_ok-process.ensures.gives b)
    ∙ ap (λ (k : Completed). bind (Some (plain_completed k c.in_ok-process.process)) (refuses s c.args.pid c.args.reply)) c.in-Received.is
