use Rattle.std.specs.Prelude.{◌+◌}
use Rattle.std.proofs.Common.{ap, arith, subst, sym, ◌∙◌}
use Rattle.std.specs.declared.option.Option.TheVariants.{Some}
use Rattle.dm_syscall.specs.declared.Completed.{Completed}
use Rattle.dm_syscall.specs.Completing.{plain_completed}
use Rattle.dm_onekernel.specs.Kernel.{Alive, OneKernel}
use Rattle.dm_onekernel.specs.Options.{bind}
use Rattle.dm_onekernel.specs.Plain.{plain_process}
use Rattle.dm_onekernel.specs.Service.{without_message}
use Rattle.dm_onekernel.specs.Step.{completing, receives}
use Rattle.dm_replay.specs.Living.{HasPlace}
use Rattle.dm_replay.specs.State.{one_kernel}
use Rattle.dm_replay.proofs.Rows.{fitter, passes, refused, returned, weaker}
use Rattle.dm_replay.proofs.kernel.Kernel.receive.Goals as goal

pub returns-in_err-process-clause-steps : goal.returns-in_err-process-clause-steps
returns-in_err-process-clause-steps c = λ b.
    let s = one_kernel b c.args.self.now in
    passes c.from_residual.result c.in_err-process.field-0.0 _ _ c.from_residual.ensures (refused c.in_err-process.field-0.0 (completing s c.args.pid c.args.id) (receives s c.args.pid c.args.id) (c.in_err-process.ensures.gives b))

pub put_back-requires : goal.put_back-requires
put_back-requires c = subst (λ ps. HasPlace ps c.args.pid) (sym c.forget.ensures.processes) c.in_ok-process.ensures.place

pub returns-in-Received-clause-steps : goal.returns-in-Received-clause-steps
returns-in-Received-clause-steps c = λ b.
    let s = one_kernel b c.args.self.now in
    let x = c.in_ok-process.process in
    ap (λ o. bind o (receives s c.args.pid c.args.id)) (c.in_ok-process.ensures.gives b)
    ∙ ap (λ (k : Completed). bind (Some (plain_completed k x)) (receives s c.args.pid c.args.id)) c.in-Received.is
    ∙ ap Some (sym (returned (without_message s c.args.id) (one_kernel b c.forget.new.self) (one_kernel b c.put_back.new.self) c.args.pid (Alive (plain_process x))
    (c.forget.ensures.out b ∙ ap (λ (u : OneKernel). without_message u c.args.id) (c.in_ok-process.ensures.out b)) (c.put_back.ensures.state b)))

pub returns-in-Received-clause-sound : goal.returns-in-Received-clause-sound
returns-in-Received-clause-sound c =
    c.put_back.ensures.sound (c.args.self.now.labels + 1)
    (c.forget.ensures.sound (c.args.self.now.labels + 1) (weaker c.args.self.now.labels (c.args.self.now.labels + 1) c.complete.new.self (omega arith) c.in_ok-process.ensures.sound))
    (fitter c.args.self.now.labels (c.args.self.now.labels + 1) c.args.pid c.in_ok-process.process (omega arith) c.in_ok-process.ensures.fit)

pub returns-in-Refused-clause-steps : goal.returns-in-Refused-clause-steps
returns-in-Refused-clause-steps c = λ b.
    let s = one_kernel b c.args.self.now in
    ap (λ o. bind o (receives s c.args.pid c.args.id)) (c.in_ok-process.ensures.gives b)
    ∙ ap (λ (k : Completed). bind (Some (plain_completed k c.in_ok-process.process)) (receives s c.args.pid c.args.id)) c.in-Refused.is
