use Rattle.std.specs.Prelude.{◌+◌}
use Rattle.std.proofs.Common.{ap, arith, ◌∙◌}
use Rattle.dm_message.specs.Plain.{PlainMessage}
use Rattle.dm_onekernel.specs.Options.{bind, when}
use Rattle.dm_onekernel.specs.Step.{drops, why_ended}
use Rattle.dm_replay.specs.State.{one_kernel}
use Rattle.dm_replay.proofs.EndRows.{drops_when}
use Rattle.dm_replay.proofs.Rows.{passes, refused, weaker}
use Rattle.dm_replay.proofs.kernel.Kernel.drop_message.Goals as goal

pub returns-in_err-message-clause-steps : goal.returns-in_err-message-clause-steps
returns-in_err-message-clause-steps c = λ b.
    let s = one_kernel b c.args.self.now in
    passes c.from_residual.result c.in_err-message.field-0.0 _ _ c.from_residual.ensures (refused c.in_err-message.field-0.0 (s.bag c.args.id) (λ (m : PlainMessage). bind (why_ended (s.processes m.to)) (drops s c.args.id m)) (c.in_err-message.ensures.gives b))

pub returns-then-drops-clause-steps : goal.returns-then-drops-clause-steps
returns-then-drops-clause-steps c = λ b.
    let t = one_kernel b c.take_message.new.self in
    drops_when (one_kernel b c.args.self.now) t c.args.id c.in_ok-message.message c.drops.result (c.in_ok-message.ensures.out b) (c.in_ok-message.ensures.gives b) c.drops.ensures ∙ ap (λ h. when h t) c.if-drops.true

pub returns-then-drops-clause-sound : goal.returns-then-drops-clause-sound
returns-then-drops-clause-sound c = weaker c.args.self.now.labels (c.args.self.now.labels + 1) c.take_message.new.self (omega arith) (c.in_ok-message.ensures.sound c.args.self.now.labels c.requires.sound)

pub returns-clause-steps : goal.returns-clause-steps
returns-clause-steps c = λ b.
    let t = one_kernel b c.take_message.new.self in
    drops_when (one_kernel b c.args.self.now) t c.args.id c.in_ok-message.message c.drops.result (c.in_ok-message.ensures.out b) (c.in_ok-message.ensures.gives b) c.drops.ensures ∙ ap (λ h. when h t) c.if-drops.false
