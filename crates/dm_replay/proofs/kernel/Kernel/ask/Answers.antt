use Rattle.std.specs.Prelude.{◌+◌}
use Rattle.std.proofs.Common.{arith, sym, ◌∙◌}
use Rattle.dm_message.specs.declared.Message.{Message}
use Rattle.dm_message.specs.Plain.{PlainMessage}
use Rattle.dm_onekernel.specs.Kernel.{OneKernel, with_note}
use Rattle.dm_onekernel.specs.Options.{bind}
use Rattle.dm_onekernel.specs.Service.{follows_request}
use Rattle.dm_onekernel.specs.Step.{at_hand}
use Rattle.dm_replay.specs.State.{one_kernel}
use Rattle.dm_replay.proofs.Giving.{becomes_gives}
use Rattle.dm_replay.proofs.MoveRows.{asked_away, asked_other, asked_so}
use Rattle.dm_replay.proofs.Rows.{passes, refused, weaker}
use Rattle.dm_replay.proofs.kernel.Kernel.ask.Goals as goal

pub returns-in_err-message-clause-steps : goal.returns-in_err-message-clause-steps
returns-in_err-message-clause-steps c = λ b.
    let s = one_kernel b c.args.self.now in
    passes c.from_residual.result c.in_err-message.field-0.0 _ _ c.from_residual.ensures (refused c.in_err-message.field-0.0 (s.bag c.args.id) (λ (m : PlainMessage). bind (at_hand s m.to) (λ p. follows_request s c.args.id m m.what)) (c.in_err-message.ensures.gives b))

pub returns-then-not-is_at_hand-clause-steps : goal.returns-then-not-is_at_hand-clause-steps
returns-then-not-is_at_hand-clause-steps c = λ b.
    asked_away (one_kernel b c.args.self.now) (one_kernel b c.take_message.new.self) c.args.id c.in_ok-message.message (c.in_ok-message.ensures.out b) (c.in_ok-message.ensures.gives b) (sym c.is_at_hand.ensures ∙ c.if-not-is_at_hand.true)

pub returns-then-not-asks_to_move-clause-steps : goal.returns-then-not-asks_to_move-clause-steps
returns-then-not-asks_to_move-clause-steps c = λ b.
    asked_other (one_kernel b c.args.self.now) c.args.id c.in_ok-message.message (c.in_ok-message.ensures.gives b) (sym c.asks_to_move.ensures ∙ c.if-not-asks_to_move.true)

pub returns-clause-steps : goal.returns-clause-steps
returns-clause-steps c = λ b.
    let m : Message = c.in_ok-message.message in
    becomes_gives c.note.result b c.take_message.new.self c.note.new.self (λ (u : OneKernel). with_note u m.to.pid (record { id = c.args.id; asker = m.sender.pid })) _ c.note.ensures.state c.note.ensures.memory
    (asked_so (one_kernel b c.args.self.now) (one_kernel b c.take_message.new.self) c.args.id m (c.in_ok-message.ensures.out b) (c.in_ok-message.ensures.gives b) (sym c.is_at_hand.ensures ∙ c.if-not-is_at_hand.false) (sym c.asks_to_move.ensures ∙ c.if-not-asks_to_move.false))

pub returns-clause-sound : goal.returns-clause-sound
returns-clause-sound c =
    let m : Message = c.in_ok-message.message in
    let lawful = c.in_ok-message.ensures.fit c.args.self.now.labels c.requires.sound in
    c.note.ensures.sound (c.args.self.now.labels + 1) (weaker c.args.self.now.labels (c.args.self.now.labels + 1) c.take_message.new.self (omega arith) (c.in_ok-message.ensures.sound c.args.self.now.labels c.requires.sound))
    (record { follower = lawful.to.home; asker = lawful.sender }) (c.in_ok-message.ensures.home c.args.self.now.labels c.requires.sound)
