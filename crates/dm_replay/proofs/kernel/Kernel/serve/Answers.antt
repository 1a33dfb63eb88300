use Rattle.std.specs.Prelude.{◌+◌, OnOk, true, false}
use Rattle.std.proofs.Common.{ap, arith, refl, subst, sym, ◌∙◌}
use Rattle.dm_message.specs.declared.Message.{Message}
use Rattle.dm_message.specs.Plain.{PlainMessage, plain_what}
use Rattle.dm_onekernel.specs.declared.label.Why.TheVariants as why
use Rattle.dm_onekernel.specs.Kernel.{Alive, Ended}
use Rattle.dm_onekernel.specs.Options.{bind}
use Rattle.dm_onekernel.specs.Plain.{plain_process}
use Rattle.dm_onekernel.specs.Service.{serves}
use Rattle.dm_onekernel.specs.Step.{at_hand}
use Rattle.dm_replay.specs.Sound.{IsFit, IsSound}
use Rattle.dm_replay.specs.State.{one_kernel}
use Rattle.dm_replay.proofs.Rows.{fitter, given_as, passes, refused, weaker}
use Rattle.dm_replay.proofs.Serves.{is_other, landing_so, not_at_hand, piece_so, served_so, unserved}
use Rattle.dm_replay.proofs.kernel.Kernel.serve.Goals as goal

pub returns-in_err-message-clause-steps : goal.returns-in_err-message-clause-steps
returns-in_err-message-clause-steps c = λ b.
    let s = one_kernel b c.args.self.now in
    passes c.from_residual.result c.in_err-message.field-0.0 _ _ c.from_residual.ensures (refused c.in_err-message.field-0.0 (s.bag c.args.id) (λ (m : PlainMessage). bind (at_hand s m.to) (λ p. serves s c.args.id m p m.what)) (c.in_err-message.ensures.gives b))

pub returns-in_err-process-clause-steps : goal.returns-in_err-process-clause-steps
returns-in_err-process-clause-steps c = λ b.
    passes c.from_residual-in_err-process.result c.in_err-process.field-0.0 _ _ c.from_residual-in_err-process.ensures
    (not_at_hand (one_kernel b c.args.self.now) (one_kernel b c.take_message.new.self) c.args.id c.in_ok-message.message c.in_err-process.field-0.0 (c.in_ok-message.ensures.out b) (c.in_ok-message.ensures.gives b) (c.in_err-process.ensures.gives b))

pub returns-in-Stop-clause-steps : goal.returns-in-Stop-clause-steps
returns-in-Stop-clause-steps c = λ b.
    served_so (one_kernel b c.args.self.now) (one_kernel b c.take_message.new.self) (one_kernel b c.take_at_hand.new.self) (one_kernel b c.set_stopped.new.self) c.args.id c.in_ok-message.message (plain_process c.in_ok-process.process) _ (Alive (plain_process (record c.in_ok-process.process { stopped = true })))
    (c.in_ok-message.ensures.out b) (c.in_ok-message.ensures.gives b) (c.in_ok-process.ensures.gives b) (ap plain_what c.in-Stop.is) (c.in_ok-process.ensures.out b) (c.set_stopped.ensures.state b) refl

pub returns-in-Stop-clause-sound : goal.returns-in-Stop-clause-sound
returns-in-Stop-clause-sound c =
    c.set_stopped.ensures.sound (c.args.self.now.labels + 1) (weaker c.args.self.now.labels (c.args.self.now.labels + 1) c.take_at_hand.new.self (omega arith) (c.in_ok-process.ensures.sound c.args.self.now.labels (c.in_ok-message.ensures.sound c.args.self.now.labels c.requires.sound)))
    (fitter c.args.self.now.labels (c.args.self.now.labels + 1) c.in_ok-message.message.to.pid c.in_ok-process.process (omega arith) (c.in_ok-process.ensures.fit c.args.self.now.labels (c.in_ok-message.ensures.sound c.args.self.now.labels c.requires.sound)))

pub returns-in-Resume-clause-steps : goal.returns-in-Resume-clause-steps
returns-in-Resume-clause-steps c = λ b.
    served_so (one_kernel b c.args.self.now) (one_kernel b c.take_message.new.self) (one_kernel b c.take_at_hand.new.self) (one_kernel b c.set_stopped-in-Resume.new.self) c.args.id c.in_ok-message.message (plain_process c.in_ok-process.process) _ (Alive (plain_process (record c.in_ok-process.process { stopped = false })))
    (c.in_ok-message.ensures.out b) (c.in_ok-message.ensures.gives b) (c.in_ok-process.ensures.gives b) (ap plain_what c.in-Resume.is) (c.in_ok-process.ensures.out b) (c.set_stopped-in-Resume.ensures.state b) refl

pub returns-in-Resume-clause-sound : goal.returns-in-Resume-clause-sound
returns-in-Resume-clause-sound c =
    c.set_stopped-in-Resume.ensures.sound (c.args.self.now.labels + 1) (weaker c.args.self.now.labels (c.args.self.now.labels + 1) c.take_at_hand.new.self (omega arith) (c.in_ok-process.ensures.sound c.args.self.now.labels (c.in_ok-message.ensures.sound c.args.self.now.labels c.requires.sound)))
    (fitter c.args.self.now.labels (c.args.self.now.labels + 1) c.in_ok-message.message.to.pid c.in_ok-process.process (omega arith) (c.in_ok-process.ensures.fit c.args.self.now.labels (c.in_ok-message.ensures.sound c.args.self.now.labels c.requires.sound)))

pub returns-in-Kill-clause-steps : goal.returns-in-Kill-clause-steps
returns-in-Kill-clause-steps c = λ b.
    served_so (one_kernel b c.args.self.now) (one_kernel b c.take_message.new.self) (one_kernel b c.take_at_hand.new.self) (one_kernel b c.put_ended.new.self) c.args.id c.in_ok-message.message (plain_process c.in_ok-process.process) _ (Ended why.Killed)
    (c.in_ok-message.ensures.out b) (c.in_ok-message.ensures.gives b) (c.in_ok-process.ensures.gives b) (ap plain_what c.in-Kill.is) (c.in_ok-process.ensures.out b) (c.put_ended.ensures.state b) refl

pub returns-in-Kill-clause-sound : goal.returns-in-Kill-clause-sound
returns-in-Kill-clause-sound c = c.put_ended.ensures.sound (c.args.self.now.labels + 1) (weaker c.args.self.now.labels (c.args.self.now.labels + 1) c.take_at_hand.new.self (omega arith) (c.in_ok-process.ensures.sound c.args.self.now.labels (c.in_ok-message.ensures.sound c.args.self.now.labels c.requires.sound)))

pub returns-in-Read-clause-steps : goal.returns-in-Read-clause-steps
returns-in-Read-clause-steps c = λ b.
    given_as c.answer_piece.result _ _ _
    (piece_so (one_kernel b c.args.self.now) (one_kernel b c.take_message.new.self) (one_kernel b c.take_at_hand.new.self) c.args.id c.in_ok-message.message c.in_ok-process.process _
    (c.in_ok-message.ensures.out b) (c.in_ok-message.ensures.gives b) (c.in_ok-process.ensures.gives b) (ap plain_what c.in-Read.is) (c.in_ok-process.ensures.out b) refl) (c.answer_piece.ensures.steps b)

pub returns-in-Write-clause-steps : goal.returns-in-Write-clause-steps
returns-in-Write-clause-steps c = λ b.
    given_as c.answer_piece-in-Write.result _ _ _
    (piece_so (one_kernel b c.args.self.now) (one_kernel b c.take_message.new.self) (one_kernel b c.take_at_hand.new.self) c.args.id c.in_ok-message.message c.in_ok-process.process _
    (c.in_ok-message.ensures.out b) (c.in_ok-message.ensures.gives b) (c.in_ok-process.ensures.gives b) (ap plain_what c.in-Write.is) (c.in_ok-process.ensures.out b) refl) (c.answer_piece-in-Write.ensures.steps b)

pub returns-in-Block-clause-steps : goal.returns-in-Block-clause-steps
returns-in-Block-clause-steps c = λ b.
    given_as c.land_piece.result _ _ _
    (landing_so (one_kernel b c.args.self.now) (one_kernel b c.take_message.new.self) (one_kernel b c.take_at_hand.new.self) c.args.id c.in_ok-message.message c.in_ok-process.process _
    (c.in_ok-message.ensures.out b) (c.in_ok-message.ensures.gives b) (c.in_ok-process.ensures.gives b) (ap plain_what c.in-Block.is) (c.in_ok-process.ensures.out b) (c.in_ok-process.ensures.fit c.args.self.now.labels (c.in_ok-message.ensures.sound c.args.self.now.labels c.requires.sound)).pid refl) (c.land_piece.ensures.steps b)

pub returns-in-Written-clause-steps : goal.returns-in-Written-clause-steps
returns-in-Written-clause-steps c = λ b.
    given_as c.land_piece-in-Written.result _ _ _
    (landing_so (one_kernel b c.args.self.now) (one_kernel b c.take_message.new.self) (one_kernel b c.take_at_hand.new.self) c.args.id c.in_ok-message.message c.in_ok-process.process _
    (c.in_ok-message.ensures.out b) (c.in_ok-message.ensures.gives b) (c.in_ok-process.ensures.gives b) (ap plain_what c.in-Written.is) (c.in_ok-process.ensures.out b) (c.in_ok-process.ensures.fit c.args.self.now.labels (c.in_ok-message.ensures.sound c.args.self.now.labels c.requires.sound)).pid refl) (c.land_piece-in-Written.ensures.steps b)

pub returns-in-Gone-clause-steps : goal.returns-in-Gone-clause-steps
returns-in-Gone-clause-steps c = λ b.
    given_as c.land_piece-in-Gone.result _ _ _
    (landing_so (one_kernel b c.args.self.now) (one_kernel b c.take_message.new.self) (one_kernel b c.take_at_hand.new.self) c.args.id c.in_ok-message.message c.in_ok-process.process _
    (c.in_ok-message.ensures.out b) (c.in_ok-message.ensures.gives b) (c.in_ok-process.ensures.gives b) (ap plain_what c.in-Gone.is) (c.in_ok-process.ensures.out b) (c.in_ok-process.ensures.fit c.args.self.now.labels (c.in_ok-message.ensures.sound c.args.self.now.labels c.requires.sound)).pid refl) (c.land_piece-in-Gone.ensures.steps b)

pub answer_piece-requires-clause-sound : goal.answer_piece-requires-clause-sound
answer_piece-requires-clause-sound c = subst (λ n. IsSound n c.take_at_hand.new.self) (sym (c.in_ok-process.ensures.stays.labels ∙ c.in_ok-message.ensures.stays.labels)) (c.in_ok-process.ensures.sound c.args.self.now.labels (c.in_ok-message.ensures.sound c.args.self.now.labels c.requires.sound))

pub answer_piece-requires-clause-room : goal.answer_piece-requires-clause-room
answer_piece-requires-clause-room c = let same = (c.in_ok-process.ensures.stays.labels ∙ c.in_ok-message.ensures.stays.labels) in omega (arith, same, c.requires.room)

pub answer_piece-requires-clause-fit : goal.answer_piece-requires-clause-fit
answer_piece-requires-clause-fit c = subst (λ n. IsFit n c.in_ok-message.message.to.pid c.in_ok-process.process) (sym (c.in_ok-process.ensures.stays.labels ∙ c.in_ok-message.ensures.stays.labels)) (c.in_ok-process.ensures.fit c.args.self.now.labels (c.in_ok-message.ensures.sound c.args.self.now.labels c.requires.sound))

pub answer_piece-requires-clause-lawful : goal.answer_piece-requires-clause-lawful
answer_piece-requires-clause-lawful c = c.in_ok-message.ensures.fit c.args.self.now.labels c.requires.sound

pub returns-in-Read-clause-sound : goal.returns-in-Read-clause-sound
returns-in-Read-clause-sound c = subst (λ n. OnOk c.answer_piece.result (IsSound (n + 1) c.answer_piece.new.self)) (c.in_ok-process.ensures.stays.labels ∙ c.in_ok-message.ensures.stays.labels) c.answer_piece.ensures.sound

pub answer_piece-requires-in-Write-clause-sound : goal.answer_piece-requires-in-Write-clause-sound
answer_piece-requires-in-Write-clause-sound c = subst (λ n. IsSound n c.take_at_hand.new.self) (sym (c.in_ok-process.ensures.stays.labels ∙ c.in_ok-message.ensures.stays.labels)) (c.in_ok-process.ensures.sound c.args.self.now.labels (c.in_ok-message.ensures.sound c.args.self.now.labels c.requires.sound))

pub answer_piece-requires-in-Write-clause-room : goal.answer_piece-requires-in-Write-clause-room
answer_piece-requires-in-Write-clause-room c = let same = (c.in_ok-process.ensures.stays.labels ∙ c.in_ok-message.ensures.stays.labels) in omega (arith, same, c.requires.room)

pub answer_piece-requires-in-Write-clause-fit : goal.answer_piece-requires-in-Write-clause-fit
answer_piece-requires-in-Write-clause-fit c = subst (λ n. IsFit n c.in_ok-message.message.to.pid c.in_ok-process.process) (sym (c.in_ok-process.ensures.stays.labels ∙ c.in_ok-message.ensures.stays.labels)) (c.in_ok-process.ensures.fit c.args.self.now.labels (c.in_ok-message.ensures.sound c.args.self.now.labels c.requires.sound))

pub answer_piece-requires-in-Write-clause-lawful : goal.answer_piece-requires-in-Write-clause-lawful
answer_piece-requires-in-Write-clause-lawful c = c.in_ok-message.ensures.fit c.args.self.now.labels c.requires.sound

pub returns-in-Write-clause-sound : goal.returns-in-Write-clause-sound
returns-in-Write-clause-sound c = subst (λ n. OnOk c.answer_piece-in-Write.result (IsSound (n + 1) c.answer_piece-in-Write.new.self)) (c.in_ok-process.ensures.stays.labels ∙ c.in_ok-message.ensures.stays.labels) c.answer_piece-in-Write.ensures.sound

pub land_piece-requires-clause-sound : goal.land_piece-requires-clause-sound
land_piece-requires-clause-sound c = subst (λ n. IsSound n c.take_at_hand.new.self) (sym (c.in_ok-process.ensures.stays.labels ∙ c.in_ok-message.ensures.stays.labels)) (c.in_ok-process.ensures.sound c.args.self.now.labels (c.in_ok-message.ensures.sound c.args.self.now.labels c.requires.sound))

pub land_piece-requires-clause-room : goal.land_piece-requires-clause-room
land_piece-requires-clause-room c = let same = (c.in_ok-process.ensures.stays.labels ∙ c.in_ok-message.ensures.stays.labels) in omega (arith, same, c.requires.room)

pub land_piece-requires-clause-fit : goal.land_piece-requires-clause-fit
land_piece-requires-clause-fit c = subst (λ n. IsFit n c.in_ok-message.message.to.pid c.in_ok-process.process) (sym (c.in_ok-process.ensures.stays.labels ∙ c.in_ok-message.ensures.stays.labels)) (c.in_ok-process.ensures.fit c.args.self.now.labels (c.in_ok-message.ensures.sound c.args.self.now.labels c.requires.sound))

pub land_piece-requires-clause-lawful : goal.land_piece-requires-clause-lawful
land_piece-requires-clause-lawful c = c.in_ok-message.ensures.fit c.args.self.now.labels c.requires.sound

pub returns-in-Block-clause-sound : goal.returns-in-Block-clause-sound
returns-in-Block-clause-sound c = subst (λ n. OnOk c.land_piece.result (IsSound (n + 1) c.land_piece.new.self)) (c.in_ok-process.ensures.stays.labels ∙ c.in_ok-message.ensures.stays.labels) c.land_piece.ensures.sound

pub land_piece-requires-in-Written-clause-sound : goal.land_piece-requires-in-Written-clause-sound
land_piece-requires-in-Written-clause-sound c = subst (λ n. IsSound n c.take_at_hand.new.self) (sym (c.in_ok-process.ensures.stays.labels ∙ c.in_ok-message.ensures.stays.labels)) (c.in_ok-process.ensures.sound c.args.self.now.labels (c.in_ok-message.ensures.sound c.args.self.now.labels c.requires.sound))

pub land_piece-requires-in-Written-clause-room : goal.land_piece-requires-in-Written-clause-room
land_piece-requires-in-Written-clause-room c = let same = (c.in_ok-process.ensures.stays.labels ∙ c.in_ok-message.ensures.stays.labels) in omega (arith, same, c.requires.room)

pub land_piece-requires-in-Written-clause-fit : goal.land_piece-requires-in-Written-clause-fit
land_piece-requires-in-Written-clause-fit c = subst (λ n. IsFit n c.in_ok-message.message.to.pid c.in_ok-process.process) (sym (c.in_ok-process.ensures.stays.labels ∙ c.in_ok-message.ensures.stays.labels)) (c.in_ok-process.ensures.fit c.args.self.now.labels (c.in_ok-message.ensures.sound c.args.self.now.labels c.requires.sound))

pub land_piece-requires-in-Written-clause-lawful : goal.land_piece-requires-in-Written-clause-lawful
land_piece-requires-in-Written-clause-lawful c = c.in_ok-message.ensures.fit c.args.self.now.labels c.requires.sound

pub returns-in-Written-clause-sound : goal.returns-in-Written-clause-sound
returns-in-Written-clause-sound c = subst (λ n. OnOk c.land_piece-in-Written.result (IsSound (n + 1) c.land_piece-in-Written.new.self)) (c.in_ok-process.ensures.stays.labels ∙ c.in_ok-message.ensures.stays.labels) c.land_piece-in-Written.ensures.sound

pub land_piece-requires-in-Gone-clause-sound : goal.land_piece-requires-in-Gone-clause-sound
land_piece-requires-in-Gone-clause-sound c = subst (λ n. IsSound n c.take_at_hand.new.self) (sym (c.in_ok-process.ensures.stays.labels ∙ c.in_ok-message.ensures.stays.labels)) (c.in_ok-process.ensures.sound c.args.self.now.labels (c.in_ok-message.ensures.sound c.args.self.now.labels c.requires.sound))

pub land_piece-requires-in-Gone-clause-room : goal.land_piece-requires-in-Gone-clause-room
land_piece-requires-in-Gone-clause-room c = let same = (c.in_ok-process.ensures.stays.labels ∙ c.in_ok-message.ensures.stays.labels) in omega (arith, same, c.requires.room)

pub land_piece-requires-in-Gone-clause-fit : goal.land_piece-requires-in-Gone-clause-fit
land_piece-requires-in-Gone-clause-fit c = subst (λ n. IsFit n c.in_ok-message.message.to.pid c.in_ok-process.process) (sym (c.in_ok-process.ensures.stays.labels ∙ c.in_ok-message.ensures.stays.labels)) (c.in_ok-process.ensures.fit c.args.self.now.labels (c.in_ok-message.ensures.sound c.args.self.now.labels c.requires.sound))

pub land_piece-requires-in-Gone-clause-lawful : goal.land_piece-requires-in-Gone-clause-lawful
land_piece-requires-in-Gone-clause-lawful c = c.in_ok-message.ensures.fit c.args.self.now.labels c.requires.sound

pub returns-in-Gone-clause-sound : goal.returns-in-Gone-clause-sound
returns-in-Gone-clause-sound c = subst (λ n. OnOk c.land_piece-in-Gone.result (IsSound (n + 1) c.land_piece-in-Gone.new.self)) (c.in_ok-process.ensures.stays.labels ∙ c.in_ok-message.ensures.stays.labels) c.land_piece-in-Gone.ensures.sound

pub returns : goal.returns
returns c =
    let m : Message = c.in_ok-message.message in
    let d = c.in_default in
    record {
      steps = λ b.
          unserved (one_kernel b c.args.self.now) c.args.id m (c.in_ok-message.ensures.gives b)
          (is_other m.what d.not-Stop d.not-Resume d.not-Kill d.not-Read d.not-Write d.not-Block d.not-Written d.not-Gone);
      sound = tt;
      stays = tt;
    }
