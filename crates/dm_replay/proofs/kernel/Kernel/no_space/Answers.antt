use Rattle.std.specs.Prelude.{◌≡◌, ◌+◌, true}
use Rattle.std.proofs.Common.{ap, arith, refl, subst, sym, ◌∙◌}
use Rattle.std.specs.declared.option.Option.TheVariants.{Some}
use Rattle.dm_message.specs.declared.Message.{Message}
use Rattle.dm_message.specs.declared.What.TheVariants as what
use Rattle.dm_message.specs.Lawful.{IsLawfulMessage}
use Rattle.dm_message.specs.Plain as plain
use Rattle.dm_message.specs.Plain.{PlainMessage, plain_message}
use Rattle.dm_onekernel.specs.Kernel.{OneKernel, with_sent}
use Rattle.dm_onekernel.specs.Options.{when}
use Rattle.dm_onekernel.specs.Pieces.{answer_to}
use Rattle.dm_onekernel.specs.Service.{has_no_room}
use Rattle.dm_replay.specs.Begun.{is_kernel}
use Rattle.dm_replay.specs.State.{one_kernel, put_in}
use Rattle.dm_replay.proofs.Bag.{enters, is_plain}
use Rattle.dm_replay.proofs.Giving.{becomes_gives}
use Rattle.dm_replay.proofs.MoveRows.{answer_lawfully, no_room_not, no_room_so, said}
use Rattle.dm_replay.proofs.Rows.{passes, refused, weaker}
use Rattle.dm_replay.proofs.kernel.Kernel.no_space.Goals as goal

pub returns-in_err-message-clause-gives : goal.returns-in_err-message-clause-gives
returns-in_err-message-clause-gives c =
    let s = one_kernel c.args.boot.now c.args.self.now in
    passes c.from_residual.result c.in_err-message.field-0.0 _ _ c.from_residual.ensures
    (refused c.in_err-message.field-0.0 (s.bag c.args.id) (λ (m : PlainMessage). has_no_room s c.args.id m m.what) (c.in_err-message.ensures.gives c.args.boot.now))

pub returns-then-not-asks_to_make-clause-gives : goal.returns-then-not-asks_to_make-clause-gives
returns-then-not-asks_to_make-clause-gives c =
    let b = c.args.boot.now in
    no_room_not (one_kernel b c.args.self.now) c.args.id c.in_ok-message.message 0 0 (c.in_ok-message.ensures.gives b) (sym c.asks_to_make.ensures ∙ c.if-not-asks_to_make.true)

pub returns-then-not-is_kernel-clause-gives : goal.returns-then-not-is_kernel-clause-gives
returns-then-not-is_kernel-clause-gives c =
    let b = c.args.boot.now in
    let t = one_kernel b c.take_message.new.self in
    let m : Message = c.in_ok-message.message in
    no_room_so (one_kernel b c.args.self.now) t c.args.id m 0 0 (c.in_ok-message.ensures.out b) (c.in_ok-message.ensures.gives b) (sym c.asks_to_make.ensures ∙ c.if-not-asks_to_make.false)
    ∙ ap (λ h. when h (with_sent t (Some (answer_to (said m plain.NoRoom) plain.NoRoom)))) (sym c.is_kernel.ensures ∙ c.if-not-is_kernel.true)

pub put_message-requires : goal.put_message-requires
put_message-requires c = subst IsLawfulMessage (sym c.answer.ensures) (answer_lawfully c.in_ok-message.message what.NoRoom (c.in_ok-message.ensures.fit c.args.self.now.labels c.requires.sound) refl tt)

pub returns-clause-gives : goal.returns-clause-gives
returns-clause-gives c =
    let b = c.args.boot.now in
    let t = one_kernel b c.take_message.new.self in
    let m : Message = c.in_ok-message.message in
    let g : Message = c.answer.result in
    let says : plain_message g ≡ Some (answer_to (said m plain.NoRoom) plain.NoRoom) = ap plain_message c.answer.ensures in
    becomes_gives c.put_message.result b c.take_message.new.self c.put_message.new.self (λ (u : OneKernel). put_in u (Some g)) _ c.put_message.ensures.state c.put_message.ensures.memory
    (no_room_so (one_kernel b c.args.self.now) t c.args.id m 0 0 (c.in_ok-message.ensures.out b) (c.in_ok-message.ensures.gives b) (sym c.asks_to_make.ensures ∙ c.if-not-asks_to_make.false)
    ∙ ap (λ h. when h (with_sent t (Some (answer_to (said m plain.NoRoom) plain.NoRoom)))) (sym c.is_kernel.ensures ∙ c.if-not-is_kernel.false)
    ∙ ap (λ o. Some (with_sent t o)) (sym says)
    ∙ ap Some (sym (enters t (Some g) (is_plain g _ says))))

pub returns-clause-sound : goal.returns-clause-sound
returns-clause-sound c = c.put_message.ensures.sound (c.args.self.now.labels + 1) (weaker c.args.self.now.labels (c.args.self.now.labels + 1) c.take_message.new.self (omega arith) (c.in_ok-message.ensures.sound c.args.self.now.labels c.requires.sound))
