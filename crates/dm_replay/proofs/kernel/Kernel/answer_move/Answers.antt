use Rattle.std.specs.Prelude.{◌+◌}
use Rattle.std.proofs.Common.{ap, arith, subst, sym, ◌∙◌}
use Rattle.std.specs.declared.option.Option.TheVariants.{Some}
use Rattle.dm_link.specs.declared.Pid.{Pid}
use Rattle.dm_onekernel.specs.Kernel.{MoveNote, OneKernel, with_sent, without_note}
use Rattle.dm_onekernel.specs.Service.{ends_move}
use Rattle.dm_replay.specs.Answers.{IsRefused}
use Rattle.dm_replay.specs.Serving.{noted_by}
use Rattle.dm_replay.specs.State.{one_kernel, plain_note, put_in}
use Rattle.dm_replay.proofs.Bag.{enters, is_plain}
use Rattle.dm_replay.proofs.Giving.{becomes_gives}
use Rattle.dm_replay.proofs.MoveRows.{answered_row, answered_so, ended_not}
use Rattle.dm_replay.proofs.Rows.{passes, refused, weaker}
use Rattle.dm_replay.proofs.kernel.Kernel.answer_move.Goals as goal

pub returns-then-is_end-clause-steps : goal.returns-then-is_end-clause-steps
returns-then-is_end-clause-steps c = λ b. ended_not (one_kernel b c.args.self.now) c.args.id c.args.outcome (sym c.is_end.ensures ∙ c.if-is_end.true)

pub returns-in_err-pid-clause-steps : goal.returns-in_err-pid-clause-steps
returns-in_err-pid-clause-steps c = λ b.
    let s = one_kernel b c.args.self.now in
    passes c.from_residual.result c.in_err-pid.field-0.0 _ _ c.from_residual.ensures
    (subst (λ o. IsRefused c.in_err-pid.field-0.0 o) (sym (answered_row s c.args.id c.args.outcome)) (refused c.in_err-pid.field-0.0 (noted_by s c.args.id) (λ (r : Pid × MoveNote). ends_move s c.args.id r.0 r.1 c.args.outcome) (c.in_err-pid.ensures.gives b)))

pub answer_of-requires : goal.answer_of-requires
answer_of-requires c = tt

pub put_message-requires : goal.put_message-requires
put_message-requires c =
    let fit = c.in_ok-pid.ensures.fit c.args.self.now.labels c.requires.sound in c.answer_of.ensures.lawful fit.1 fit.0

pub returns-clause-steps : goal.returns-clause-steps
returns-clause-steps c = λ b.
    let s = one_kernel b c.args.self.now in
    let p : Pid = c.in_ok-pid.pid in
    let g = c.answer_of.result in
    let said = c.answer_of.ensures.plain in
    becomes_gives c.put_message.result b c.take_note.new.self c.put_message.new.self (λ (u : OneKernel). put_in u (Some g)) _ c.put_message.ensures.state c.put_message.ensures.memory
    (answered_so s c.args.id p (plain_note c.in_ok-pid.note) c.args.outcome (c.in_ok-pid.ensures.gives b) (sym c.is_end.ensures ∙ c.if-is_end.false)
    ∙ ap (λ o. Some (with_sent (without_note s p c.args.id) o)) (sym said)
    ∙ ap Some (sym (enters (without_note s p c.args.id) (Some g) (is_plain g _ said)))
    ∙ ap (λ (u : OneKernel). Some (put_in u (Some g))) (sym (c.in_ok-pid.ensures.out b)))

pub returns-clause-sound : goal.returns-clause-sound
returns-clause-sound c = c.put_message.ensures.sound (c.args.self.now.labels + 1) (weaker c.args.self.now.labels (c.args.self.now.labels + 1) c.take_note.new.self (omega arith) (c.in_ok-pid.ensures.sound c.args.self.now.labels c.requires.sound))
