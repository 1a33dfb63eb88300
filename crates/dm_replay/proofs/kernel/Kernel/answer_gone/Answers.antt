use Rattle.std.specs.Prelude.{◌+◌, is_some}
use Rattle.std.proofs.Common.{ap, arith, subst, sym, ◌∙◌}
use Rattle.std.specs.declared.option.Option.TheVariants.{Some}
use Rattle.dm_message.specs.declared.Message.{Message}
use Rattle.dm_message.specs.Plain.{PlainMessage, plain_message}
use Rattle.dm_datamove.specs.Serving.{plainly_gone}
use Rattle.dm_onekernel.specs.Kernel.{OneKernel}
use Rattle.dm_onekernel.specs.Options.{bind}
use Rattle.dm_onekernel.specs.Service.{without_message}
use Rattle.dm_onekernel.specs.Step.{says_gone, why_ended}
use Rattle.dm_replay.specs.Living.{at, life_of}
use Rattle.dm_replay.specs.State.{one_kernel, put_in}
use Rattle.dm_replay.proofs.Bag.{IsPlain, puts_answer}
use Rattle.dm_replay.proofs.EndRows.{asked_of, gone_said, vain_not, vain_so}
use Rattle.dm_replay.proofs.Giving.{becomes_gives}
use Rattle.dm_replay.proofs.Rows.{passes, refused, weaker}
use Rattle.dm_replay.proofs.kernel.Kernel.answer_gone.Goals as goal

pub returns-in_err-message-clause-steps : goal.returns-in_err-message-clause-steps
returns-in_err-message-clause-steps c = λ b.
    let s = one_kernel b c.args.self.now in
    passes c.from_residual.result c.in_err-message.field-0.0 _ _ c.from_residual.ensures (refused c.in_err-message.field-0.0 (s.bag c.args.id) (λ (m : PlainMessage). bind (why_ended (s.processes m.to)) (says_gone s c.args.id m)) (c.in_err-message.ensures.gives b))

pub returns-then-not-asks_in_vain-clause-steps : goal.returns-then-not-asks_in_vain-clause-steps
returns-then-not-asks_in_vain-clause-steps c = λ b.
    vain_not (one_kernel b c.args.self.now) (one_kernel b c.take_message.new.self) c.args.id c.in_ok-message.message c.asks_in_vain.result (c.in_ok-message.ensures.out b) (c.in_ok-message.ensures.gives b) c.asks_in_vain.ensures c.if-not-asks_in_vain.true

pub gone-requires-clause-lawful : goal.gone-requires-clause-lawful
gone-requires-clause-lawful c = c.in_ok-message.ensures.fit c.args.self.now.labels c.requires.sound

pub gone-requires-clause-request : goal.gone-requires-clause-request
gone-requires-clause-request c =
    asked_of (is_some (why_ended (life_of (at c.take_message.new.self.processes c.in_ok-message.message.to.pid)))) c.in_ok-message.message.what (sym c.asks_in_vain.ensures ∙ c.if-not-asks_in_vain.false)

pub returns-clause-steps : goal.returns-clause-steps
returns-clause-steps c = λ b.
    let s = one_kernel b c.args.self.now in
    let m : Message = c.in_ok-message.message in
    let told : IsPlain (Some c.gone.result) = subst (λ (g : Message). IsPlain (Some g)) (sym c.gone.ensures.answer) (gone_said m.what) in
    becomes_gives c.put_message.result b c.take_message.new.self c.put_message.new.self (λ (u : OneKernel). put_in u (Some c.gone.result)) _ c.put_message.ensures.state c.put_message.ensures.memory
    (vain_so s (one_kernel b c.take_message.new.self) c.args.id m c.asks_in_vain.result (c.in_ok-message.ensures.out b) (c.in_ok-message.ensures.gives b) c.asks_in_vain.ensures c.if-not-asks_in_vain.false
    ∙ puts_answer (without_message s c.args.id) c.gone.result (plainly_gone (plain_message m)) (sym c.gone.ensures.plain) told
    ∙ ap (λ (u : OneKernel). Some (put_in u (Some c.gone.result))) (sym (c.in_ok-message.ensures.out b)))

pub returns-clause-sound : goal.returns-clause-sound
returns-clause-sound c = c.put_message.ensures.sound (c.args.self.now.labels + 1) (weaker c.args.self.now.labels (c.args.self.now.labels + 1) c.take_message.new.self (omega arith) (c.in_ok-message.ensures.sound c.args.self.now.labels c.requires.sound))
