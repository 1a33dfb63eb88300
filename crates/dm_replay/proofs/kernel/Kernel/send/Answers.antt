use Rattle.std.specs.Prelude.{◌+◌}
use Rattle.std.proofs.Common.{ap, arith, sym, ◌∙◌}
use Rattle.std.specs.declared.option.Option.{Option}
use Rattle.std.specs.declared.option.Option.TheVariants.{Some}
use Rattle.dm_message.specs.declared.Message.{Message}
use Rattle.dm_message.specs.Ids.{id_eq}
use Rattle.dm_message.specs.Plain.{PlainMessage, plain_message}
use Rattle.dm_onekernel.specs.Kernel.{Alive, OneKernel, with_sent}
use Rattle.dm_onekernel.specs.Options.{bind, when}
use Rattle.dm_onekernel.specs.Plain.{plain_process}
use Rattle.dm_onekernel.specs.Step.{goes_on, next_trap, sends}
use Rattle.dm_replay.specs.State.{one_kernel, put_in}
use Rattle.dm_replay.proofs.Bag.{enters}
use Rattle.dm_replay.proofs.Giving.{becomes_gives}
use Rattle.dm_replay.proofs.Rows.{passes, refused, returned, weaker}
use Rattle.dm_replay.proofs.Sending.{goes_out, other_name}
use Rattle.dm_replay.proofs.kernel.Kernel.send.Goals as goal

pub returns-in_err-process-clause-steps : goal.returns-in_err-process-clause-steps
returns-in_err-process-clause-steps c = λ b.
    let s = one_kernel b c.args.self.now in
    passes c.from_residual.result c.in_err-process.field-0.0 _ _ c.from_residual.ensures (refused c.in_err-process.field-0.0 (next_trap s c.args.pid) (sends s c.args.pid c.args.id) (c.in_err-process.ensures.gives b))

pub returns-in_default-clause-steps : goal.returns-in_default-clause-steps
returns-in_default-clause-steps c = λ b.
    let s = one_kernel b c.args.self.now in
    let u = goes_on s c.args.pid (plain_process c.in_ok-process.process) in
    ap (λ o. bind o (sends s c.args.pid c.args.id)) (c.in_ok-process.ensures.gives b) ∙ c.into_message.ensures.sent s c.args.pid c.in_ok-process.process c.args.id
    ∙ ap (λ (o : Option Message). bind o (λ m. bind (plain_message m) (λ (w : PlainMessage). when (id_eq c.args.id w.id) (with_sent u (Some w))))) c.in_default.is

pub returns-then-not-is_named-clause-steps : goal.returns-then-not-is_named-clause-steps
returns-then-not-is_named-clause-steps c = λ b.
    let s = one_kernel b c.args.self.now in
    let u = goes_on s c.args.pid (plain_process c.in_ok-process.process) in
    ap (λ o. bind o (sends s c.args.pid c.args.id)) (c.in_ok-process.ensures.gives b) ∙ c.into_message.ensures.sent s c.args.pid c.in_ok-process.process c.args.id
    ∙ ap (λ (o : Option Message). bind o (λ m. bind (plain_message m) (λ (w : PlainMessage). when (id_eq c.args.id w.id) (with_sent u (Some w))))) c.in-Some.is
    ∙ other_name c.args.id c.in-Some.message u (sym c.is_named.ensures ∙ c.if-not-is_named.true)

pub put_message-requires : goal.put_message-requires
put_message-requires c = c.in-Some.ensures.lawful c.in_ok-process.ensures.lawful

pub returns-clause-steps : goal.returns-clause-steps
returns-clause-steps c = λ b.
    let s = one_kernel b c.args.self.now in
    let x = plain_process c.in_ok-process.process in
    let u = goes_on s c.args.pid x in
    let m : Message = c.in-Some.message in
    let said = c.in-Some.ensures.said c.in_ok-process.process c.in_ok-process.ensures.said in
    becomes_gives c.put_message.result b c.put_back.new.self c.put_message.new.self (λ (u : OneKernel). put_in u (Some m)) _ c.put_message.ensures.state c.put_message.ensures.memory
    (ap (λ o. bind o (sends s c.args.pid c.args.id)) (c.in_ok-process.ensures.gives b) ∙ c.into_message.ensures.sent s c.args.pid c.in_ok-process.process c.args.id
    ∙ ap (λ (o : Option Message). bind o (λ m. bind (plain_message m) (λ (w : PlainMessage). when (id_eq c.args.id w.id) (with_sent u (Some w))))) c.in-Some.is
    ∙ goes_out c.args.id m u (sym c.is_named.ensures ∙ c.if-not-is_named.false) said
    ∙ ap Some (sym (enters u (Some m) said))
    ∙ ap (λ (u : OneKernel). Some (put_in u (Some m))) (sym (returned s (one_kernel b c.take_trapped.new.self) (one_kernel b c.put_back.new.self) c.args.pid (Alive x) (c.in_ok-process.ensures.out b) (c.put_back.ensures.state b))))

pub returns-clause-sound : goal.returns-clause-sound
returns-clause-sound c =
    c.put_message.ensures.sound (c.args.self.now.labels + 1)
    (c.put_back.ensures.sound (c.args.self.now.labels + 1)
    (weaker c.args.self.now.labels (c.args.self.now.labels + 1) c.take_trapped.new.self (omega arith) (c.in_ok-process.ensures.sound c.args.self.now.labels c.requires.sound)) c.in_ok-process.ensures.fit)
