use Rattle.std.specs.Prelude.{◌≡◌, ◌+◌, length}
use Rattle.std.proofs.Common.{ap, arith, rules, sym, ◌∙◌}
use Rattle.std.specs.declared.option.Option.TheVariants.{Some}
use Rattle.dm_onekernel.specs.Kernel.{OneKernel}
use Rattle.dm_onekernel.specs.Plain.{plain_process}
use Rattle.dm_datamove.specs.Serving.{served_plainly}
use Rattle.dm_message.specs.Plain.{plain_message}
use Rattle.dm_process.specs.declared.process.Process.{Process}
use Rattle.dm_replay.specs.Serving.{serves_at}
use Rattle.dm_replay.specs.State.{one_kernel, put_in}
use Rattle.dm_replay.specs.Tests.{is_within}
use Rattle.dm_replay.proofs.Giving.{becomes_gives}
use Rattle.dm_replay.proofs.Keeping.{serving_named, serving_sent}
use Rattle.dm_replay.proofs.Pieces.{answer_said, served_puts}
use Rattle.dm_replay.proofs.Rows.{weaker}
use Rattle.dm_replay.proofs.Serves.{outside, within}
use Rattle.dm_replay.proofs.kernel.Kernel.answer_piece.Goals as goal

pub returns-then-not-is_within-clause-steps : goal.returns-then-not-is_within-clause-steps
returns-then-not-is_within-clause-steps c = λ b.
    let size : c.len.result ≡ length c.args.process.memory = search rules in
    ap (serves_at (one_kernel b c.args.self.now) c.args.message.now.to.pid)
    (outside c.args.process c.args.message.now (ap (λ n. is_within n c.args.message.now.what) (sym size) ∙ sym c.is_within.ensures ∙ c.if-not-is_within.true))

pub serve-requires-clause-lawful : goal.serve-requires-clause-lawful
serve-requires-clause-lawful c = c.requires.fit.lawful

pub serve-requires-clause-within : goal.serve-requires-clause-within
serve-requires-clause-within c =
    let size : c.len.result ≡ length c.args.process.memory = search rules in
    within (length c.args.process.memory) c.args.message.now.what (ap (λ n. is_within n c.args.message.now.what) (sym size) ∙ sym c.is_within.ensures ∙ c.if-not-is_within.false)

pub returns-clause-steps : goal.returns-clause-steps
returns-clause-steps c = λ b.
    let g = c.in_ok-answer.answer in
    becomes_gives c.put_message.result b c.put_back.new.self c.put_message.new.self (λ (u : OneKernel). put_in u (Some g)) _ c.put_message.ensures.state c.put_message.ensures.memory
    (served_puts (one_kernel b c.args.self.now) (one_kernel b c.put_back.new.self) c.args.message.now.to.pid (plain_process c.serve.new.process) g (served_plainly c.args.process (plain_message c.args.message.now)) c.in_ok-answer.ensures.plain
    (answer_said 0 c.args.process c.args.message.now c.args.message.now.what g c.in_ok-answer.ensures.answer) (c.put_back.ensures.state b))

pub returns-clause-sound : goal.returns-clause-sound
returns-clause-sound c =
    let x : Process = c.args.process in
    let w = c.args.message.now.what in
    let y : Process = c.serve.new.process in
    let few = c.requires.fit.sent in
    let sent = ap (λ (p : Process). p.sent) c.in_ok-answer.ensures.process ∙ serving_sent x w in
    c.put_message.ensures.sound (c.args.self.now.labels + 1)
    (c.put_back.ensures.sound (c.args.self.now.labels + 1) (weaker c.args.self.now.labels (c.args.self.now.labels + 1) c.args.self.now (omega arith) c.requires.sound)
    (record { pid = ap (λ (p : Process). p.pid) c.in_ok-answer.ensures.process ∙ serving_named x w ∙ c.requires.fit.pid; lawful = c.in_ok-answer.ensures.lawful; sent = omega (arith, few, sent) }))
