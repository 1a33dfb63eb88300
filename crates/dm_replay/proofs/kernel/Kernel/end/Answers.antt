use Rattle.std.specs.Prelude.{◌+◌}
use Rattle.std.proofs.Common.{ap, arith, sym, ◌∙◌}
use Rattle.std.specs.declared.option.Option.TheVariants.{Some}
use Rattle.dm_onekernel.specs.Kernel.{Ended, with_process}
use Rattle.dm_onekernel.specs.Options.{bind, when}
use Rattle.dm_onekernel.specs.Step.{ends, next_trap}
use Rattle.dm_replay.specs.State.{one_kernel}
use Rattle.dm_replay.proofs.Rows.{passes, refused, returned, weaker}
use Rattle.dm_replay.proofs.kernel.Kernel.end.Goals as goal

pub returns-in_err-_process-clause-steps : goal.returns-in_err-_process-clause-steps
returns-in_err-_process-clause-steps c = λ b.
    let s = one_kernel b c.args.self.now in
    passes c.from_residual.result c.in_err-_process.field-0.0 _ _ c.from_residual.ensures (refused c.in_err-_process.field-0.0 (next_trap s c.args.pid) (ends s c.args.pid c.args.why) (c.in_err-_process.ensures.gives b))

pub returns-then-not-ends-clause-steps : goal.returns-then-not-ends-clause-steps
returns-then-not-ends-clause-steps c = λ b.
    let s = one_kernel b c.args.self.now in
    ap (λ o. bind o (ends s c.args.pid c.args.why)) (c.in_ok-_process.ensures.gives b) ∙ c.ends.ensures s c.args.pid c.in_ok-_process._process ∙ ap (λ h. when h (with_process s c.args.pid (Ended c.args.why))) c.if-not-ends.true

pub returns-clause-steps : goal.returns-clause-steps
returns-clause-steps c = λ b.
    let s = one_kernel b c.args.self.now in
    ap (λ o. bind o (ends s c.args.pid c.args.why)) (c.in_ok-_process.ensures.gives b) ∙ c.ends.ensures s c.args.pid c.in_ok-_process._process ∙ ap (λ h. when h (with_process s c.args.pid (Ended c.args.why))) c.if-not-ends.false
    ∙ ap Some (sym (returned s (one_kernel b c.take_trapped.new.self) (one_kernel b c.put_ended.new.self) c.args.pid (Ended c.args.why) (c.in_ok-_process.ensures.out b) (c.put_ended.ensures.state b)))

pub returns-clause-sound : goal.returns-clause-sound
returns-clause-sound c =
    c.put_ended.ensures.sound (c.args.self.now.labels + 1)
    (weaker c.args.self.now.labels (c.args.self.now.labels + 1) c.take_trapped.new.self (omega arith) (c.in_ok-_process.ensures.sound c.args.self.now.labels c.requires.sound))
