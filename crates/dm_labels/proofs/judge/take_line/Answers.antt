use Rattle.std.specs.Prelude.{◌+◌}
use Rattle.std.proofs.Common.{ap, arith, sym, ◌∙◌}
use Rattle.std.proofs.lemmas.Result.{on_ok_weaker}
use Rattle.std.specs.declared.option.Option.TheVariants.{None, Some}
use Rattle.dm_replay.specs.State.{one_kernel}
use Rattle.dm_replay.proofs.Rows.{given_as}
use Rattle.dm_labels.proofs.Judging.{label_said, none_in, nothing_said, one_in}
use Rattle.dm_labels.proofs.judge.take_line.Goals as goal

pub returns-then-is_skipped-clause-gives : goal.returns-then-is_skipped-clause-gives
returns-then-is_skipped-clause-gives c = nothing_said (one_kernel c.args.boot.now c.args.kernel.now) c.args.line.now (sym c.is_skipped.ensures ∙ c.if-is_skipped.true)

pub returns-then-is_skipped-clause-counted : goal.returns-then-is_skipped-clause-counted
returns-then-is_skipped-clause-counted c = let none = none_in c.args.line.now (sym c.is_skipped.ensures ∙ c.if-is_skipped.true) in omega (arith, none)

pub returns-in-Some-clause-gives : goal.returns-in-Some-clause-gives
returns-in-Some-clause-gives c =
    let b = c.args.boot.now in
    given_as c.apply.result (λ x. Some (one_kernel b c.apply.new.self)) _ _
    (sym (label_said (one_kernel b c.args.kernel.now) c.args.line.now (Some c.in-Some.label) (sym c.is_skipped.ensures ∙ c.if-is_skipped.false) (sym c.label_of.ensures ∙ c.in-Some.is)))
    c.apply.ensures.gives

pub returns-in-Some-clause-counted : goal.returns-in-Some-clause-counted
returns-in-Some-clause-counted c =
    let one = one_in c.args.line.now (sym c.is_skipped.ensures ∙ c.if-is_skipped.false) in
    on_ok_weaker c.apply.result (λ e. e ∙ ap (λ n. c.args.kernel.now.labels + n) (sym one)) c.apply.ensures.counted

pub returns-in-None-clause-gives : goal.returns-in-None-clause-gives
returns-in-None-clause-gives c =
    label_said (one_kernel c.args.boot.now c.args.kernel.now) c.args.line.now None (sym c.is_skipped.ensures ∙ c.if-is_skipped.false) (sym c.label_of.ensures ∙ c.in-None.is)
