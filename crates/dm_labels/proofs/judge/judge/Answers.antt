-- Each line is judged by the kernel that took the ones before.
use Rattle.std.specs.Prelude.{◌≡◌, ◌+◌, length}
use Rattle.std.proofs.Common.{ap, arith, sym, ◌∙◌}
use Rattle.std.proofs.lemmas.Bool.Decides.{nat_tests}
use Rattle.dm_reading.specs.Lines.{source_lines}
use Rattle.dm_onekernel.specs.Start.{start}
use Rattle.dm_labels.specs.declared.judge.Verdict.TheVariants.{Good}
use Rattle.dm_labels.specs.Judged.{judged_from}
use Rattle.dm_replay.specs.State.{one_kernel}
use Rattle.dm_labels.proofs.Judging.{all_judged, at_most_one, falls, goes}
use Rattle.dm_labels.proofs.judge.judge.Goals as goal

pub loop-rest-init : goal.loop-rest-init
loop-rest-init c =
    record {
      verdict = sym (ap (λ s. judged_from s 1 c.in_ok-kernel.kernel.labels (source_lines c.args.text.now)) c.in_ok-kernel.ensures.state ∙ ap (λ n. judged_from (start c.args.boot.now) 1 n (source_lines c.args.text.now)) c.in_ok-kernel.ensures.labels);
      of = c.in_ok-kernel.ensures.of;
      sound = c.in_ok-kernel.ensures.sound;
      lines = omega arith;
      labels = let none = c.in_ok-kernel.ensures.labels in omega (arith, none);
    }

pub take_line-requires-clause-room : goal.take_line-requires-clause-room
take_line-requires-clause-room c =
    let few = c.loop-rest.invariant.labels in
    let short = c.requires.short in
    let less = c.first_source_line.ensures.less in
    omega (arith, few, short, less)

pub loop-rest-preserved : goal.loop-rest-preserved
loop-rest-preserved c =
    let b = c.args.boot.now in
    let k = c.loop-rest.kernel in
    let first = c.first_source_line.result.0.now in
    let behind = c.first_source_line.result.1.now in
    let less = c.first_source_line.ensures.less in
    let counted = c.in-Ok.ensures.counted in
    let one = at_most_one first in
    let few = c.loop-rest.invariant.labels in
    let lines = c.loop-rest.invariant.lines in
    record {
      verdict =
          c.loop-rest.invariant.verdict
          ∙ ap (judged_from (one_kernel b k) c.loop-rest.line k.labels) c.first_source_line.ensures.lines
          ∙ goes (one_kernel b k) (one_kernel b c.take_line.new.kernel) c.loop-rest.line k.labels first (source_lines behind) c.in-Ok.ensures.gives
          ∙ ap (λ n. judged_from (one_kernel b c.take_line.new.kernel) (c.loop-rest.line + 1) n (source_lines behind)) (sym counted);
      of = c.in-Ok.ensures.of;
      sound = c.in-Ok.ensures.sound;
      lines = omega (arith, lines, less);
      labels = omega (arith, few, less, counted, one);
    }

pub returns-in-Err-NoStep : goal.returns-in-Err-NoStep
returns-in-Err-NoStep c =
    let b = c.args.boot.now in
    let k = c.loop-rest.kernel in
    let first = c.first_source_line.result.0.now in
    let behind = c.first_source_line.result.1.now in
    sym (
    c.loop-rest.invariant.verdict
    ∙ ap (judged_from (one_kernel b k) c.loop-rest.line k.labels) c.first_source_line.ensures.lines
    ∙ falls (one_kernel b k) c.loop-rest.line k.labels first (source_lines behind) (rw c.in-Err-NoStep.field-0-is at c.in-Err-NoStep.ensures.gives)
    )

pub returns : goal.returns
returns c =
    let none : length c.loop-rest.rest.now ≡ 0 = grind (arith, nat_tests) in
    let k = c.loop-rest.kernel in
    ap Good c.labels.ensures ∙ sym (c.loop-rest.invariant.verdict ∙ all_judged (one_kernel c.args.boot.now k) c.loop-rest.line k.labels c.loop-rest.rest.now none)
