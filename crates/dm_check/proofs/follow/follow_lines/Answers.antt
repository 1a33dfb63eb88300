use Rattle.dm_check.proofs.Names.{◌<◌, ◌+◌, ℕ, length, drop, refl, arith, pieces, GroupStrays, StrayedSo, behind_line, judged_from}
use Rattle.dm_check.proofs.Following.{line_off, line_on, read_more, read_none, shorter}
use Rattle.dm_check.proofs.Judging.{if_err}
use Rattle.dm_check.proofs.Straying.{stray_behind}
use Rattle.dm_check.proofs.follow.follow_lines.Goals as goal

pub lines-init : goal.lines-init
lines-init c = record { goes = λ k es. refl; read = read_none c.args.lines.now c.args.text.now; number = omega arith; room = omega arith }

pub returns-in_err-rest-clause-refused : goal.returns-in_err-rest-clause-refused
returns-in_err-rest-clause-refused c = λ k es q.
    let lines = c.args.lines.now in
    let i : ℕ = c.lines.due-index in
    if_err c.from_residual.result c.in_err-rest.field-0.0 (StrayedSo (judged_from k (behind_line lines es) c.args.number (pieces 10 c.args.text.now))) c.from_residual.ensures
    (line_off k lines i _ es c.args.number c.lines.at c.args.text.now c.lines.rest.now c.in_err-rest.field-0.0 c.lines-test.true (c.lines.invariant.goes k es)
    (c.in_err-rest.ensures.refused k (drop (i + 1) lines) es q))

pub returns-in_err-rest-clause-stray : goal.returns-in_err-rest-clause-stray
returns-in_err-rest-clause-stray c =
    if_err c.from_residual.result c.in_err-rest.field-0.0 (GroupStrays c.args.quantum c.args.lines.now c.args.text.now c.args.number) c.from_residual.ensures
    (stray_behind c.args.quantum c.args.lines.now c.lines.due-index c.args.number c.lines.at _ c.args.text.now c.lines.rest.now c.in_err-rest.field-0.0 c.lines-test.true c.lines.invariant.number c.lines.invariant.read c.in_err-rest.ensures.stray)

pub lines-preserved : goal.lines-preserved
lines-preserved c =
    let lines = c.args.lines.now in
    let i : ℕ = c.lines.due-index in
    let less : length c.in_ok-rest.rest.now < length c.lines.rest.now = shorter _ c.lines.rest.now c.in_ok-rest.rest.now c.in_ok-rest.ensures.read in
    record {
      goes = λ k es.
          line_on k lines i _ es c.args.number c.lines.at c.args.text.now c.lines.rest.now c.in_ok-rest.rest.now c.lines-test.true (c.lines.invariant.goes k es)
          (c.in_ok-rest.ensures.goes k (drop (i + 1) lines) es (c.requires.fits i _ c.lines-test.true));
      read = read_more lines i _ c.args.text.now c.lines.rest.now c.in_ok-rest.rest.now c.lines-test.true c.lines.invariant.read c.in_ok-rest.ensures.read;
      number = omega (arith, c.lines.invariant.number);
      room = omega (arith, c.lines.invariant.room, less);
    }
