-- A line that is bad, a line that says something or nothing, or no line more.
use Rattle.dm_schedule.proofs.Names.{◌≡◌, ◌+◌, ◌∙◌, ap, sym, length, arith, nat_tests, lines, lines_from}
use Rattle.dm_reading.proofs.LineCuts.{lines-none}
use Rattle.dm_schedule.proofs.Following.{before, ends, goes_on, stops}
use Rattle.dm_schedule.proofs.read_schedule.Goals as goal

pub returns-in-Err-clause-refused : goal.returns-in-Err-clause-refused
returns-in-Err-clause-refused c =
    sym c.loop-rest.invariant.all
    ∙ ap (λ ls. before c.loop-rest.directives.items (lines_from c.args.machines c.loop-rest.number ls)) c.first_line.ensures.lines
    ∙ stops c.args.machines c.loop-rest.number c.loop-rest.directives.items c.first_line.result.0.now (lines c.first_line.result.1.now) c.in-Err.fault (sym c.in-Err.ensures)

pub loop-rest-preserved : goal.loop-rest-preserved
loop-rest-preserved c = record {
  few = omega arith;
  all =
      ap (λ ds. before ds (lines_from c.args.machines (c.loop-rest.number + 1) (lines c.first_line.result.1.now))) c.in_ok-add-in-Ok.ensures
      ∙ sym (goes_on c.args.machines c.loop-rest.number c.loop-rest.directives.items c.first_line.result.0.now (lines c.first_line.result.1.now) c.in-Ok.found (sym c.in-Ok.ensures))
      ∙ ap (λ ls. before c.loop-rest.directives.items (lines_from c.args.machines c.loop-rest.number ls)) (sym c.first_line.ensures.lines)
      ∙ c.loop-rest.invariant.all;
}

pub returns-clause-ok : goal.returns-clause-ok
returns-clause-ok c =
    let none : length c.loop-rest.rest.now ≡ 0 = grind (arith, nat_tests) in
    sym c.loop-rest.invariant.all
    ∙ ap (λ ls. before c.loop-rest.directives.items (lines_from c.args.machines c.loop-rest.number ls)) (lines-none c.loop-rest.rest.now none)
    ∙ ends c.args.machines c.loop-rest.number c.loop-rest.directives.items
