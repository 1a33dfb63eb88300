use Rattle.dm_explain.proofs.Names.{◌≡◌, ◌<◌, false, length, rules, sym, ◌∙◌}
use Rattle.dm_boot.proofs.Imports.{arith, nat_tests}
use Rattle.dm_explain.proofs.TextPlaces.{before-later}
use Rattle.dm_explain.proofs.program.place.line_before.Goals as goal

pub loop-rest-preserved : goal.loop-rest-preserved
loop-rest-preserved c =
    let some : 0 < length c.loop-rest.rest.now = grind (arith, nat_tests) in
    let fails : c.opens.result ≡ false = search rules in
    record {
      same = before-later c.args.text.now c.loop-rest.line c.next_line-line.result c.loop-rest.rest.now c.behind_first-rest.result.now some (sym c.opens.ensures ∙ fails) c.next_line-line.ensures.value c.behind_first-rest.ensures.value ∙ c.loop-rest.invariant.same;
      few = grind (arith, nat_tests);
    }
