-- No lines are left.
use Rattle.dm_asm.proofs.Names.{◌≡◌, ◌∙◌, sym, length, arith, nat_tests, source_lines}
use Rattle.dm_reading.proofs.LineCuts.{source_lines-none}
use Rattle.dm_asm.proofs.Labelled.{label-none}
use Rattle.dm_asm.proofs.one_label.place_of.Goals as goal

pub returns : goal.returns
returns c =
    let none : length c.loop-rest.rest.now ≡ 0 = grind (arith, nat_tests) in
    sym (label-none c.loop-rest.place.line c.loop-rest.place.address (source_lines c.loop-rest.rest.now) c.args.name.now (source_lines-none c.loop-rest.rest.now none))
    ∙ c.loop-rest.invariant.same
