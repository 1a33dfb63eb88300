-- No lines are left.
use Rattle.dm_asm.proofs.Names.{◌≡◌, ◌∙◌, ap, sym, length, arith, nat_tests, with_lines, place_in}
use Rattle.dm_reading.proofs.LineCuts.{source_lines-none}
use Rattle.dm_asm.proofs.assembler.all_lines.Goals as goal

pub returns-clause-exact : goal.returns-clause-exact
returns-clause-exact c =
    let none : length c.loop-rest.rest.now ≡ 0 = grind (arith, nat_tests) in
    sym c.loop-rest.invariant.all
    ∙ ap (λ ls. with_lines (place_in c.args.labels.now) c.loop-rest.number c.loop-rest.image.items ls) (source_lines-none c.loop-rest.rest.now none)
