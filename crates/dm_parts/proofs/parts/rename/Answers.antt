use Rattle.std.proofs.Common.{◌≡◌, ◌∙◌, ap, arith, get_or, length, set}
use Rattle.dm_parts.specs.Parts.{renamed}
use Rattle.dm_parts.proofs.Loops.{first_changed, set_changed, all_changed}
use Rattle.dm_parts.proofs.parts.rename.Goals as goal

pub loop-number-preserved : goal.loop-number-preserved
loop-number-preserved c =
    let f = renamed c.args.from c.args.to in
    ap (λ v. set c.loop-number.parts c.loop-number.number-index v) c.renamed.ensures
    ∙ ap (λ xs. set xs c.loop-number.number-index (f (get_or xs c.loop-number.number-index 0))) c.loop-number.invariant
    ∙ set_changed f c.loop-number.number-index c.args.parts.now 0 c.loop-number-test.true

pub returns : goal.returns
returns c =
    let end : c.loop-number.number-index ≡ length c.args.parts.now = omega (arith, c.loop-number.auto.number-index-end, c.loop-number-test.false) in
    c.loop-number.invariant ∙ ap (λ n. first_changed (renamed c.args.from c.args.to) n c.args.parts.now) end ∙ all_changed (renamed c.args.from c.args.to) c.args.parts.now
