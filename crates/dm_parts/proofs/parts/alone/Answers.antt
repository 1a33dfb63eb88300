use Rattle.std.proofs.Common.{◌∙◌, ◌-◌, ◌+◌, ◌++◌, ap, sym}
use Rattle.dm_parts.specs.Parts.{alone}
use Rattle.dm_parts.proofs.Loops.{alone-last, alone-more}
use Rattle.dm_parts.proofs.parts.alone.Goals as goal

pub loop-place-preserved : goal.loop-place-preserved
loop-place-preserved c =
    ap (λ xs. xs ++ alone (c.loop-place.place + 1) ((c.args.last + 1) - (c.loop-place.place + 1))) c.in_ok-push.ensures.items
    ∙ (alone-more c.loop-place.parts.items c.loop-place.place c.args.last c.loop-place-test.true ∙ c.loop-place.invariant)

pub returns : goal.returns
returns c =
    c.in_ok-push-2.ensures.items
    ∙ (sym (alone-last c.loop-place.parts.items c.loop-place.place c.args.last c.loop-place-test.false c.loop-place.auto.place-end) ∙ c.loop-place.invariant)
