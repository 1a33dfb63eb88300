use Rattle.dm_run.proofs.Names.{◌≡◌, ◌<◌, ap, arith, length, take, subst, sym, ◌∙◌, take-length, All, All-more, EndFits, HidesNothing}
use Rattle.dm_run.proofs.fit.ends_fit.Goals as goal

pub loop-end-preserved : goal.loop-end-preserved
loop-end-preserved c = λ hides.
    let h : c.loop-end.end-index < length c.args.ends.now = omega arith in
    let fits : EndFits c.end-item.result = c.end_fits.ensures (subst HidesNothing (sym c.end-item.is) (hides c.loop-end.end-index c.end-item.result h)) in
    All-more EndFits c.args.ends.now c.loop-end.end-index c.end-item.result h (c.loop-end.invariant hides) (subst EndFits c.end-item.is fits)

pub returns : goal.returns
returns c = λ hides.
    let n : c.loop-end.end-index ≡ length c.args.ends.now = omega arith in
    let e : take c.loop-end.end-index c.args.ends.now ≡ c.args.ends.now = ap (λ k. take k c.args.ends.now) n ∙ take-length c.args.ends.now in
    subst (All EndFits) e (c.loop-end.invariant hides)
