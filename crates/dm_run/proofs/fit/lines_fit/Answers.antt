use Rattle.dm_run.proofs.Names.{◌≡◌, ◌<◌, ap, arith, length, take, subst, ◌∙◌, take-length, All, All-more, LineFits}
use Rattle.dm_run.proofs.fit.lines_fit.Goals as goal

pub loop-line-preserved : goal.loop-line-preserved
loop-line-preserved c =
    let h : c.loop-line.line-index < length c.args.lines.now = omega arith in
    All-more LineFits c.args.lines.now c.loop-line.line-index _ h c.loop-line.invariant c.line_fits.ensures

pub returns : goal.returns
returns c =
    let n : c.loop-line.line-index ≡ length c.args.lines.now = omega arith in
    let e : take c.loop-line.line-index c.args.lines.now ≡ c.args.lines.now = ap (λ k. take k c.args.lines.now) n ∙ take-length c.args.lines.now in
    subst (All LineFits) e c.loop-line.invariant
