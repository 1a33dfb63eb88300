use Rattle.dm_chart.proofs.Names.{ap, sym, ◌∙◌, is_wanted}
use Rattle.dm_chart.proofs.Walks.{ahead-here, ahead-more}
use Rattle.dm_chart.proofs.scan.first_ahead.Goals as goal

pub returns-then-is_wanted : goal.returns-then-is_wanted
returns-then-is_wanted c =
    sym (ahead-here (is_wanted c.args.wanted) _ _ _ _ _ c.loop-line-test.true c.next_spot-spot.ensures.spot (sym (c.is_wanted.ensures ∙ ap (is_wanted c.args.wanted) c.role_of.ensures) ∙ c.if-is_wanted.true))
    ∙ c.loop-line.invariant

pub loop-line-preserved : goal.loop-line-preserved
loop-line-preserved c =
    sym (ahead-more (is_wanted c.args.wanted) _ _ _ _ _ c.loop-line-test.true c.next_spot-spot.ensures.spot (sym (c.is_wanted.ensures ∙ ap (is_wanted c.args.wanted) c.role_of.ensures) ∙ c.if-is_wanted.false))
    ∙ c.loop-line.invariant
