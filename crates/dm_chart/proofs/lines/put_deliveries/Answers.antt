use Rattle.dm_chart.proofs.Names.{sym, ◌∙◌}
use Rattle.dm_chart.proofs.Walks.{deliveries-end, deliveries-more}
use Rattle.dm_chart.proofs.lines.put_deliveries.Goals as goal

pub loop-line-preserved : goal.loop-line-preserved
loop-line-preserved c =
    sym (deliveries-more c.args.frame.now _ _ _ _ _ _ _ _ _ _ _ _ _ _ _ c.loop-line-test.true c.next_spot-spot.ensures.spot c.role_of-role.ensures c.in_ok-put_fate.ensures c.is_delivery-due.ensures)
    ∙ c.loop-line.invariant

pub returns : goal.returns
returns c = sym (deliveries-end c.args.frame.now _ _ _ _ _ _ _ _ _ _ c.loop-line-test.false) ∙ c.loop-line.invariant
