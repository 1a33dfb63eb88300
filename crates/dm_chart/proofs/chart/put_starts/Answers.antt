use Rattle.dm_chart.proofs.Names.{sym, ◌∙◌, first_bar}
use Rattle.dm_chart.proofs.Walks.{start-more}
use Rattle.dm_chart.proofs.chart.put_starts.Goals as goal

pub loop-start-preserved : goal.loop-start-preserved
loop-start-preserved c =
    sym
    (start-more c.args.frame.now _ _ (first_bar c.args.frame.now.rows c.args.frame.now.hidden c.args.lines.now) c.args.starts.now c.loop-start.start-index _ c.loop-start-test.true
    (rw c.first_spot.ensures at c.in_ok-put_living.ensures))
    ∙ c.loop-start.invariant
