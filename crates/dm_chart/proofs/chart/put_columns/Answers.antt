use Rattle.dm_chart.proofs.Names.{◌++◌, sym, ap, ◌∙◌, drawn_shape, Column}
use Rattle.dm_chart.proofs.Walks.{column-none, column-more}
use Rattle.dm_chart.proofs.chart.put_columns.Goals as goal

pub loop-m-init : goal.loop-m-init
loop-m-init c = sym (column-none c.args.frame.now c.args.into.now.items)

pub loop-m-preserved : goal.loop-m-preserved
loop-m-preserved c =
    column-more c.args.frame.now _ _ c.loop-m.m (c.in_ok-put_column.ensures ∙ ap (λ t. t ++ drawn_shape c.args.frame.now (Column c.loop-m.m)) c.loop-m.invariant)
