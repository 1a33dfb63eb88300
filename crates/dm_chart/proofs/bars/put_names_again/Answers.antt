use Rattle.dm_chart.proofs.Names.{◌++◌, ap, sym, ◌∙◌, name_again}
use Rattle.dm_chart.proofs.Pieces.{below-more, below-none}
use Rattle.dm_chart.proofs.bars.put_names_again.Goals as goal

pub loop-block-init : goal.loop-block-init
loop-block-init c = sym (below-none (name_again c.args.x c.args.pid c.args.row c.args.last) c.args.into.now.items)

pub loop-block-preserved : goal.loop-block-preserved
loop-block-preserved c =
    c.in_ok-put_name_again.ensures
    ∙ (ap (λ t. t ++ name_again c.args.x c.args.pid c.args.row c.args.last c.loop-block.block) c.loop-block.invariant ∙ below-more (name_again c.args.x c.args.pid c.args.row c.args.last) c.args.into.now.items c.loop-block.block)
