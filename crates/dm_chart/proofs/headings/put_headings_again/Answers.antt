use Rattle.dm_chart.proofs.Names.{◌++◌, ap, sym, ◌∙◌, heading_again}
use Rattle.dm_chart.proofs.Pieces.{below-more, below-none}
use Rattle.dm_chart.proofs.headings.put_headings_again.Goals as goal

pub loop-block-init : goal.loop-block-init
loop-block-init c = sym (below-none (heading_again c.args.frame.now c.args.m) c.args.into.now.items)

pub loop-block-preserved : goal.loop-block-preserved
loop-block-preserved c =
    c.in_ok-put_heading_again.ensures
    ∙ (ap (λ t. t ++ heading_again c.args.frame.now c.args.m c.loop-block.block) c.loop-block.invariant ∙ below-more (heading_again c.args.frame.now c.args.m) c.args.into.now.items c.loop-block.block)
