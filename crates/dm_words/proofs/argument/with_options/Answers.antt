-- One option more is taken, and all behind the last.
use Rattle.dm_words.proofs.Shapes.{all_taken, one_taken}
use Rattle.dm_words.proofs.argument.with_options.Goals as goal

pub loop-option-preserved : goal.loop-option-preserved
loop-option-preserved c =
    one_taken c.args.name.now c.args.options.now c.loop-option.option-index _ c.loop-option.command c.in_ok-command.command c.argument.result c.loop-option-test.true c.argument.ensures c.loop-option.invariant c.in_ok-command.ensures

pub returns : goal.returns
returns c = all_taken c.args.name.now c.args.options.now c.loop-option.option-index c.loop-option.command c.loop-option-test.false c.loop-option.invariant
