-- One command more is taken in, and all behind the last.
use Rattle.dm_words.proofs.Names.{ap, map, App, form_shape, with_shapes}
use Rattle.dm_words.proofs.Shapes.{all_added, one_added}
use Rattle.dm_words.proofs.words.with_commands.Goals as goal

pub loop-command-init : goal.loop-command-init
loop-command-init c = ap (λ (a : App). with_shapes a (map form_shape c.args.commands.now)) c.bare-line.ensures

pub loop-command-preserved : goal.loop-command-preserved
loop-command-preserved c =
    one_added _ c.args.commands.now c.loop-command.command-index _ c.loop-command.line c.in_ok-line.line c.loop-command-test.true c.in_ok-line.ensures c.loop-command.invariant

pub returns : goal.returns
returns c = all_added _ c.args.commands.now c.loop-command.command-index c.loop-command.line c.loop-command-test.false c.loop-command.invariant
