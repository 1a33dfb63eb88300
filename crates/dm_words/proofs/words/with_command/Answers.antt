use Rattle.dm_words.proofs.Names.{IfOk-weaker}
use Rattle.dm_words.proofs.words.with_command.Goals as goal

pub returns : goal.returns
returns c = IfOk-weaker c.with_subcommand.result _ _ (λ r adds. c.in_ok-made.ensures c.args.line r adds) c.with_subcommand.ensures
