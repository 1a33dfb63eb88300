use Rattle.dm_law_runs.proofs.Letters.Order.{letters_are_one}
use Rattle.dm_law_runs.proofs.look.letters_are_one.Goals as goal

pub returns : goal.returns
returns c = letters_are_one
