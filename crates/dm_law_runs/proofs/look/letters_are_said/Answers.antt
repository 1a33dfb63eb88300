use Rattle.dm_law_runs.proofs.Letters.Said.{letters_are_said}
use Rattle.dm_law_runs.proofs.look.letters_are_said.Goals as goal

pub returns : goal.returns
returns c = letters_are_said
