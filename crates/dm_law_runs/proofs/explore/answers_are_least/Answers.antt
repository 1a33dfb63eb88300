use Rattle.dm_law_runs.proofs.Choices.Answering.{answers_are_least}
use Rattle.dm_law_runs.proofs.explore.answers_are_least.Goals as goal

pub returns : goal.returns
returns c = answers_are_least
