use Rattle.dm_law_runs.proofs.Choices.Answering.{none_is_complete}
use Rattle.dm_law_runs.proofs.explore.none_is_complete.Goals as goal

pub returns : goal.returns
returns c = none_is_complete
