use Rattle.dm_law_runs.proofs.Choices.OneIsTried.{one_is_tried}
use Rattle.dm_law_runs.proofs.explore.one_is_tried.Goals as goal

pub returns : goal.returns
returns c = one_is_tried
