use Rattle.dm_law_runs.proofs.Choices.Tried.{beginnings_are_tried}
use Rattle.dm_law_runs.proofs.explore.beginnings_are_tried.Goals as goal

pub returns : goal.returns
returns c = beginnings_are_tried
