use Rattle.dm_law_one.proofs.Runs.{entered_once}
use Rattle.dm_law_one.proofs.laws.entered_once.Goals as goal

pub returns : goal.returns
returns c = entered_once
