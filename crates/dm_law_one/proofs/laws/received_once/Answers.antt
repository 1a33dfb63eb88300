use Rattle.dm_law_one.proofs.Runs.{received_once}
use Rattle.dm_law_one.proofs.laws.received_once.Goals as goal

pub returns : goal.returns
returns c = received_once
