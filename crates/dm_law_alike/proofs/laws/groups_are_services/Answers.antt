use Rattle.dm_law_alike.proofs.Grouped.{groups_are_services}
use Rattle.dm_law_alike.proofs.laws.groups_are_services.Goals as goal

pub returns : goal.returns
returns c = groups_are_services
