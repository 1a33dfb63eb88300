use Rattle.dm_law_moves.proofs.Trail.Standing.{addresses_lead}
use Rattle.dm_law_moves.proofs.laws.addresses_lead.Goals as goal

pub returns : goal.returns
returns c = addresses_lead
