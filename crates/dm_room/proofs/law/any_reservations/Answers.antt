use Rattle.dm_room.proofs.HeldLemmas.{exact}
use Rattle.dm_room.proofs.law.any_reservations.Goals as goal

pub returns : goal.returns
returns c = exact
