use Rattle.dm_law_moves.proofs.Settles.Falls.TurnsFall.{turns_fall}
use Rattle.dm_law_moves.proofs.settle.turns_fall.Goals as goal

pub returns : goal.returns
returns c = turns_fall
