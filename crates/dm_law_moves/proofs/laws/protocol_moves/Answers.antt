use Rattle.dm_law_moves.proofs.ProtocolMoves.{protocol_moves}
use Rattle.dm_law_moves.proofs.laws.protocol_moves.Goals as goal

pub returns : goal.returns
returns c = protocol_moves
