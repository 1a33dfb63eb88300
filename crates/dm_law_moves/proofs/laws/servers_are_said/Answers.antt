use Rattle.dm_law_moves.proofs.ServerLines.{servers_are_said}
use Rattle.dm_law_moves.proofs.laws.servers_are_said.Goals as goal

pub returns : goal.returns
returns c = servers_are_said
