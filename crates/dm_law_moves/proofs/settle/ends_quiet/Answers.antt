use Rattle.dm_law_moves.proofs.Settles.Rests.EndsQuiet.{ends_quiet}
use Rattle.dm_law_moves.proofs.settle.ends_quiet.Goals as goal

pub returns : goal.returns
returns c = ends_quiet
