use Rattle.dm_law_moves.proofs.Forwards.Links.{counts_promise}
use Rattle.dm_law_moves.proofs.laws.counts_promise.Goals as goal

pub returns : goal.returns
returns c = counts_promise
