-- Wherever the rule leads, where nothing is on its way between machines all is at rest.
use Rattle.dm_law_moves.proofs.Names.{AtRestAlways}
use Rattle.dm_law_moves.proofs.At.RestAlways.{at_rest, at_rest_by}
use Rattle.dm_law_moves.proofs.Preds.Forgotten.{forgotten_at}

pub at_rest_always : AtRestAlways
at_rest_always b es pt valid leads quiet =
    let rest = at_rest b es pt valid leads quiet in
    at_rest_by b es pt valid leads rest (forgotten_at b es pt valid leads rest.calm.inbox rest.calm.untaken rest.still)
