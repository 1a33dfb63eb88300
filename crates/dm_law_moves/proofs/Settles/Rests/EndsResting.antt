-- Where all directives are done, the last of them a settle, all is at rest.
use Rattle.dm_law_moves.proofs.Names.{EndsResting}
use Rattle.dm_law_moves.proofs.At.Always.{at_rest_always}
use Rattle.dm_law_moves.proofs.Settles.Rests.EndsQuiet.{ends_quiet}

pub ends_resting : EndsResting
ends_resting b es ds gs end left valid leads run over settled = at_rest_always b es end valid leads (ends_quiet b es ds gs end left valid leads run over settled)
