-- The lemma.
use Rattle.dm_kernel.proofs.LawfulTurns.{called_off_lawful}
use Rattle.dm_kernel.proofs.law.calls_off_lawfully.Goals as goal

pub returns : goal.returns
returns c = called_off_lawful
