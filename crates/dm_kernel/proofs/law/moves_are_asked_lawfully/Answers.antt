-- The lemma.
use Rattle.dm_kernel.proofs.LawfulTurns.{asked_lawful}
use Rattle.dm_kernel.proofs.law.moves_are_asked_lawfully.Goals as goal

pub returns : goal.returns
returns c = asked_lawful
