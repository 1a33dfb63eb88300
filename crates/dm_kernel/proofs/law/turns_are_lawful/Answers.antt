-- The lemma.
use Rattle.dm_kernel.proofs.LawfulTurns.{turn_lawful}
use Rattle.dm_kernel.proofs.law.turns_are_lawful.Goals as goal

pub returns : goal.returns
returns c = turn_lawful
