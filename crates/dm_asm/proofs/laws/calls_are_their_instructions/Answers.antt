-- The lemma.
use Rattle.dm_asm.proofs.Expanding.{expanded_so}
use Rattle.dm_asm.proofs.laws.calls_are_their_instructions.Goals as goal

pub returns : goal.returns
returns c = expanded_so
