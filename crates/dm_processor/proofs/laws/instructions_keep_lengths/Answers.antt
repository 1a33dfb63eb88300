-- The lemma.
use Rattle.dm_processor.proofs.Lengths.{instruction-lengths}
use Rattle.dm_processor.proofs.laws.instructions_keep_lengths.Goals as goal

pub returns : goal.returns
returns c = instruction-lengths
