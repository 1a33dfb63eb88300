-- The lemma.
use Rattle.dm_processor.proofs.Ranges.{instruction-ranges}
use Rattle.dm_processor.proofs.laws.instructions_keep_ranges.Goals as goal

pub returns : goal.returns
returns c = instruction-ranges
