-- The lemma.
use Rattle.dm_explain.proofs.FirstRefused.{first_is_told}
use Rattle.dm_explain.proofs.laws.the_first_line_that_is_refused_is_told.Goals as goal

pub returns : goal.returns
returns c = first_is_told
