-- The lemma.
use Rattle.dm_asm.proofs.Stands.{stands_behind}
use Rattle.dm_asm.proofs.laws.labels_stand_behind_the_lines_before.Goals as goal

pub returns : goal.returns
returns c = stands_behind
