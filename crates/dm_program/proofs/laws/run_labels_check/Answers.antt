use Rattle.dm_program.proofs.LabelsChecked.{run_labels_check}
use Rattle.dm_program.proofs.laws.run_labels_check.Goals as goal

pub returns : goal.returns
returns c = run_labels_check
