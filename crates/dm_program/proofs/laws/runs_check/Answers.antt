use Rattle.dm_program.proofs.RunsChecked.{runs_check}
use Rattle.dm_program.proofs.laws.runs_check.Goals as goal

pub returns : goal.returns
returns c = runs_check
