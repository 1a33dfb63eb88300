use Rattle.dm_program.proofs.RunsChecked.{worn_runs_check}
use Rattle.dm_program.proofs.laws.worn_runs_check.Goals as goal

pub returns : goal.returns
returns c = worn_runs_check
