use Rattle.dm_program.proofs.DrillsChecked.{drills_check}
use Rattle.dm_program.proofs.laws.drills_check.Goals as goal

pub returns : goal.returns
returns c = drills_check
