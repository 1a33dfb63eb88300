use Rattle.dm_program.proofs.DrillsChecked.{drills_may_start}
use Rattle.dm_program.proofs.laws.drills_may_start.Goals as goal

pub returns : goal.returns
returns c = drills_may_start
