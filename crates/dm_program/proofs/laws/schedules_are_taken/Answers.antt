use Rattle.dm_program.proofs.OwnDrilled.{schedules_are_taken}
use Rattle.dm_program.proofs.laws.schedules_are_taken.Goals as goal

pub returns : goal.returns
returns c = schedules_are_taken
