use Rattle.dm_program.proofs.OwnDrilled.{own_drills_check}
use Rattle.dm_program.proofs.laws.own_drills_check.Goals as goal

pub returns : goal.returns
returns c = own_drills_check
