use Rattle.dm_program.proofs.OwnDrilled.{own_drills_are_for}
use Rattle.dm_program.proofs.laws.own_drills_are_for.Goals as goal

pub returns : goal.returns
returns c = own_drills_are_for
