use Rattle.dm_drill.proofs.Back.{schedules_are_read}
use Rattle.dm_drill.proofs.schedule.schedules_are_read.Goals as goal

pub returns : goal.returns
returns c = schedules_are_read
