use Rattle.dm_law_mirror.proofs.QuietSaid.{quiet_is_said}
use Rattle.dm_law_mirror.proofs.laws.quiet_is_said.Goals as goal

pub returns : goal.returns
returns c = quiet_is_said
