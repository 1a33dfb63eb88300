use Rattle.dm_law_mirror.proofs.QuietSaid.{mail_is_said}
use Rattle.dm_law_mirror.proofs.laws.mail_is_said.Goals as goal

pub returns : goal.returns
returns c = mail_is_said
