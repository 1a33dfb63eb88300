use Rattle.dm_law_mirror.proofs.Leading.{good_leads}
use Rattle.dm_law_mirror.proofs.laws.good_leads.Goals as goal

pub returns : goal.returns
returns c = good_leads
