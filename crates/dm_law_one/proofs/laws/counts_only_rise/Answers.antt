use Rattle.dm_law_one.proofs.Runs.{counts_only_rise}
use Rattle.dm_law_one.proofs.laws.counts_only_rise.Goals as goal

pub returns : goal.returns
returns c = counts_only_rise
