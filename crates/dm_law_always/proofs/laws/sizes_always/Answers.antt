use Rattle.dm_law_always.proofs.Sizes.Always.{sizes_always}
use Rattle.dm_law_always.proofs.laws.sizes_always.Goals as goal

pub returns : goal.returns
returns c = sizes_always
