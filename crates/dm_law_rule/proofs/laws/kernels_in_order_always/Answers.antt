use Rattle.dm_law_rule.proofs.Phases.Always.{kernels_in_order_always}
use Rattle.dm_law_rule.proofs.laws.kernels_in_order_always.Goals as goal

pub returns : goal.returns
returns c = kernels_in_order_always
