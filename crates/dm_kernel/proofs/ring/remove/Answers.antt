use Rattle.dm_kernel.proofs.Names.{rules, filter_same}
use Rattle.dm_kernel.proofs.ring.remove.Goals as goal

pub returns : goal.returns
returns c = filter_same _ _ _ (λ x b f' k. search rules) _ _ c.retain.ensures
