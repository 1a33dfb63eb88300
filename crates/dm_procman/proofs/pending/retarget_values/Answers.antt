use Rattle.std.proofs.lemmas.Map.Made.{map_same_pairs}
use Rattle.dm_procman.proofs.Names.{retargeted_pending, rules}
use Rattle.dm_procman.proofs.pending.retarget_values.Goals as goal

pub returns : goal.returns
returns c =
    map_same_pairs _ (retargeted_pending c.args.about c.args.at c.args.moves) _ (λ k v b w f' t. search rules) c.args.ascending.now.entries c.retain.new.self.entries c.retain.ensures.filtered
