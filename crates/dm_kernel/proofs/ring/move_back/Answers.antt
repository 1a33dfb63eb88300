-- Those that are kept are all others, and it goes behind them.
use Rattle.dm_kernel.proofs.Names.{rules, filter_same}
use Rattle.dm_kernel.proofs.Ringing.{is_moved_back}
use Rattle.dm_kernel.proofs.ring.move_back.Goals as goal

pub returns : goal.returns
returns c =
    λ p at.
    let all = c.retain_then.ensures p at in
    is_moved_back c.args.ring.now c.retain_then.new.self all.0 c.args.place p c.at.result.now at c.at.ensures (filter_same _ _ _ (λ x b f' k. search rules) _ _ all.1) all.2
