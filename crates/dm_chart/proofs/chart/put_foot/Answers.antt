use Rattle.dm_chart.proofs.Names.{◌≡◌, List, ℕ, OnOk, subst, foot}
use Rattle.dm_chart.proofs.Pieces.{three-pieces}
use Rattle.dm_chart.proofs.chart.put_foot.Goals as goal

pub returns : goal.returns
unfolding foot
returns c =
    subst (λ (t : List ℕ). OnOk c.put_reach.result (c.put_reach.new.into.items ≡ t))
    (three-pieces c.args.into.now.items _ _ _ _ _ c.in_ok-put_foot_line.ensures c.in_ok-put_foot_line-2.ensures) c.put_reach.ensures
