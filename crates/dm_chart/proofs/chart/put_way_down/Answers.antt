use Rattle.dm_chart.proofs.Names.{◌≡◌, ◌++◌, List, ℕ, OnOk, subst}
use Rattle.dm_chart.proofs.Pieces.{way-opened}
use Rattle.dm_chart.proofs.chart.put_way_down.Goals as goal

pub returns : goal.returns
returns c =
    subst (λ (t : List ℕ). OnOk c.put_words.result (c.put_words.new.into.items ≡ c.args.into.now.items ++ t)) (way-opened c.args.room) c.put_words.ensures
