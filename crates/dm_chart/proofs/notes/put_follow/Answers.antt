use Rattle.dm_chart.proofs.Names.{◌≡◌, ◌++◌, OnOk, sym, subst, Option, draw_note, follow_note, News}
use Rattle.dm_chart.proofs.notes.put_follow.Goals as goal

pub returns-in-None : goal.returns-in-None
returns-in-None c =
    subst (λ (n : Option News). OnOk c.put_beside.result (c.put_beside.new.into.items ≡ c.args.into.now.items ++ draw_note c.args.place.now.frame.now c.args.place.now.m c.args.place.now.row (follow_note c.args.id c.args.count n))) (sym c.in-None.is) c.put_beside.ensures

pub returns-in-Some : goal.returns-in-Some
returns-in-Some c =
    subst (λ (n : Option News). OnOk c.put_beside-in-Some.result (c.put_beside-in-Some.new.into.items ≡ c.args.into.now.items ++ draw_note c.args.place.now.frame.now c.args.place.now.m c.args.place.now.row (follow_note c.args.id c.args.count n))) (sym c.in-Some.is) c.put_beside-in-Some.ensures
