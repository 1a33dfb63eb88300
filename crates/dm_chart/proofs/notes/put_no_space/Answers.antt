use Rattle.dm_chart.proofs.Names.{◌≡◌, [], ◌∷◌, ◌++◌, OnOk, codes, ℕ, subst, decimal, draw_beside, id_word}
use Rattle.dm_chart.proofs.notes.put_no_space.Goals as goal

pub returns : goal.returns
returns c =
    subst (λ (n : ℕ). OnOk c.put_beside.result (c.put_beside.new.into.items ≡ c.args.into.now.items ++ draw_beside c.args.place.now.frame.now c.args.place.now.m c.args.place.now.row (codes "c1") (codes "no room, for " ∷ id_word c.args.id ∷ codes ": slots " ∷ decimal c.args.slots ∷ codes ", blocks " ∷ decimal n ∷ [])))
    c.from.ensures c.put_beside.ensures
