use Rattle.dm_chart.proofs.Names.{◌≡◌, [], ◌∷◌, ◌++◌, OnOk, codes, ℕ, sym, subst, ◌∙◌, decimal, Label, pid_word, draw_beside, draw_note, label_note}
use Rattle.dm_chart.proofs.notes.put_label_note.Goals as goal

pub returns-in-End : goal.returns-in-End
returns-in-End c =
    subst (λ (l : Label). OnOk c.note_said-in-End.result (c.note_said-in-End.new.into.items ≡ c.args.into.now.items ++ draw_note c.args.place.now.frame.now c.args.place.now.m c.args.place.now.row (label_note l))) (sym c.in-End.is)
    (subst (λ (n : ℕ). OnOk c.note_said-in-End.result (c.note_said-in-End.new.into.items ≡ c.args.into.now.items ++ draw_beside c.args.place.now.frame.now c.args.place.now.m c.args.place.now.row (codes "c1") (pid_word c.in-End.pid ∷ codes " ends, why " ∷ decimal n ∷ [])))
    (c.from.ensures ∙ c.code-in-End.ensures) c.note_said-in-End.ensures)

pub returns-in-Gone : goal.returns-in-Gone
returns-in-Gone c =
    subst (λ (l : Label). OnOk c.note_message-in-Gone.result (c.note_message-in-Gone.new.into.items ≡ c.args.into.now.items ++ draw_note c.args.place.now.frame.now c.args.place.now.m c.args.place.now.row (label_note l))) (sym c.in-Gone.is) c.note_message-in-Gone.ensures

pub returns-in-Wait : goal.returns-in-Wait
returns-in-Wait c =
    subst (λ (l : Label). OnOk c.put_beside.result (c.put_beside.new.into.items ≡ c.args.into.now.items ++ draw_note c.args.place.now.frame.now c.args.place.now.m c.args.place.now.row (label_note l))) (sym c.in-Wait.is) c.put_beside.ensures
