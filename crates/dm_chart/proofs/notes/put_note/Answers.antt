use Rattle.dm_chart.proofs.Names.{◌≡◌, ◌++◌, OnOk, sym, subst, Line, draw_note, note_of}
use Rattle.dm_chart.proofs.notes.put_note.Goals as goal

pub returns-in-Old : goal.returns-in-Old
returns-in-Old c =
    subst (λ (l : Line). OnOk c.note_packet.result (c.note_packet.new.into.items ≡ c.args.into.now.items ++ draw_note c.args.place.now.frame.now c.args.place.now.m c.args.place.now.row (note_of c.args.before.now l))) (sym c.in-Old.is) c.note_packet.ensures

pub returns-in-Early : goal.returns-in-Early
returns-in-Early c =
    subst (λ (l : Line). OnOk c.note_packet-in-Early.result (c.note_packet-in-Early.new.into.items ≡ c.args.into.now.items ++ draw_note c.args.place.now.frame.now c.args.place.now.m c.args.place.now.row (note_of c.args.before.now l))) (sym c.in-Early.is) c.note_packet-in-Early.ensures

pub returns-in-Buried : goal.returns-in-Buried
returns-in-Buried c =
    subst (λ (l : Line). OnOk c.note_number.result (c.note_number.new.into.items ≡ c.args.into.now.items ++ draw_note c.args.place.now.frame.now c.args.place.now.m c.args.place.now.row (note_of c.args.before.now l))) (sym c.in-Buried.is) c.note_number.ensures

pub returns-in-Here : goal.returns-in-Here
returns-in-Here c =
    subst (λ (l : Line). OnOk c.note_message-in-Here.result (c.note_message-in-Here.new.into.items ≡ c.args.into.now.items ++ draw_note c.args.place.now.frame.now c.args.place.now.m c.args.place.now.row (note_of c.args.before.now l))) (sym c.in-Here.is) c.note_message-in-Here.ensures

pub returns-in-NoChild : goal.returns-in-NoChild
returns-in-NoChild c =
    subst (λ (l : Line). OnOk c.note_process-in-NoChild.result (c.note_process-in-NoChild.new.into.items ≡ c.args.into.now.items ++ draw_note c.args.place.now.frame.now c.args.place.now.m c.args.place.now.row (note_of c.args.before.now l))) (sym c.in-NoChild.is) c.note_process-in-NoChild.ensures

pub returns-in-NoCall : goal.returns-in-NoCall
returns-in-NoCall c =
    subst (λ (l : Line). OnOk c.note_process-in-NoCall.result (c.note_process-in-NoCall.new.into.items ≡ c.args.into.now.items ++ draw_note c.args.place.now.frame.now c.args.place.now.m c.args.place.now.row (note_of c.args.before.now l))) (sym c.in-NoCall.is) c.note_process-in-NoCall.ensures

pub returns-in-Away : goal.returns-in-Away
returns-in-Away c =
    subst (λ (l : Line). OnOk c.put_beside.result (c.put_beside.new.into.items ≡ c.args.into.now.items ++ draw_note c.args.place.now.frame.now c.args.place.now.m c.args.place.now.row (note_of c.args.before.now l))) (sym c.in-Away.is) c.put_beside.ensures

pub returns-in-Stale : goal.returns-in-Stale
returns-in-Stale c =
    subst (λ (l : Line). OnOk c.note_message-in-Stale.result (c.note_message-in-Stale.new.into.items ≡ c.args.into.now.items ++ draw_note c.args.place.now.frame.now c.args.place.now.m c.args.place.now.row (note_of c.args.before.now l))) (sym c.in-Stale.is) c.note_message-in-Stale.ensures
