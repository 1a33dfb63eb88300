use Rattle.dm_chart.proofs.Names.{◌≡◌, ◌++◌, OnOk, sym, subst, draw_note, Note}
use Rattle.dm_chart.proofs.Calls.{call_is_refused}
use Rattle.dm_chart.proofs.notes.put_call.Goals as goal

pub returns : goal.returns
returns c =
    subst (λ (x : Note). OnOk c.put_beside.result (c.put_beside.new.into.items ≡ c.args.into.now.items ++ draw_note c.args.place.now.frame.now c.args.place.now.m c.args.place.now.row x))
    (sym (call_is_refused c.args.pid c.args.number c.args.code c.if-code-eq0.false)) c.put_beside.ensures
