use Rattle.dm_switchboard.proofs.Imports.{sym, ap, ◌∙◌, is_some, listed}
use Rattle.dm_switchboard.proofs.Entries.{look_up_listed}
use Rattle.dm_switchboard.proofs.Loops.{name_free, name_taken}
use Rattle.dm_switchboard.proofs.reading.name_behind_at.Goals as goal

pub returns-then-contains_key : goal.returns-then-contains_key
returns-then-contains_key c =
    let es = c.args.names.now.entries in
    let n = c.in_ok-name.name.items in
    name_taken (listed es) c.args.bytes.now c.in_ok-name.rest.now n c.in_ok-name.ensures (ap is_some (sym (look_up_listed n es)) ∙ sym c.contains_key.ensures ∙ c.if-contains_key.true)

pub returns : goal.returns
returns c =
    let es = c.args.names.now.entries in
    let n = c.in_ok-name.name.items in
    name_free (listed es) c.args.bytes.now c.in_ok-name.rest.now n c.in_ok-name.ensures (ap is_some (sym (look_up_listed n es)) ∙ sym c.contains_key.ensures ∙ c.if-contains_key.false)
