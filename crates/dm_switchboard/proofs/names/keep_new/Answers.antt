use Rattle.dm_switchboard.proofs.Imports.{ap, ◌∙◌, insert_entry-new, listed}
use Rattle.dm_switchboard.proofs.Entries.{listed_push, look_up_listed}
use Rattle.dm_switchboard.proofs.names.keep_new.Goals as goal

pub returns-clause-ok : goal.returns-clause-ok
returns-clause-ok c =
    let es = c.args.names.now.entries in
    let absent = look_up_listed c.args.name.items es ∙ c.requires in
    ap listed (c.in_ok-insert.ensures.entries ∙ insert_entry-new _ c.args.names.now c.args.name c.args.link absent) ∙ listed_push es (c.args.name, c.args.link)
