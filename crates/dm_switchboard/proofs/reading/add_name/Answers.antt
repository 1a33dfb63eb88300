use Rattle.dm_switchboard.proofs.Imports.{◌∙◌, insert_entry-new, listed}
use Rattle.dm_switchboard.proofs.Entries.{look_up_listed}
use Rattle.dm_switchboard.proofs.Loops.{grown, name_new, named_read}
use Rattle.dm_switchboard.proofs.reading.add_name.Goals as goal

pub returns : goal.returns
returns c =
    let es = c.args.names.now.entries in
    let n = c.in_ok-name.name in
    let l = c.in_ok-link.link in
    let absent = look_up_listed n.items es ∙ name_new (listed es) c.args.bytes.now c.in_ok-name.rest.now n.items c.in_ok-name.ensures in (
      record { name = n.items; link = l },
      named_read (listed es) c.args.bytes.now c.in_ok-name.rest.now c.in_ok-link.rest.now n.items l c.in_ok-name.ensures c.in_ok-link.ensures,
      grown es c.insert.new.map.entries n l (c.in_ok-insert.ensures.entries ∙ insert_entry-new _ c.args.names.now n l absent),
    )
