use Rattle.dm_front.proofs.Names.{◌∙◌, ap, first_line}
use Rattle.dm_front.proofs.Saying.{schedule_said}
use Rattle.dm_front.proofs.first.first_of_line.Goals as goal

pub returns : goal.returns
returns c = c.first_line.ensures ∙ ap first_line (c.schedule_text.ensures ∙ schedule_said c.args.bytes.now c.args.machines c.args.line c.args.fault c.in_ok-told.told c.requires c.in_ok-told.ensures)
