use Rattle.dm_front.proofs.Names.{◌∙◌, ap, boot_text, first_line}
use Rattle.dm_front.proofs.Saying.{boot_said}
use Rattle.dm_front.proofs.first.first_of_boot.Goals as goal

pub returns : goal.returns
returns c = record {
  text = boot_text c.in_ok-told.told;
  told = boot_said c.args.bytes.now c.args.rule c.args.place c.in_ok-told.told c.requires c.in_ok-told.ensures.explains;
  first = c.first_line.ensures ∙ ap first_line c.boot_text.ensures;
}
