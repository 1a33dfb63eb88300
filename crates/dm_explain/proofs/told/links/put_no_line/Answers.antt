use Rattle.dm_explain.proofs.told.links.put_no_line.Goals as goal

pub returns : goal.returns
returns c = rw (c.text_at.ensures, c.image_name_of.ensures, c.requires) at c.put_number_fault.ensures
