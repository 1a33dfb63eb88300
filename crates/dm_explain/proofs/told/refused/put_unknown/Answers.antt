use Rattle.dm_explain.proofs.Names.{append_assoc}
use Rattle.dm_explain.proofs.told.refused.put_unknown.Goals as goal

pub returns : goal.returns
returns c = rw (c.no_label.ensures.value, c.uncommented.ensures.same, c.in_ok-put_said.ensures, append_assoc) at c.put_which_word.ensures
