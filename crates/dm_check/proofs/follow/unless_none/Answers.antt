use Rattle.dm_check.proofs.Judging.{falls_over, falls_so}
use Rattle.dm_check.proofs.follow.unless_none.Goals as goal

pub returns-in-Nothing : goal.returns-in-Nothing
returns-in-Nothing c = λ k due number h. falls_over k due number c.args.text.now c.args.fault h c.in-Nothing.ensures

pub returns-in-Line : goal.returns-in-Line
returns-in-Line c = λ k due number h. falls_so k due number c.args.text.now c.in-Line.field-0.now c.in-Line.field-1.now c.args.fault h c.in-Line.ensures.0 c.in-Line.ensures.1
