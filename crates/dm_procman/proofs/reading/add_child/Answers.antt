use Rattle.dm_procman.proofs.reading.add_child.Goals as goal

pub returns : goal.returns
returns c = (c.in_ok-child.child, c.in_ok-child.ensures, c.in_ok-push.ensures.ok)
