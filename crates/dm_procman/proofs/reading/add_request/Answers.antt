use Rattle.dm_procman.proofs.reading.add_request.Goals as goal

pub returns : goal.returns
returns c = (c.in_ok-request.request, c.in_ok-request.ensures, c.in_ok-push.ensures.ok)
