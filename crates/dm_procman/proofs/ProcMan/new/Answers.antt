use Rattle.dm_procman.proofs.Lawful.{started_lawful}
use Rattle.dm_procman.proofs.ProcMan.new.Goals as goal

pub returns-clause-lawful : goal.returns-clause-lawful
returns-clause-lawful c = started_lawful c.start.result c.args.boot.now c.requires c.start.ensures
