use Rattle.dm_procman.proofs.Names.{sym, subst, ap, ◌∙◌, IsLawfulManager, plain_manager}
use Rattle.dm_procman.proofs.Lawful.{retargeted_lawful}
use Rattle.dm_procman.proofs.Plain.{plain_retargeted}
use Rattle.dm_procman.proofs.ProcMan.retarget.Goals as goal

pub returns-clause-plain : goal.returns-clause-plain
returns-clause-plain c = ap plain_manager c.follow.ensures.manager ∙ plain_retargeted c.args.about c.args.at c.args.moves c.args.self.now

pub returns-clause-lawful : goal.returns-clause-lawful
returns-clause-lawful c m l = subst IsLawfulManager (sym c.follow.ensures.manager) (retargeted_lawful c.args.about c.args.at c.args.moves c.args.self.now m l)
