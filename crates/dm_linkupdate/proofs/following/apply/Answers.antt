use Rattle.dm_linkupdate.proofs.Names.{rules, subst, sym, IsLawfulProcess}
use Rattle.dm_linkupdate.proofs.Lawful.{applied_lawful}
use Rattle.dm_linkupdate.proofs.following.apply.Goals as goal

pub returns-clause-process : goal.returns-clause-process
returns-clause-process c = search rules

pub returns-clause-lawful : goal.returns-clause-lawful
returns-clause-lawful c = λ m l. subst IsLawfulProcess (sym (returns-clause-process c)) (applied_lawful c.args.about c.args.at c.args.moves c.args.process.now m l)
