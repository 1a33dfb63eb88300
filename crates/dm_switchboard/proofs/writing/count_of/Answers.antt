use Rattle.dm_switchboard.proofs.Apart.{own_names}
use Rattle.dm_switchboard.proofs.writing.count_of.Goals as goal

pub returns-clause-apart : goal.returns-clause-apart
returns-clause-apart c = own_names c.args.names.now.entries c.len.ensures.unique
