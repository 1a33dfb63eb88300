use Rattle.dm_check.proofs.Straying.{refused_by}
use Rattle.dm_check.proofs.trace.check_trace.Goals as goal

pub returns-in-Err-Refused-clause-refused : goal.returns-in-Err-Refused-clause-refused
returns-in-Err-Refused-clause-refused c = refused_by c.args.boot c.args.trace.now _ _ c.in-Err-Refused.field-0-is c.in-Err-Refused.ensures.refused
