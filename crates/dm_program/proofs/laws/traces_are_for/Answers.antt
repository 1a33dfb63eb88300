use Rattle.dm_program.proofs.TracesFor.{traces_are_for}
use Rattle.dm_program.proofs.laws.traces_are_for.Goals as goal

pub returns : goal.returns
returns c = traces_are_for
