use Rattle.dm_law_runs.proofs.Packets.{packets_agree}
use Rattle.dm_law_runs.proofs.run.packets_agree.Goals as goal

pub returns : goal.returns
returns c = packets_agree
