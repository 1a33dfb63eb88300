use Rattle.dm_law_runs.proofs.Packets.{packets_spell}
use Rattle.dm_law_runs.proofs.run.packets_spell.Goals as goal

pub returns : goal.returns
returns c = packets_spell
