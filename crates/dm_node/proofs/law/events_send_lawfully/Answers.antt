-- The lemmas.
use Rattle.dm_node.proofs.Sends.{arrives_lawfully, asks_lawfully, calls_off_lawfully, ticks_lawfully, turns_lawfully}
use Rattle.dm_node.proofs.law.events_send_lawfully.Goals as goal

pub returns : goal.returns
returns c = record { turns = turns_lawfully; asks = asks_lawfully; calls = calls_off_lawfully; ticks = ticks_lawfully; arrivals = arrives_lawfully }
