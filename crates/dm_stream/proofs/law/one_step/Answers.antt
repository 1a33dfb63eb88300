use Rattle.dm_stream.proofs.Together.{StreamStands-happens, StreamStands-start}
use Rattle.dm_stream.proofs.Progress.{out-stays, back-stays}
use Rattle.dm_stream.proofs.law.one_step.Goals as goal

pub returns : goal.returns
returns g c = record { start = StreamStands-start; step = StreamStands-happens; out_stays = out-stays; back_stays = back-stays }
