use Rattle.dm_front.proofs.Meeting.{all_written}
use Rattle.dm_front.proofs.Names.{sink_around}
use Rattle.dm_front.proofs.tell.say.Goals as goal

pub returns-in-Ok-clause-sink : goal.returns-in-Ok-clause-sink
returns-in-Ok-clause-sink g c = all_written (sink_around g.K.Sink.told g.K.Sink.faults g.K.Sink.last_failed c.args.out.now c.write_all.new.sink) c.args.told.now.due c.in-Ok.ensures.steady
