use Rattle.dm_run.proofs.Names.{◌≡◌, ◌≤◌, ◌-◌, length, take, appended}
use Rattle.dm_run.proofs.write.write_all.Given as goal

abbrev pub invariant-offers : goal.invariant-offers
invariant-offers g l = record {
  within : l.done ≤ length l.bytes;
  taken : g.K.Sink.told l.sink ≡ appended (g.K.Sink.told l.initial.sink) (take l.done l.bytes);
  steady : g.K.Sink.faults l.sink ≡ g.K.Sink.faults l.initial.sink;
}

abbrev pub decreases-offers : goal.decreases-offers
decreases-offers g l = length l.bytes - l.done
