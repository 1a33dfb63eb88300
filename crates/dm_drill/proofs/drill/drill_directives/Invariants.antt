use Rattle.dm_drill.proofs.Names.{◌≡◌, ◌≤◌, ◌-◌, ◌*◌, ◌^◌, false, length, IsWorld, world_state, HasCome, IsCounted, shown}
use Rattle.dm_drill.proofs.drill.drill_directives.Given as goal

abbrev pub invariant-groups : goal.invariant-groups
invariant-groups g l = record {
  world : IsWorld l.world;
  running : l.world.stopped ≡ false;
  boot : l.world.boot ≡ l.initial.world.boot;
  within : l.way.begun ≤ length l.directives;
  come : HasCome l.initial.world.boot l.directives (IsCounted l.trace (g.K.Sink.told l.initial.out) (g.K.Sink.told l.out) (shown l.counts)) l.way (world_state l.world);
  steady : g.K.Sink.faults l.out ≡ g.K.Sink.faults l.initial.out;
}

abbrev pub decreases-groups : goal.decreases-groups
decreases-groups g l = length l.directives * 2 ^ 90 - l.world.groups
