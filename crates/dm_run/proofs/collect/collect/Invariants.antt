use Rattle.dm_run.proofs.Names.{◌≡◌, ◌≤◌, ◌-◌, ◌*◌, ◌^◌, false, length, IsWorld, world_state, HasCome, Keeps}
use Rattle.dm_run.proofs.collect.collect.Given as goal

abbrev pub invariant-groups : goal.invariant-groups
invariant-groups l = record {
  world : IsWorld l.world;
  running : l.world.stopped ≡ false;
  boot : l.world.boot ≡ l.initial.world.boot;
  within : l.way.begun ≤ length l.directives;
  come : HasCome l.initial.world.boot l.directives (Keeps l.initial.kept.part l.kept) l.way (world_state l.world);
  rows : l.kept.rows ≤ 1200;
}

abbrev pub decreases-groups : goal.decreases-groups
decreases-groups l = length l.directives * 2 ^ 90 - l.world.groups
