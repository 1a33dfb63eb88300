use Rattle.dm_run.proofs.Names.{◌≡◌, ◌≤◌, length, world_state, HasCome}
use Rattle.dm_run.specs.Running.{IsRunning}
use Rattle.dm_look.specs.Groups.{Keeps}
use Rattle.dm_look.proofs.groups.go_to.Given as goal

abbrev pub invariant-loop : goal.invariant-loop
invariant-loop l = record {
  running : IsRunning l.world;
  boot : l.world.boot ≡ l.initial.world.boot;
  within : l.way.begun ≤ length l.directives;
  come : HasCome l.initial.world.boot l.directives (Keeps l.counter l.last.items) l.way (world_state l.world);
}
