use Rattle.dm_run.proofs.Names.{◌≤◌, ◌-◌, length, world_state, Reaches}
use Rattle.dm_run.proofs.way.next_step.Given as goal

abbrev pub invariant-begun : goal.invariant-begun
invariant-begun l = record {
  within : l.way.begun ≤ length l.directives;
  reached : Reaches l.world.boot l.directives (world_state l.world) l.initial.way l.way;
}

abbrev pub decreases-begun : goal.decreases-begun
decreases-begun l = length l.directives - l.way.begun
