use Rattle.dm_check.proofs.Names.{◌≡◌, ◌≤◌, ◌+◌, length, world_state, IsRunning, HasChecked}
use Rattle.dm_check.proofs.trace.judge_on.Given as goal

abbrev pub invariant-groups : goal.invariant-groups
invariant-groups l = record {
  running : IsRunning l.world;
  checked : HasChecked l.initial.world.boot l.trace l.rest l.number l.groups (world_state l.world);
  boot : l.world.boot ≡ l.initial.world.boot;
  counted : l.world.groups ≡ l.groups;
  room : l.number + length l.rest ≤ 1 + length l.trace;
  few : l.groups + length l.rest ≤ length l.trace;
}

abbrev pub decreases-groups : goal.decreases-groups
decreases-groups l = length l.rest
