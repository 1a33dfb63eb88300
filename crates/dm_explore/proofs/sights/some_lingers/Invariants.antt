use Rattle.std.specs.Prelude.{◌≡◌, false, length, take}
use Rattle.std.specs.List.{list_any}
use Rattle.dm_world.specs.Meets.{world_state}
use Rattle.dm_explore.specs.Sights.{world_lingers}
use Rattle.dm_explore.proofs.sights.some_lingers.Given as goal

-- none of those so far
abbrev pub invariant-loop-pid : goal.invariant-loop-pid
invariant-loop-pid l = list_any (world_lingers (length l.world.boot.machines) (world_state l.world)) (take l.pid-index l.pids) ≡ false
