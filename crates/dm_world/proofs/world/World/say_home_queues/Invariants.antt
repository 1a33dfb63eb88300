use Rattle.dm_world.proofs.Names.{◌≡◌, ◌++◌, length, home_with, queue_of, world_state}
use Rattle.dm_world.proofs.world.World.say_home_queues.Given as goal

abbrev pub invariant-loop-place : goal.invariant-loop-place
invariant-loop-place l =
    l.lines.items ≡ l.fn.lines.items ++ home_with (queue_of (length l.self.boot.machines) (world_state l.self)) l.home l.place
