use Rattle.dm_world.proofs.Names.{◌≡◌, ◌++◌, home_with, process_lines, world_state}
use Rattle.dm_world.proofs.world.World.say_home.Given as goal

abbrev pub invariant-loop-place : goal.invariant-loop-place
invariant-loop-place l =
    l.lines.items ≡ l.fn.lines.items ++ home_with (process_lines l.self.boot (world_state l.self)) l.home l.place
