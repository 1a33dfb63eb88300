use Rattle.dm_world.proofs.Names.{◌≡◌, ◌++◌, homes_with, process_lines, world_state}
use Rattle.dm_world.proofs.world.World.say_processes.Given as goal

abbrev pub invariant-loop-home : goal.invariant-loop-home
invariant-loop-home l =
    l.lines.items ≡ l.fn.lines.items ++ homes_with (world_state l.self) (process_lines l.self.boot (world_state l.self)) l.home
