use Rattle.dm_world.proofs.Names.{◌≡◌, ◌++◌, home_with, held_line, world_state}
use Rattle.dm_world.proofs.world.World.say_holding_of.Given as goal

abbrev pub invariant-loop-place : goal.invariant-loop-place
invariant-loop-place l =
    l.lines.items ≡ l.fn.lines.items ++ home_with (held_line (world_state l.self) l.m) l.home l.place
