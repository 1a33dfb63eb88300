use Rattle.dm_world.proofs.Names.{◌≡◌, ◌++◌, held_line, homes_with, world_state}
use Rattle.dm_world.proofs.world.World.say_holding_on.Given as goal

abbrev pub invariant-loop-home : goal.invariant-loop-home
invariant-loop-home l =
    l.lines.items ≡ l.initial.lines.items ++ homes_with (world_state l.self) (held_line (world_state l.self) l.m) l.home
