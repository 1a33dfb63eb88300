use Rattle.dm_world.proofs.Names.{◌≡◌, ◌++◌, length, joined_below, held_lines, world_state}
use Rattle.dm_world.proofs.world.World.say_holding.Given as goal

abbrev pub invariant-loop-m : goal.invariant-loop-m
invariant-loop-m l =
    l.lines.items ≡ l.fn.lines.items ++ joined_below (held_lines (length l.self.boot.machines) (world_state l.self)) l.m
