use Rattle.dm_world.proofs.Names.{◌≡◌, None, first_had, world_state}
use Rattle.dm_world.proofs.world.World.say_had.Given as goal

abbrev pub invariant-loop-m : goal.invariant-loop-m
invariant-loop-m l =
    record { none : first_had l.m (world_state l.self) l.pid ≡ None; same : l.lines.items ≡ l.fn.lines.items }
