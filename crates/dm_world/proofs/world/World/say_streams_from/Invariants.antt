use Rattle.dm_world.proofs.Names.{◌≡◌, ◌++◌, joined_below, stream_line, world_state}
use Rattle.dm_world.proofs.world.World.say_streams_from.Given as goal

abbrev pub invariant-loop-to : goal.invariant-loop-to
invariant-loop-to l =
    l.lines.items ≡ l.fn.lines.items ++ joined_below (λ c. stream_line (world_state l.self) l.from c) l.to
