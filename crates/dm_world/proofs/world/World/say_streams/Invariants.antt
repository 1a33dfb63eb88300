use Rattle.dm_world.proofs.Names.{◌≡◌, ◌++◌, length, joined_below, stream_line, world_state}
use Rattle.dm_world.proofs.world.World.say_streams.Given as goal

abbrev pub invariant-loop-from : goal.invariant-loop-from
invariant-loop-from l =
    l.lines.items ≡ l.fn.lines.items ++ joined_below (λ a. joined_below (λ c. stream_line (world_state l.self) a c) (length l.self.boot.machines)) l.from
