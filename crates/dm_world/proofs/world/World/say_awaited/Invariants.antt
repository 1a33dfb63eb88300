use Rattle.dm_world.proofs.Names.{◌≡◌, None, awaited_lines, first_says, world_state}
use Rattle.dm_world.proofs.world.World.say_awaited.Given as goal

abbrev pub invariant-loop-m : goal.invariant-loop-m
invariant-loop-m l =
    record { none : first_says (λ m. awaited_lines l.self.boot m l.pid (((world_state l.self).nodes m).kernel.records l.pid)) l.m ≡ None; same : l.lines.items ≡ l.fn.lines.items }
