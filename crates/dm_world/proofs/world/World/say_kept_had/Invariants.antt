use Rattle.dm_world.proofs.Names.{◌≡◌, None, first_says, record_kept, world_state}
use Rattle.dm_world.proofs.world.World.say_kept_had.Given as goal

abbrev pub invariant-loop-m : goal.invariant-loop-m
invariant-loop-m l =
    record { none : first_says (λ m. record_kept (((world_state l.self).nodes m).kernel.records l.pid)) l.m ≡ None; same : l.lines.items ≡ l.fn.lines.items }
