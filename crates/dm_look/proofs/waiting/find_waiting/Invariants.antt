use Rattle.dm_world.proofs.Names.{◌≡◌, length, joined_below, world_state}
use Rattle.std.specs.Prelude.{map}
use Rattle.dm_look.specs.Waiting.{waiting_at}
use Rattle.dm_look.proofs.waiting.find_waiting.Given as goal

abbrev pub invariant-loop-m : goal.invariant-loop-m
invariant-loop-m l = map (λ x. x.now) l.found.items ≡ joined_below (λ m. waiting_at (length l.world.boot.machines) (world_state l.world) m) l.m
