use Rattle.dm_world.proofs.Names.{◌≡◌, ◌&&◌, not, true, all_below, length, world_state, all_heard, world_has_mail}
use Rattle.dm_world.proofs.world.World.is_quiet.Given as goal

-- nothing is on its way to those passed, or from them
abbrev pub invariant-loop-m : goal.invariant-loop-m
invariant-loop-m l = all_below l.m (λ a. not (world_has_mail (world_state l.self) a) && all_below (length l.self.boot.machines) (all_heard (world_state l.self) a)) ≡ true
