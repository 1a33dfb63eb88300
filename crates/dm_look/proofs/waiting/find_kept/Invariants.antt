use Rattle.dm_world.proofs.Names.{◌≡◌, ◌++◌, joined_below, world_state}
use Rattle.std.specs.Prelude.{map}
use Rattle.dm_look.specs.Waiting.{kept_of_home}
use Rattle.dm_look.proofs.waiting.find_kept.Given as goal

abbrev pub invariant-loop-home : goal.invariant-loop-home
invariant-loop-home l = map (λ x. x.now) l.found.items ≡ map (λ x. x.now) l.initial.found.items ++ joined_below (λ home. kept_of_home (world_state l.world) l.m home) l.home
