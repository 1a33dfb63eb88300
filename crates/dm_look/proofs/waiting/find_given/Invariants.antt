use Rattle.dm_world.proofs.Names.{◌≡◌, ◌++◌, joined_below, world_state}
use Rattle.std.specs.Prelude.{map}
use Rattle.dm_look.specs.Waiting.{given_on}
use Rattle.dm_look.proofs.waiting.find_given.Given as goal

abbrev pub invariant-loop-to : goal.invariant-loop-to
invariant-loop-to l = map (λ x. x.now) l.found.items ≡ map (λ x. x.now) l.fn.found.items ++ joined_below (λ c. given_on (world_state l.world) l.from c) l.to
