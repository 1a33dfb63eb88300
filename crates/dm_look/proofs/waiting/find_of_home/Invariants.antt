use Rattle.dm_world.proofs.Names.{◌≡◌, ◌+◌, ◌++◌, first_number, joined_below, pid_of, world_state}
use Rattle.std.specs.Prelude.{map}
use Rattle.dm_look.specs.Waiting.{kept_for}
use Rattle.dm_look.proofs.waiting.find_of_home.Given as goal

abbrev pub invariant-loop-place : goal.invariant-loop-place
invariant-loop-place l = map (λ x. x.now) l.found.items ≡ map (λ x. x.now) l.fn.found.items ++ joined_below (λ n. kept_for (((world_state l.world).nodes l.m).kernel.records (pid_of l.home (first_number + n)))) l.place
