use Rattle.dm_world.proofs.Names.{◌≡◌, ◌++◌, drop}
use Rattle.std.specs.Prelude.{map}
use Rattle.dm_look.proofs.waiting.find_from.Given as goal

abbrev pub invariant-loop-place : goal.invariant-loop-place
invariant-loop-place l = map (λ x. x.now) l.found.items ++ drop l.place l.stream.unacked ≡ map (λ x. x.now) l.initial.found.items ++ drop l.first l.stream.unacked
