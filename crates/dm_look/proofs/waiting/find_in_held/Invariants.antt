use Rattle.dm_world.proofs.Names.{◌≡◌, ◌++◌, drop}
use Rattle.std.specs.Prelude.{map}
use Rattle.dm_look.proofs.waiting.find_in_held.Given as goal

abbrev pub invariant-loop-message : goal.invariant-loop-message
invariant-loop-message l = map (λ x. x.now) l.found.items ++ drop l.message-index l.messages ≡ map (λ x. x.now) l.initial.found.items ++ l.messages
