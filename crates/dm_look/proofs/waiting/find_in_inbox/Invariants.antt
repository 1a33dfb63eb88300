use Rattle.dm_world.proofs.Names.{◌≡◌, ◌≤◌, ◌++◌, drop, length}
use Rattle.std.specs.Prelude.{map}
use Rattle.dm_look.proofs.waiting.find_in_inbox.Given as goal

abbrev pub invariant-loop-place : goal.invariant-loop-place
invariant-loop-place l =
    record { so_far : map (λ x. x.now) l.found.items ++ drop l.place l.inbox ≡ map (λ x. x.now) l.initial.found.items ++ l.inbox; within : l.place ≤ length l.inbox }
