use Rattle.dm_world.proofs.Names.{◌≡◌, ◌≤◌, ◌++◌, drop, length}
use Rattle.std.specs.Prelude.{map}
use Rattle.dm_look.proofs.waiting.find_in_queue.Given as goal

abbrev pub invariant-loop-place : goal.invariant-loop-place
invariant-loop-place l =
    record { so_far : map (λ x. x.now) l.found.items ++ drop l.place l.queue ≡ map (λ x. x.now) l.initial.found.items ++ l.queue; within : l.place ≤ length l.queue }
