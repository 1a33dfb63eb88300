use Rattle.dm_world.proofs.Names.{◌≡◌, ◌≤◌, ◌++◌, drop, length, names_of}
use Rattle.dm_world.proofs.end_messages.ids_of_inbox.Given as goal

abbrev pub invariant-loop-place : goal.invariant-loop-place
invariant-loop-place l =
    record { so_far : l.ids ++ names_of (drop l.place l.inbox) ≡ names_of l.inbox; within : l.place ≤ length l.inbox }
