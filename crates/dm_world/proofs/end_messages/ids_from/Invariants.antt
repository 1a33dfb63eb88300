use Rattle.dm_world.proofs.Names.{◌≡◌, ◌++◌, drop, names_of}
use Rattle.dm_world.proofs.end_messages.ids_from.Given as goal

abbrev pub invariant-loop-place : goal.invariant-loop-place
invariant-loop-place l =
    l.ids ++ names_of (drop l.place l.stream.unacked) ≡ names_of (drop l.first l.stream.unacked)
