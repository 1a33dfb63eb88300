use Rattle.dm_world.proofs.Names.{◌≡◌, ◌++◌, drop, names_of}
use Rattle.dm_world.proofs.end_messages.ids_of_held.Given as goal

abbrev pub invariant-loop-message : goal.invariant-loop-message
invariant-loop-message l =
    l.ids ++ names_of (drop l.message-index l.messages) ≡ names_of l.messages
