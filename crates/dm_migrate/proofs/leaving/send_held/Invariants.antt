use Rattle.dm_migrate.proofs.Names.{◌≡◌, ◌+◌, ◌≤◌, ◌++◌, length, map, vec_capacity, vec_len, into_iter_items, sent_on}
use Rattle.dm_migrate.proofs.leaving.send_held.Given as goal

-- what is added, with what is still to be added, is all; there is room for it
abbrev pub invariant-loop-message : goal.invariant-loop-message
invariant-loop-message l =
    (goal.iterator-loop-message).can_next l.message-iterator ×
    (goal.iterator-loop-message).is_finite l.message-iterator ×
    (l.messages.items ++ map (sent_on l.fn.to l.fn.moves) (into_iter_items l.message-iterator) ≡ l.fn.messages.items ++ map (sent_on l.fn.to l.fn.moves) l.fn.held.items) ×
    (vec_len l.messages + length (into_iter_items l.message-iterator) ≡ vec_len l.fn.messages + length l.fn.held.items) ×
    (vec_capacity l.fn.messages ≤ vec_capacity l.messages)
