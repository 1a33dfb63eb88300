use Rattle.dm_migrate.proofs.Names.{◌≡◌, ◌+◌, ◌≤◌, ◌++◌, length, map, vec_capacity, vec_len, queue_of, sent_on}
use Rattle.dm_migrate.proofs.leaving.send_queue.Given as goal

-- what is added, with what is still to be added, is all; there is room for it
abbrev pub invariant-loop-message : goal.invariant-loop-message
invariant-loop-message l =
    (l.messages.items ++ map (sent_on l.fn.to l.fn.moves) l.queue ≡ l.fn.messages.items ++ map (sent_on l.fn.to l.fn.moves) (queue_of l.fn.resident)) ×
    (vec_len l.messages + length l.queue ≡ vec_len l.fn.messages + length (queue_of l.fn.resident)) ×
    (vec_capacity l.fn.messages ≤ vec_capacity l.messages)

abbrev pub decreases-loop-message : goal.decreases-loop-message
decreases-loop-message l = length l.queue
