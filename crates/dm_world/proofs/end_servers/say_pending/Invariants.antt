use Rattle.dm_world.proofs.Names.{◌≡◌, ◌++◌, drop, pending_lines}
use Rattle.dm_world.proofs.end_servers.say_pending.Given as goal

abbrev pub invariant-loop-request : goal.invariant-loop-request
invariant-loop-request l =
    l.lines.items ++ pending_lines (drop l.request-index l.pending) ≡ l.fn.lines.items ++ pending_lines l.pending
