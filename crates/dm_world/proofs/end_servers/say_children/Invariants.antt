use Rattle.dm_world.proofs.Names.{◌≡◌, ◌+◌, ◌++◌, drop, child_lines}
use Rattle.dm_world.proofs.end_servers.say_children.Given as goal

abbrev pub invariant-loop-place : goal.invariant-loop-place
invariant-loop-place l =
    l.lines.items ++ child_lines (l.place + 1) (drop l.place l.children) ≡ l.fn.lines.items ++ child_lines 1 l.children
