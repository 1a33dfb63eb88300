use Rattle.dm_world.proofs.Names.{◌≡◌, ◌++◌, drop, name_lines}
use Rattle.dm_world.proofs.end_servers.say_names.Given as goal

abbrev pub invariant-loop-place : goal.invariant-loop-place
invariant-loop-place l =
    l.lines.items ++ name_lines (drop l.place l.board.names) ≡ l.fn.lines.items ++ name_lines l.board.names
