use Rattle.dm_world.proofs.Names.{◌≡◌, ◌++◌, drop, link_lines}
use Rattle.dm_world.proofs.end_process.say_links.Given as goal

abbrev pub invariant-loop-slot : goal.invariant-loop-slot
invariant-loop-slot l =
    l.lines.items ++ link_lines l.pid l.slot (drop l.slot l.table) ≡ l.fn.lines.items ++ link_lines l.pid 0 l.table
