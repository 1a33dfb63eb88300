use Rattle.dm_world.proofs.Names.{◌≡◌, ◌++◌, memory_lines}
use Rattle.dm_world.proofs.end_process.say_memory.Given as goal

abbrev pub invariant-loop-block : goal.invariant-loop-block
invariant-loop-block l =
    l.lines.items ≡ l.fn.lines.items ++ memory_lines l.pid l.memory l.block
