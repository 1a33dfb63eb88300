use Rattle.dm_explain.proofs.Names.{◌≡◌, ◌++◌, drop, items_view, each, boot_process_told}
use Rattle.dm_explain.proofs.system.put_processes.Given as goal

abbrev pub invariant-loop-i : goal.invariant-loop-i
invariant-loop-i l = l.into.items ++ each (boot_process_told (items_view l.tables)) l.i (drop l.i l.processes) ≡ l.initial.into.items ++ each (boot_process_told (items_view l.tables)) 0 l.processes
