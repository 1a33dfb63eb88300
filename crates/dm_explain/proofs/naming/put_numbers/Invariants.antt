use Rattle.dm_explain.proofs.Names.{◌≡◌, ◌++◌, concat, drop, map}
use Rattle.dm_explain.specs.Naming.{number_told}
use Rattle.dm_explain.proofs.naming.put_numbers.Given as goal

abbrev pub invariant-loop-process : goal.invariant-loop-process
invariant-loop-process l = l.into.items ++ concat (map (number_told l.word) (drop l.process-index l.processes)) ≡ l.initial.into.items ++ concat (map (number_told l.word) l.processes)
