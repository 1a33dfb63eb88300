use Rattle.dm_explain.proofs.Names.{◌≡◌, ◌++◌, drop, each}
use Rattle.dm_explain.specs.SystemParts.{first_told}
use Rattle.dm_explain.proofs.system_parts.put_firsts.Given as goal

abbrev pub invariant-loop-place : goal.invariant-loop-place
invariant-loop-place l = l.into.items ++ each (first_told l.processes l.numbers) l.place (drop l.place l.numbers) ≡ l.initial.into.items ++ each (first_told l.processes l.numbers) 0 l.numbers
