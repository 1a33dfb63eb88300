use Rattle.dm_explain.proofs.Names.{◌≡◌, ◌++◌, drop, each}
use Rattle.dm_explain.specs.SystemParts.{member_told}
use Rattle.dm_explain.proofs.system_parts.put_members.Given as goal

abbrev pub invariant-loop-place : goal.invariant-loop-place
invariant-loop-place l = l.into.items ++ each (member_told l.processes l.part) l.place (drop l.place l.numbers) ≡ l.initial.into.items ++ each (member_told l.processes l.part) 0 l.numbers
