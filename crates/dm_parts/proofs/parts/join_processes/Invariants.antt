use Rattle.std.proofs.Common.{◌≡◌, drop}
use Rattle.dm_parts.specs.Parts.{with_processes}
use Rattle.dm_parts.proofs.parts.join_processes.Given as goal

abbrev pub invariant-loop-place : goal.invariant-loop-place
invariant-loop-place l = with_processes l.boot l.place l.parts (drop l.place l.processes) ≡ with_processes l.boot 0 l.fn.parts l.processes
