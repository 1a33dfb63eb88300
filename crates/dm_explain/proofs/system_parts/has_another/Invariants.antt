use Rattle.dm_explain.proofs.Names.{◌≡◌, drop}
use Rattle.dm_explain.specs.SystemParts.{has_another}
use Rattle.dm_explain.proofs.system_parts.has_another.Given as goal

abbrev pub invariant-loop-place : goal.invariant-loop-place
invariant-loop-place l = has_another l.last l.place (drop l.place l.numbers) ≡ has_another l.last 0 l.numbers
