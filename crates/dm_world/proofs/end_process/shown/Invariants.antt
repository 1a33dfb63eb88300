use Rattle.dm_world.proofs.Names.{◌≡◌, ◌≤◌, take, trimmed}
use Rattle.dm_world.proofs.end_process.shown.Given as goal

abbrev pub invariant-loop-place : goal.invariant-loop-place
invariant-loop-place l =
    record { within : l.end ≤ l.place; bytes : take l.end l.bytes ≡ trimmed (take l.place l.bytes) }
