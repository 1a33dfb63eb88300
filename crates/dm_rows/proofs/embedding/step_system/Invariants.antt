use Rattle.std.specs.Prelude.{◌≡◌}
use Rattle.dm_run.specs.Running.{IsRunning}
use Rattle.dm_rows.proofs.embedding.step_system.Given as goal

-- the world goes on, and each directive so far had its group
abbrev pub invariant-loop-n : goal.invariant-loop-n
invariant-loop-n l = record { running : IsRunning l.world; groups : l.world.groups ≡ l.n }
