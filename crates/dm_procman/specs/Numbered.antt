-- Pending requests under their numbers.
use Rattle.std.specs.Prelude.{◌≡◌, ℕ, List}
use Rattle.std.specs.List.{AllByRecursion}
use Rattle.dm_link.specs.declared.Pid.{Pid}
use Rattle.dm_procman.specs.declared.pending.Pending.{Pending}
use Rattle.dm_procman.specs.Managing.{retargeted_pending}

-- each stands under its number
abbrev pub IsNumbered : List (ℕ × Pending) → Type 0
IsNumbered es = AllByRecursion (λ e. e.1.n ≡ e.0) es

abbrev pub retargeted_entry : Pid → ℕ → ℕ → ℕ × Pending → ℕ × Pending
retargeted_entry about at moves e = (e.0, retargeted_pending about at moves e.1)
