-- Which processes there are: those that each home made, numbered from the first number on.
use Rattle.std.specs.Prelude.{◌≡◌, ℕ, ◌+◌, ◌<◌, ◌≤◌, true, is_some}
use Rattle.dm_link.specs.declared.Pid.{Pid}
use Rattle.dm_link.specs.Names.{pid_of}
use Rattle.dm_onekernel.specs.Boot.{first_number}
use Rattle.dm_onekernel.specs.Kernel.{OneKernel}

-- the processes that there are: those made at each home, numbered from the first number on
pub record MadeStands (s : OneKernel) : Type 0 where
  pub home : (p : Pid) → is_some (s.processes p) ≡ true → p.home < s.machines
  pub first : (p : Pid) → is_some (s.processes p) ≡ true → first_number ≤ p.num
  pub below : (p : Pid) → is_some (s.processes p) ≡ true → p.num < first_number + s.made p.home
  pub all : (home n : ℕ) → home < s.machines → n < s.made home → is_some (s.processes (pid_of home (first_number + n))) ≡ true
