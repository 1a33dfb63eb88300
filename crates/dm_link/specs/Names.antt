-- Names of processes.
use Rattle.std.specs.Prelude.{ℕ, Bool, ◌==◌, ◌&&◌}
use Rattle.std.specs.Ordering.{nat_cmp, ordering_then}
use Rattle.std.specs.declared.cmp.Ordering.{Ordering}
use Rattle.dm_link.specs.declared.Pid.{Pid}
use Rattle.dm_link.specs.declared.Addr.{Addr}

-- the process with this number that machine m made
abbrev pub pid_of : ℕ → ℕ → Pid
pid_of m n = record { home = m; num = n }

-- the two names are one
abbrev pub pid_eq : Pid → Pid → Bool
pid_eq p q = (p.home == q.home) && (p.num == q.num)

-- names go by home, then number
abbrev pub pid_cmp : Pid → Pid → Ordering
pid_cmp p q = ordering_then (nat_cmp p.home q.home) (nat_cmp p.num q.num)

-- a machine, and the number of moves after which the process came there
pub record Place : Type 0 where
  pub at : ℕ
  pub moves : ℕ

-- where an address leads
abbrev pub place_of : Addr → Place
place_of a = record { at = a.at; moves = a.moves }
