-- Where addresses lead: another place, and the addresses that know less than is known elsewhere.
use Rattle.std.specs.Prelude.{ℕ, Bool, nat_lt, ◌&&◌, if◌then◌else◌}
use Rattle.dm_link.specs.declared.Pid.{Pid}
use Rattle.dm_link.specs.declared.Addr.{Addr}
use Rattle.dm_link.specs.declared.Link.{Link}
use Rattle.dm_link.specs.Names.{pid_eq, pid_of}

-- the address of the kernel of a machine
abbrev pub kernel_at : ℕ → Addr
kernel_at machine = record { pid = pid_of machine 0; at = machine; moves = 0 }

-- the address of the same process at another place
abbrev pub relocated : ℕ → ℕ → Addr → Addr
relocated at moves a = record { pid = a.pid; at = at; moves = moves }

abbrev pub relocated_link : ℕ → ℕ → Link → Link
relocated_link at moves l = record l { addr = relocated at moves l.addr }

-- the address is of this process, and knows fewer moves of it
abbrev pub is_behind : Pid → ℕ → Addr → Bool
is_behind about moves a = pid_eq a.pid about && nat_lt a.moves moves

-- what becomes of an address where it is told that the process is at another place, after so many moves
abbrev pub retargeted : Pid → ℕ → ℕ → Addr → Addr
retargeted about at moves a = if is_behind about moves a then relocated at moves a else a

abbrev pub retargeted_link : Pid → ℕ → ℕ → Link → Link
retargeted_link about at moves l = record l { addr = retargeted about at moves l.addr }
