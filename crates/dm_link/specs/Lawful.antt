-- The names, addresses and links that packets can carry.
use Rattle.std.specs.Prelude.{◌≡◌, ℕ, ◌+◌, ◌≤◌, false}
use Rattle.dm_link.specs.declared.Pid.{Pid}
use Rattle.dm_link.specs.declared.Addr.{Addr}
use Rattle.dm_link.specs.declared.Area.{Area}
use Rattle.dm_link.specs.declared.Link.{Link}

-- there are at most 16 machines
abbrev pub IsMachine : ℕ → Type 0
IsMachine m = m ≤ 15

-- the process's home is a machine, and so is the address's
pub record IsLawfulAddr (a : Addr) : Type 0 where
  pub home : IsMachine a.pid.home
  pub at : IsMachine a.at

-- messages are told apart by 32 channels, and an area lies within the largest memory
pub record IsLawfulLink (l : Link) : Type 0 where
  pub addr : IsLawfulAddr l.addr
  pub channel : l.channel ≤ 31
  pub area : l.area.base + l.area.len ≤ 65536

-- a link to a process's kernel is never enclosed
pub record IsLawfulEnclosed (l : Link) : Type 0 where
  pub link : IsLawfulLink l
  pub not_to_kernel : l.to_kernel ≡ false
