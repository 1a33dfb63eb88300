-- Links without places: what a link means, wherever its process is.
use Rattle.std.specs.Prelude.{ℕ, Bool}
use Rattle.dm_link.specs.declared.Pid.{Pid}
use Rattle.dm_link.specs.declared.Kind.{Kind}
use Rattle.dm_link.specs.declared.Area.{Area}
use Rattle.dm_link.specs.declared.Link.{Link}

-- a link without the machine and the count of moves of its address
pub record PlainLink : Type 0 where
  pub to : Pid
  pub kind : Kind
  pub to_kernel : Bool
  pub code : ℕ
  pub channel : ℕ
  pub area : Area

abbrev pub plain_link : Link → PlainLink
plain_link l = record { to = l.addr.pid; kind = l.kind; to_kernel = l.to_kernel; code = l.code; channel = l.channel; area = l.area }
