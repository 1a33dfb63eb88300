-- What becomes of a process that is told where another one is.
use Rattle.std.specs.Prelude.{ℕ, map}
use Rattle.dm_link.specs.declared.Pid.{Pid}
use Rattle.dm_link.specs.Places.{retargeted}
use Rattle.dm_linktable.specs.Slots.{retargeted_slot}
use Rattle.dm_process.specs.declared.process.Process.{Process}
use Rattle.dm_process.specs.declared.process.Status.{Status}
use Rattle.dm_process.specs.declared.process.Status.TheVariants.{Ready, Waiting, Moving}

-- a data move goes on with its owner where that is
abbrev pub status_after : Pid → ℕ → ℕ → Status → Status
status_after about at moves Ready = Ready
status_after about at moves (Waiting mask base cap) = Waiting mask base cap
status_after about at moves (Moving dir owner base own left pending) = Moving dir (retargeted about at moves owner) base own left pending

-- its links and its data move follow, where they know fewer moves; nothing else changes
abbrev pub applied : Pid → ℕ → ℕ → Process → Process
applied about at moves p = record p { table = map (retargeted_slot about at moves) p.table; status = status_after about at moves p.status }
