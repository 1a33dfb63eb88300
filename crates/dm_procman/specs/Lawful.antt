-- The managers that packets and processes can make: each address is one, that of the switchboard is one of it, and each answer's
-- link can be enclosed.
use Rattle.std.specs.Prelude.{◌≤◌}
use Rattle.std.specs.List.{All}
use Rattle.std.specs.Option.{IfSome}
use Rattle.dm_link.specs.Lawful.{IsLawfulAddr, IsLawfulEnclosed}
use Rattle.dm_statebytes.specs.Servers.{IsAddressOf}
use Rattle.dm_onekernel.specs.Boot.{switchboard}
use Rattle.dm_procman.specs.declared.pending.Pending.{Pending}
use Rattle.dm_procman.specs.Managing.{Managing}

abbrev pub IsLawfulPending : Pending → Type 0
IsLawfulPending r = IfSome r.answer IsLawfulEnclosed

pub record IsLawfulManager (g : Managing) : Type 0 where
  pub children : All IsLawfulAddr g.children
  pub pending : All IsLawfulPending g.pending
  pub board : IsAddressOf switchboard g.board
  pub machines : g.machines ≤ 16
