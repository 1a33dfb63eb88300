-- What state bytes can carry, whose messages packets can carry.
use Rattle.std.specs.Prelude.{ℕ, ◌+◌, ◌<◌, ◌^◌, length}
use Rattle.dm_process.specs.Lawful.{IsLawfulProcess}
use Rattle.dm_switchboard.specs.Lawful.{IsLawfulBoard}
use Rattle.dm_procman.specs.Lawful.{IsLawfulManager}
use Rattle.dm_resident.specs.declared.Resident.{Resident}
use Rattle.dm_resident.specs.declared.Resident.TheVariants.{Process, Board, Manager}

abbrev pub IsLawfulResident : Resident → Type 0
IsLawfulResident (Process x) = IsLawfulProcess x
IsLawfulResident (Board b) = IsLawfulBoard b
IsLawfulResident (Manager g) = IsLawfulManager g

-- the addresses and links that it keeps outside a table can be counted
abbrev pub HasFewAddresses : Resident → Type 0
HasFewAddresses (Process x) = Unit {0}
HasFewAddresses (Board b) = length b.names < 2 ^ 31
HasFewAddresses (Manager g) = length g.children + length g.pending < 2 ^ 31
