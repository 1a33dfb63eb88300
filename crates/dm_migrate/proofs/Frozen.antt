-- How long the state of what leaves is.
use Rattle.dm_migrate.proofs.Names.{◌≤◌, length, arith, IsLawfulResident, shell_of, shell_is_lawful, lawful_size, state_of}
use Rattle.dm_resident.specs.declared.Resident.{Resident}
use Rattle.dm_resident.specs.declared.Resident.TheVariants as resident
use Rattle.dm_migrate.proofs.Servers.{board_some, manager_some}

pub state_some : (r : Resident) → IsLawfulResident r → 1 ≤ length (state_of r)
state_some (resident.Process p) l = omega (arith, (lawful_size (length p.table) (shell_of p) l.slots (shell_is_lawful p l)).0)
state_some (resident.Board b) l = board_some b
state_some (resident.Manager g) l = manager_some g
