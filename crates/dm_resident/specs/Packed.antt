-- The state bytes of what can move: a process's and a server's, each with a version of its own.
use Rattle.std.specs.Prelude.{◌≡◌, ℕ, List, [], length, Ok}
use Rattle.dm_statebytes.specs.Shell.{shell, shell_of, shell_spelling}
use Rattle.dm_switchboard.specs.Packed.{board_of_bytes, board_spelling}
use Rattle.dm_procman.specs.Packed.{manager_of_bytes, manager_spelling}
use Rattle.dm_resident.specs.declared.Resident.{Resident}
use Rattle.dm_resident.specs.declared.Resident.TheVariants.{Process, Board, Manager}

-- all of it but its memory and its queue
abbrev pub state_of : Resident → List ℕ
state_of (Process x) = shell_spelling (shell_of x)
state_of (Board b) = board_spelling b
state_of (Manager g) = manager_spelling g

-- the state bytes are read again as what they were made of, and nothing is left
unfoldable pub IsReadAgain : Resident → Type 0
IsReadAgain (Process x) = (shell (length x.table)).read (shell_spelling (shell_of x)) ≡ Ok (shell_of x, [])
IsReadAgain (Board b) = board_of_bytes (board_spelling b) ≡ Ok b
IsReadAgain (Manager g) = manager_of_bytes g.machines g.images (manager_spelling g) ≡ Ok g
