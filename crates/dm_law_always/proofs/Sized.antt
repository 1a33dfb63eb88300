-- The size of what moves: there is one of each server, and of each process that lives.
use Rattle.dm_law_always.proofs.Names.{◌≡◌, ◌||◌, Bool, true, false, refl, false≢true, is_some, if◌then◌else◌, option_map, Option, None, Some, Pid, pid_eq, OneKernel, PlainProcess, switchboard, manager, is_alive, Size, size_of, process_size}
use Rattle.dm_law_always.proofs.Names.{board_size, manager_size, none_some}
use Rattle.dm_onekernel.specs.Step as kernel

process_sized : (o : Option PlainProcess) → is_some o ≡ true → (x : Size) × (option_map process_size o ≡ Some x)
process_sized None e = absurd (false≢true e)
process_sized (Some y) e = (process_size y, refl)

sized_by : (c d : Bool) (o : Option PlainProcess) (a b : Size) → ((c || d) || is_some o) ≡ true → (x : Size) × ((if c then Some a else if d then Some b else option_map process_size o) ≡ Some x)
sized_by true d o a b e = (a, refl)
sized_by false true o a b e = (b, refl)
sized_by false false o a b e = process_sized o e

-- who lives has a size
pub sized : (s : OneKernel) (p : Pid) → is_alive s p ≡ true → (x : Size) × (size_of s p ≡ Some x)
sized s p lives =
    sized_by (pid_eq p switchboard) (pid_eq p manager) (kernel.alive (s.processes p)) (record { state = board_size s.switchboard; blocks = 0 }) (record { state = manager_size s.manager; blocks = 0 }) lives

alive_by : (c d : Bool) (o : Option PlainProcess) (a b x : Size) → (if c then Some a else if d then Some b else option_map process_size o) ≡ Some x → ((c || d) || is_some o) ≡ true
alive_by true d o a b x e = refl
alive_by false true o a b x e = refl
alive_by false false None a b x e = none_some x e
alive_by false false (Some y) a b x e = refl

-- and who has one lives
pub alive_sized : (s : OneKernel) (p : Pid) (x : Size) → size_of s p ≡ Some x → is_alive s p ≡ true
alive_sized s p x e =
    alive_by (pid_eq p switchboard) (pid_eq p manager) (kernel.alive (s.processes p)) (record { state = board_size s.switchboard; blocks = 0 }) (record { state = manager_size s.manager; blocks = 0 }) x e
