-- What the machine with the manager does where a process or a server is to move.
use Rattle.std.specs.Prelude.{ℕ, [], ◌∷◌}
use Rattle.std.specs.declared.option.Option.{Option}
use Rattle.std.specs.declared.option.Option.TheVariants.{None, Some}
use Rattle.std.specs.declared.result.Result.{Result}
use Rattle.std.specs.declared.result.Result.TheVariants.{Ok, Err}
use Rattle.dm_link.specs.declared.Pid.{Pid}
use Rattle.dm_message.specs.declared.Message.{Message}
use Rattle.dm_procman.specs.declared.moving.MoveError.{MoveError}
use Rattle.dm_procman.specs.declared.moving.MoveError.TheVariants as no
use Rattle.dm_procman.specs.Moving.{asks_to_move}
use Rattle.dm_line.specs.declared.line.Line.TheVariants as line
use Rattle.dm_onekernel.specs.Boot.{manager}
use Rattle.dm_procman.specs.Managing.{Managing}
use Rattle.dm_kernel.specs.declared.part.Part.TheVariants.{Says, Routes}
use Rattle.dm_kernel.specs.State.{KernelState, Turned, manager_in, own_id, turned, with_sent}

-- the manager's message to it goes out under a name of the kernel's; others aren't known
abbrev pub told_to_move : KernelState → Pid → Result Message MoveError → Option Turned
told_to_move s p (Ok m) = turned (with_sent s) (Routes m ∷ [])
told_to_move s p (Err no.Unknown) = turned s (Says (line.NoChild p) ∷ [])

abbrev pub asks_manager : KernelState → Pid → ℕ → Option Managing → Option Turned
asks_manager s p machine None = None
asks_manager s p machine (Some g) = told_to_move s p (asks_to_move s.here g p machine (own_id s))

abbrev pub asks_move : KernelState → Pid → ℕ → Option Turned
asks_move s p machine = asks_manager s p machine (manager_in (s.records manager))
