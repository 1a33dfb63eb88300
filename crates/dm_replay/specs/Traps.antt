-- What an instruction that isn't plain comes to, without places.
use Rattle.std.specs.Prelude.{◌≡◌, true, is_some}
use Rattle.std.specs.declared.option.Option.{Option}
use Rattle.std.specs.declared.option.Option.TheVariants.{Some}
use Rattle.dm_process.specs.declared.process.Process.{Process}
use Rattle.dm_onekernel.specs.Options.{bind}
use Rattle.dm_onekernel.specs.Step as one
use Rattle.dm_syscall.specs.Plainly.{IsLawfulCalled, plain_called}
use Rattle.dm_replay.specs.declared.processes.Trap.{Trap}
use Rattle.dm_replay.specs.declared.processes.Trap.TheVariants as trap

-- a trap, with the process as it left it
abbrev pub plain_trap : Process → Trap → Option one.Trap
plain_trap x (trap.Call n c) = bind (plain_called c x) (λ d. Some (one.Calls n d))
plain_trap x (trap.Fault f) = Some (one.Faults f)

-- a message that goes out is lawful
abbrev pub IsLawfulTrap : Trap → Type 0
IsLawfulTrap (trap.Call n c) = IsLawfulCalled c
IsLawfulTrap (trap.Fault f) = Unit {0}

-- a message that goes out is one that the kernel without machines has
abbrev pub IsSaidTrap : Process → Trap → Type 0
IsSaidTrap x t = is_some (plain_trap x t) ≡ true
