-- The processes that were made, as a function of the name.
use Rattle.std.specs.Prelude.{if◌then◌else◌, IsSome}
use Rattle.std.specs.Option.{option_flatten}
use Rattle.std.specs.declared.option.Option.{Option}
use Rattle.std.specs.declared.option.Option.TheVariants.{None, Some}
use Rattle.std.specs.BTreeMap.{get}
use Rattle.dm_link.specs.declared.Pid.{Pid}
use Rattle.dm_link.specs.Names.{pid_cmp, pid_eq}
use Rattle.dm_process.specs.declared.process.Process.{Process}
use Rattle.dm_onekernel.specs.Plain.{plain_process}
use Rattle.dm_onekernel.specs.Kernel as one
use Rattle.dm_replay.specs.declared.life.Life.{Life}
use Rattle.dm_replay.specs.declared.life.Life.TheVariants.{Alive, Ended}
use Rattle.dm_replay.specs.declared.life.Lives.{Lives}

-- what became of a process, if it was made; nothing while it is taken out
unfoldable pub at : {P : Type 0} → Lives P → Pid → Option (Life P)
at lives q = option_flatten (get pid_cmp lives.places q)

-- a process was made, whether it is taken out or not
unfoldable pub HasPlace : {P : Type 0} → Lives P → Pid → Type 0
HasPlace lives q = IsSome (get pid_cmp lives.places q)

-- the process, where it lives
abbrev pub alive_of : {P : Type 0} → Option (Life P) → Option P
alive_of None = None
alive_of (Some (Alive x)) = Some x
alive_of (Some (Ended y)) = None

-- with that of p set
abbrev pub with_life : {P : Type 0} → (Pid → Option (Life P)) → Pid → Life P → Pid → Option (Life P)
with_life lives p l q = if pid_eq p q then Some l else lives q

-- without that of p
abbrev pub without_life : {P : Type 0} → (Pid → Option (Life P)) → Pid → Pid → Option (Life P)
without_life lives p q = if pid_eq p q then None else lives q

-- the same of the kernel without machines
abbrev pub life_of : Option (Life Process) → Option one.Life
life_of None = None
life_of (Some (Alive x)) = Some (one.Alive (plain_process x))
life_of (Some (Ended y)) = Some (one.Ended y)
