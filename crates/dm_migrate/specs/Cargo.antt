-- What moves from a machine to another.
use Rattle.std.specs.Prelude.{ℕ, ◌/◌, List, length}
use Rattle.std.specs.declared.option.Option.{Option}
use Rattle.dm_link.specs.declared.Pid.{Pid}
use Rattle.dm_message.specs.declared.Asker.{Asker}
use Rattle.dm_message.specs.declared.What.{What}
use Rattle.dm_message.specs.declared.What.TheVariants as what
use Rattle.dm_resident.specs.declared.Resident.{Resident}
use Rattle.dm_resident.specs.Packed.{state_of}
use Rattle.dm_resident.specs.Residents.{memory_of, moves_of, name_of}

-- its name, how often it has moved, its state bytes, its memory, and who waits to hear how the move ends
pub record Cargo : Type 0 where
  pub pid : Pid
  pub moves : ℕ
  pub state : List ℕ
  pub memory : List ℕ
  pub asker : Option Asker

-- what moves of a process or a server: all of it but its queue
abbrev pub cargo_of : Resident → Option Asker → Cargo
cargo_of r asker = record { pid = name_of r; moves = moves_of r; state = state_of r; memory = memory_of r; asker = asker }

-- the machine that it leaves asks the other: may it come
abbrev pub ask_for : Cargo → What
ask_for c = what.Ask c.pid (length c.memory / 256) c.moves (length c.state) c.asker
