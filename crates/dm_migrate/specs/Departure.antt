-- What is frozen where it leaves: a process or a server.
use Rattle.std.specs.Prelude.{ℕ, ◌+◌, ◌<◌, ◌≤◌, List, [], ◌∷◌, ◌++◌, length, map}
use Rattle.std.specs.declared.option.Option.{Option}
use Rattle.dm_link.specs.Places.{relocated}
use Rattle.dm_message.specs.declared.Asker.{Asker}
use Rattle.dm_message.specs.declared.Message.{Message}
use Rattle.dm_message.specs.declared.What.{What}
use Rattle.dm_message.specs.declared.What.TheVariants as what
use Rattle.dm_message.specs.Lawful.{IsServer}
use Rattle.dm_resident.specs.declared.Resident.{Resident}
use Rattle.dm_resident.specs.declared.Resident.TheVariants.{Process, Board, Manager}
use Rattle.dm_resident.specs.Lawful.{IsLawfulResident}
use Rattle.dm_resident.specs.Packed.{IsReadAgain, state_of}
use Rattle.dm_resident.specs.Residents.{blocks_of, moves_of, name_of, queue_of}

-- what leaves, as it was; the machine that it goes to; who waits to hear how the move ends; and the messages that came for it
-- meanwhile, in order
pub record Departure : Type 0 where
  pub resident : Resident
  pub to : ℕ
  pub asker : Option Asker
  pub held : List Message

-- it has just been frozen
abbrev pub frozen : Resident → ℕ → Option Asker → Departure
frozen r to asker = record { resident = r; to = to; asker = asker; held = [] }

-- one message more is held
abbrev pub with_held : Departure → Message → Departure
with_held d m = record d { held = d.held ++ m ∷ [] }

-- what its machine asks the other: may it come, of so many blocks and state bytes, which has moved so often
abbrev pub ask_of : Resident → Option Asker → What
ask_of r asker = what.Ask (name_of r) (blocks_of r) (moves_of r) (length (state_of r)) asker

-- a process bears no name of a server
abbrev pub IsNamed : Resident → Type 0
IsNamed (Process x) = ¬ IsServer x.pid
IsNamed (Board b) = Unit {0}
IsNamed (Manager g) = Unit {0}

-- what can move once more
pub record CanMove (r : Resident) : Type 0 where
  pub lawful : IsLawfulResident r
  pub moves : moves_of r < 4294967295
  pub again : IsReadAgain r
  pub some : 1 ≤ length (state_of r)
  pub most : length (state_of r) ≤ 4294967295

-- a message that goes on to where its receiver is after so many moves
abbrev pub sent_on : ℕ → ℕ → Message → Message
sent_on at moves m = record m { to = relocated at moves m.to }

-- what goes on to the other machine: the queue, then what was held
abbrev pub all_sent_on : Departure → List Message
all_sent_on d = map (sent_on d.to (moves_of d.resident + 1)) (queue_of d.resident ++ d.held)
