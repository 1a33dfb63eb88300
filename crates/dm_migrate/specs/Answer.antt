-- What a machine answers where a process or a server asks to come.
use Rattle.std.specs.Prelude.{◌≡◌, ℕ, ◌<◌, ◌≤◌, true, false}
use Rattle.std.specs.declared.option.Option.{Option}
use Rattle.dm_link.specs.declared.Pid.{Pid}
use Rattle.dm_message.specs.declared.Asker.{Asker}
use Rattle.dm_message.specs.declared.What.{What}
use Rattle.dm_message.specs.declared.What.TheVariants as what
use Rattle.dm_room.specs.Room.{Taken, free_blocks, free_slots, lack}
use Rattle.dm_migrate.specs.declared.answer.Asked.{Asked}
use Rattle.dm_migrate.specs.declared.answer.Asked.TheVariants.{Accepted, Refused, NoMemory}
use Rattle.dm_migrate.specs.Arrival.{expected}
use Rattle.dm_migrate.specs.Rooms.{has_room_for, room_with}

-- what can move once more asks
abbrev pub IsAskToCome : What → Type 0
IsAskToCome (what.Ask p blocks moves size asker) = (blocks ≤ 256) × (moves < 4294967295)
IsAskToCome _ = ⊥

-- it may come where there is room, which is reserved, and its first chunk is asked for; a process is refused where there is none,
-- with what is free; want of memory leaves the room
abbrev pub AnswersFor : Pid → ℕ → ℕ → ℕ → ℕ → Option Asker → ℕ → Taken → Taken → Asked → Type 0
AnswersFor p source blocks moves size asker cap old new (Accepted a w) =
    (has_room_for old blocks ≡ true) × (new ≡ room_with old blocks) × (a ≡ expected p source blocks moves size asker cap) × (w ≡ what.PullState p 0)
AnswersFor p source blocks moves size asker cap old new (Refused w lacks) =
    (has_room_for old blocks ≡ false) × (new ≡ old) × (lacks ≡ lack old) × (w ≡ what.Refuse p (free_slots old) (free_blocks old))
AnswersFor p source blocks moves size asker cap old new (NoMemory why) = (has_room_for old blocks ≡ true) × (new ≡ old)

-- the answer to an ask of a machine, on one whose tables have so many slots, and its room before and after
abbrev pub Answers : What → ℕ → ℕ → Taken → Taken → Asked → Type 0
Answers (what.Ask p blocks moves size asker) source cap old new answer = AnswersFor p source blocks moves size asker cap old new answer
Answers _ source cap old new answer = ⊥
