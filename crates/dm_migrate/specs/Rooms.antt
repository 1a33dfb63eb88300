-- The room that what moves takes: a process a slot and its blocks; a server, which has no blocks, none.
use Rattle.std.specs.Prelude.{◌≡◌, ℕ, ◌==◌, Bool, false, ◌||◌, if◌then◌else◌}
use Rattle.dm_room.specs.Room.{HasTaken, Taken, has_room, with_released, with_reserved}

abbrev pub has_room_for : Taken → ℕ → Bool
has_room_for room blocks = (blocks == 0) || has_room room blocks

abbrev pub room_with : Taken → ℕ → Taken
room_with room blocks = if blocks == 0 then room else with_reserved room blocks

abbrev pub room_without : Taken → ℕ → Taken
room_without room blocks = if blocks == 0 then room else with_released room blocks

-- a process has its slot and its blocks
abbrev pub HasTakenBy : Taken → ℕ → Type 0
HasTakenBy room blocks = (blocks == 0) ≡ false → HasTaken room blocks
