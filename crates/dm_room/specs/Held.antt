-- The reservations of a machine that aren't released yet, over any reserving and releasing.
use Rattle.std.specs.Prelude.{◌≡◌, ℕ, ◌+◌, Bool, true, false, List, [], ◌∷◌, ◌++◌, length, sum, remove, slice_get, Option, Some, None}
use Rattle.dm_room.specs.Room.{Taken, HasTaken, IsWithin, has_room, free_slots, free_blocks, nothing_taken, with_reserved, with_released}

-- the room, and the blocks of each reservation that isn't released yet
pub record Use : Type 0 where
  pub room : Taken
  pub held : List ℕ

-- so many blocks are asked for; the reservation at this place is released
pub data Event : Type 0 where
  Reserve : (blocks : ℕ) → Event
  Release : (place : ℕ) → Event

abbrev pub start : ℕ → ℕ → Use
start slots blocks = record { room = nothing_taken slots blocks; held = [] }

-- the room is reserved, where there is room
abbrev pub reserves : Use → ℕ → Bool → Use
reserves u blocks true = record { room = with_reserved u.room blocks; held = u.held ++ blocks ∷ [] }
reserves u blocks false = u

-- the reservation, if there is one, is released
abbrev pub releases : Use → ℕ → Option ℕ → Use
releases u place None = u
releases u place (Some blocks) = record { room = with_released u.room blocks; held = remove u.held place }

abbrev pub happens : Use → Event → Use
happens u (Reserve blocks) = reserves u blocks (has_room u.room blocks)
happens u (Release place) = releases u place (slice_get u.held place)

-- a whole list of them
abbrev pub run : List Event → Use → Use
run [] u = u
run (e ∷ es) u = run es (happens u e)

-- the room is what was given, what is taken is what was reserved and not released and at most what was given, so that free
-- and taken add up to it, and each reservation may be released
pub record IsExact (slots blocks : ℕ) (u : Use) : Type 0 where
  pub same_slots : u.room.slots ≡ slots
  pub same_blocks : u.room.blocks ≡ blocks
  pub within : IsWithin u.room
  pub all_slots : free_slots u.room + length u.held ≡ slots
  pub all_blocks : free_blocks u.room + sum u.held ≡ blocks
  pub taken_slots : u.room.taken_slots ≡ length u.held
  pub taken_blocks : u.room.taken_blocks ≡ sum u.held
  pub releasable : (place b : ℕ) → slice_get u.held place ≡ Some b → HasTaken u.room b
