-- The room of a machine: slots for processes, and blocks of memory.
use Rattle.std.specs.Prelude.{ℕ, ◌+◌, ◌-◌, ◌≤◌, ◌<◌, nat_lt, nat_le, Bool, ◌&&◌, IsTrue}
use Rattle.dm_room.specs.declared.room.Lacks.{Lacks}

-- what the machine was given, and what is taken of it
pub record Taken : Type 0 where
  pub slots : ℕ
  pub blocks : ℕ
  pub taken_slots : ℕ
  pub taken_blocks : ℕ

-- no more is taken than there is
pub record IsWithin (room : Taken) : Type 0 where
  pub slots : room.taken_slots ≤ room.slots
  pub blocks : room.taken_blocks ≤ room.blocks

-- the slots that were given, less those taken
abbrev pub free_slots : Taken → ℕ
free_slots room = room.slots - room.taken_slots

-- the blocks that were given, less those taken
abbrev pub free_blocks : Taken → ℕ
free_blocks room = room.blocks - room.taken_blocks

-- all of it is free
abbrev pub nothing_taken : ℕ → ℕ → Taken
nothing_taken slots blocks = record { slots = slots; blocks = blocks; taken_slots = 0; taken_blocks = 0 }

-- a slot is free, and so many blocks
abbrev pub has_room : Taken → ℕ → Bool
has_room room blocks = nat_lt 0 (free_slots room) && nat_le blocks (free_blocks room)

abbrev pub HasRoom : Taken → ℕ → Type 0
HasRoom room blocks = IsTrue (has_room room blocks)

-- a slot is taken, and so many blocks
abbrev pub HasTaken : Taken → ℕ → Type 0
HasTaken room blocks = (0 < room.taken_slots) × (blocks ≤ room.taken_blocks)

-- one slot and these blocks more are taken
abbrev pub with_reserved : Taken → ℕ → Taken
with_reserved room blocks =
    record room { taken_slots = room.taken_slots + 1; taken_blocks = room.taken_blocks + blocks }

-- one slot and these blocks are free again
abbrev pub with_released : Taken → ℕ → Taken
with_released room blocks =
    record {
      slots = room.slots;
      blocks = room.blocks;
      taken_slots = room.taken_slots - 1;
      taken_blocks = room.taken_blocks - blocks;
    }

-- the two numbers of a refusal
abbrev pub lack : Taken → Lacks
lack room = record { free_slots = free_slots room; free_blocks = free_blocks room }
