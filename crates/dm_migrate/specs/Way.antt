-- The whole way of a process or a server, from the machine that it leaves to the one that it comes to.
use Rattle.std.specs.Prelude.{◌≡◌, ℕ, zero, suc, ◌+◌, ◌*◌, ◌/◌, ◌≤◌, nat_lt, if◌then◌else◌, List, [], length}
use Rattle.std.specs.declared.option.Option.{Option}
use Rattle.std.specs.declared.option.Option.TheVariants.{None, Some}
use Rattle.dm_message.specs.declared.Asker.{Asker}
use Rattle.dm_message.specs.declared.Message.{Message}
use Rattle.dm_message.specs.declared.What.{What}
use Rattle.dm_message.specs.declared.What.TheVariants as what
use Rattle.dm_resident.specs.declared.Resident.{Resident}
use Rattle.dm_resident.specs.declared.Resident.TheVariants.{Process, Board, Manager}
use Rattle.dm_resident.specs.Residents.{moved}
use Rattle.dm_room.specs.Room.{Taken}
use Rattle.dm_migrate.specs.declared.answer.Asked.TheVariants.{Accepted}
use Rattle.dm_migrate.specs.declared.arriving.Wanted.{Wanted}
use Rattle.dm_migrate.specs.declared.arriving.Wanted.TheVariants.{Chunk, Block, Nothing}
use Rattle.dm_migrate.specs.Answer.{Answers, IsAskToCome}
use Rattle.dm_migrate.specs.Arrival.{Arrival, IsNextPiece, IsStateFor, after_block, after_chunk, expected, memory_come, pull, restarted, state_come, with_piece}
use Rattle.dm_migrate.specs.Cargo.{Cargo, cargo_of}
use Rattle.dm_migrate.specs.Departure.{ask_of}
use Rattle.dm_migrate.specs.Pieces.{HasBlock, HasChunk, block_of, chunk_of, is_last}

-- what has come of it from a machine to one whose tables have so many slots, where this is asked for and these messages are held
abbrev pub coming : Cargo → ℕ → ℕ → List Message → Wanted → Arrival
coming c source cap held wanted =
    record {
      pid = c.pid;
      source = source;
      blocks = length c.memory / 256;
      moves = c.moves;
      size = length c.state;
      asker = c.asker;
      cap = cap;
      state = state_come wanted c.state;
      memory = memory_come wanted c.memory;
      wanted = wanted;
      held = held;
    }

-- such a machine reads its state bytes as what they are of, and its memory is one of whole blocks, or none
pub record CanCome (c : Cargo) (cap : ℕ) : Type 0 where
  pub state : (source : ℕ) → IsStateFor (coming c source cap [] Nothing) c.state
  pub some : 1 ≤ length c.state
  pub whole : length c.memory ≡ 256 * (length c.memory / 256)

-- it is of such a system: a process has a table of so many slots, and the manager knows of so many machines and images
abbrev pub IsOfSystem : ℕ → ℕ → ℕ → Resident → Type 0
IsOfSystem cap machines images (Process x) = cap ≡ length x.table
IsOfSystem cap machines images (Board b) = Unit {0}
IsOfSystem cap machines images (Manager g) = (g.machines ≡ machines) × (g.images ≡ images)

-- what is asked for is there
abbrev pub HasPiece : Cargo → Wanted → Type 0
HasPiece c (Chunk k) = HasChunk c.state k
HasPiece c (Block k) = HasBlock c.memory k
HasPiece c Nothing = Unit {0}

-- each piece is the one that is asked for once those before it have come, and then another is, or all has come
pub record ComesByPieces (c : Cargo) (source cap : ℕ) (held : List Message) : Type 0 where
  pub begins : coming c source cap held (Chunk 0) ≡ record (expected c.pid source (length c.memory / 256) c.moves (length c.state) c.asker cap) { held = held }
  pub first : HasPiece c (Chunk 0)
  pub chunk_asked : (k : ℕ) → HasChunk c.state k → IsNextPiece (coming c source cap held (Chunk k)) (chunk_of c.pid c.state k)
  pub chunk_taken : (k : ℕ) → HasChunk c.state k → with_piece (coming c source cap held (Chunk k)) (chunk_of c.pid c.state k) ≡ Some (coming c source cap held (after_chunk k (is_last c.state k) (length c.memory / 256)))
  pub after_chunk : (k : ℕ) → HasChunk c.state k → HasPiece c (after_chunk k (is_last c.state k) (length c.memory / 256))
  pub block_asked : (k : ℕ) → HasBlock c.memory k → IsNextPiece (coming c source cap held (Block k)) (block_of c.pid c.memory k)
  pub block_taken : (k : ℕ) → HasBlock c.memory k → with_piece (coming c source cap held (Block k)) (block_of c.pid c.memory k) ≡ Some (coming c source cap held (after_block k (length c.memory / 256)))
  pub after_block : (k : ℕ) → HasBlock c.memory k → HasPiece c (after_block k (length c.memory / 256))

-- and what has come in the end is what left
pub record ComesWhole (r : Resident) (source cap machines images : ℕ) (asker : Option Asker) (held : List Message) : Type 0 where
  pub pieces : ComesByPieces (cargo_of r asker) source cap held
  pub whole : restarted machines images (coming (cargo_of r asker) source cap held Nothing) ≡ Some (moved r)

-- the piece of what is frozen that a message asks for, if it asks for one and there is such a piece
abbrev pub piece_for : Cargo → What → Option What
piece_for c (what.PullState q k) = if nat_lt (512 * k) (length c.state) then Some (chunk_of c.pid c.state k) else None
piece_for c (what.PullBlock q k) = if nat_lt (256 * k) (length c.memory) then Some (block_of c.pid c.memory k) else None
piece_for c _ = None

-- each piece that is asked for comes and may be taken, so many of them; then the arriving machine says that all has come
abbrev pub Goes : Cargo → ℕ → Arrival → What → Arrival → Type 0
Goes c zero a asked end = (asked ≡ what.AllTaken c.pid) × (a ≡ end)
Goes c (suc n) a asked end =
    (piece : What) × (b : Arrival) × (piece_for c asked ≡ Some piece) × IsNextPiece a piece × (with_piece a piece ≡ Some b) × Goes c n b (pull b.pid b.wanted) end

-- how many pieces it has
abbrev pub count_of_pieces : Cargo → ℕ
count_of_pieces c = (length c.state + 511) / 512 + length c.memory / 256

-- where what is frozen may come, all its pieces in turn give it
pub record ArrivesWhole (r : Resident) (cap machines images : ℕ) (asker : Option Asker) : Type 0 where
  pub may_ask : IsAskToCome (ask_of r asker)
  pub arrives : (source : ℕ) (old new : Taken) (a : Arrival) (asked : What) → Answers (ask_of r asker) source cap old new (Accepted a asked)
      → (end : Arrival) × Goes (cargo_of r asker) (count_of_pieces (cargo_of r asker)) a asked end × (restarted machines images end ≡ Some (moved r))
