-- What comes, piece by piece: a process or a server.
use Rattle.std.specs.Prelude.{◌≡◌, ℕ, ◌+◌, ◌*◌, ◌<◌, ◌==◌, Bool, true, false, not, nat_lt, if◌then◌else◌, List, [], ◌∷◌, ◌++◌, length, map, option_map, take}
use Rattle.std.specs.declared.option.Option.{Option}
use Rattle.std.specs.declared.option.Option.TheVariants.{None, Some}
use Rattle.std.specs.declared.result.Result.{Result}
use Rattle.std.specs.declared.result.Result.TheVariants.{Ok, Err}
use Rattle.dm_link.specs.declared.Pid.{Pid}
use Rattle.dm_message.specs.declared.Asker.{Asker}
use Rattle.dm_message.specs.declared.Message.{Message}
use Rattle.dm_message.specs.declared.What.{What}
use Rattle.dm_message.specs.declared.What.TheVariants as what
use Rattle.dm_process.specs.declared.process.Process.{Process}
use Rattle.dm_statebytes.specs.declared.StateBytesError.{StateBytesError}
use Rattle.dm_statebytes.specs.declared.Shell.{Shell}
use Rattle.dm_statebytes.specs.Shell.{shell_of_bytes}
use Rattle.dm_link.specs.Names.{pid_eq}
use Rattle.dm_onekernel.specs.Boot.{switchboard}
use Rattle.dm_switchboard.specs.Board.{Board}
use Rattle.dm_switchboard.specs.Packed.{board_of_bytes}
use Rattle.dm_procman.specs.Managing.{Managing}
use Rattle.dm_procman.specs.Packed.{manager_of_bytes}
use Rattle.dm_resident.specs.declared.Resident.{Resident}
use Rattle.dm_resident.specs.declared.Resident.TheVariants as resident
use Rattle.dm_resident.specs.Residents.{moved}
use Rattle.dm_migrate.specs.declared.arriving.Wanted.{Wanted}
use Rattle.dm_migrate.specs.declared.arriving.Wanted.TheVariants.{Chunk, Block, Nothing}
use Rattle.dm_migrate.specs.Departure.{sent_on}
use Rattle.dm_migrate.specs.Pieces.{HasChunk, chunk_bytes, is_last}

-- its name; the machine that it comes from; what that one told of it, and how large a process's tables are here; the pieces that have come,
-- in order; the piece that is asked for; and the messages that came for it meanwhile, in order
pub record Arrival : Type 0 where
  pub pid : Pid
  pub source : ℕ
  pub blocks : ℕ
  pub moves : ℕ
  pub size : ℕ
  pub asker : Option Asker
  pub cap : ℕ
  pub state : List ℕ
  pub memory : List ℕ
  pub wanted : Wanted
  pub held : List Message

-- nothing has come yet
abbrev pub expected : Pid → ℕ → ℕ → ℕ → ℕ → Option Asker → ℕ → Arrival
expected p source blocks moves size asker cap =
    record {
      pid = p;
      source = source;
      blocks = blocks;
      moves = moves;
      size = size;
      asker = asker;
      cap = cap;
      state = [];
      memory = [];
      wanted = Chunk 0;
      held = [];
    }

-- it comes from this machine, and from no other
abbrev pub comes_from : Arrival → ℕ → Bool
comes_from a machine = machine == a.source

-- one message more is held
abbrev pub with_held : Arrival → Message → Arrival
with_held a m = record a { held = a.held ++ m ∷ [] }

-- all of it has come
abbrev pub is_whole : Wanted → Bool
is_whole (Chunk k) = false
is_whole (Block k) = false
is_whole Nothing = true

-- what was held goes back to the machine that it comes from, where it has moved as often as before
abbrev pub all_sent_back : Arrival → List Message
all_sent_back a = map (sent_on a.source a.moves) a.held

-- the message that asks for a piece, or says that all has come
abbrev pub pull : Pid → Wanted → What
pull p (Chunk k) = what.PullState p k
pull p (Block k) = what.PullBlock p k
pull p Nothing = what.AllTaken p

-- the state bytes that have come
abbrev pub state_come : Wanted → List ℕ → List ℕ
state_come (Chunk k) state = take (512 * k) state
state_come wanted state = state

-- the memory that has come
abbrev pub memory_come : Wanted → List ℕ → List ℕ
memory_come (Chunk k) memory = []
memory_come (Block k) memory = take (256 * k) memory
memory_come Nothing memory = memory

-- a server has no memory, and a process has some
abbrev pub is_process_coming : Arrival → Bool
is_process_coming a = not (a.blocks == 0)

-- the state bytes are of a process of this name, size and count of moves
pub record IsShellFor (a : Arrival) (state : List ℕ) : Type 0 where
  pub shell : Shell
  pub read : shell_of_bytes state a.cap ≡ Ok shell
  pub pid : shell.pid ≡ a.pid
  pub blocks : shell.blocks ≡ a.blocks
  pub moves : shell.moves ≡ a.moves

-- or they are of this server, of whatever system, and it can move once more
pub record IsServerState (p : Pid) (state : List ℕ) : Type 0 where
  pub board : pid_eq p switchboard ≡ true → (b : Board) × (board_of_bytes state ≡ Ok b) × (b.moves < 4294967295)
  pub manager : pid_eq p switchboard ≡ false → (machines images : ℕ) → (g : Managing) × (manager_of_bytes machines images state ≡ Ok g) × (g.moves < 4294967295)

-- the state bytes are of what comes
pub record IsStateFor (a : Arrival) (state : List ℕ) : Type 0 where
  pub size : length state ≡ a.size
  pub process : is_process_coming a ≡ true → IsShellFor a state
  pub server : is_process_coming a ≡ false → IsServerState a.pid state

-- this chunk is asked for: with those before it, it is a beginning of such state bytes, and all of them where it is the last
pub record IsNextChunk (a : Arrival) (p : Pid) (k : ℕ) (ends : Bool) (bytes : List ℕ) : Type 0 where
  pub pid : p ≡ a.pid
  pub wanted : a.wanted ≡ Chunk k
  pub whole : List ℕ
  pub state : IsStateFor a whole
  pub number : HasChunk whole k
  pub before : a.state ≡ take (512 * k) whole
  pub here : bytes ≡ chunk_bytes whole k
  pub last : ends ≡ is_last whole k

-- this piece is asked for
abbrev pub IsNextPiece : Arrival → What → Type 0
IsNextPiece a (what.State p k last bytes) = IsNextChunk a p k last bytes.items
IsNextPiece a (what.Memory p k bytes) = (p ≡ a.pid) × (a.wanted ≡ Block k)
IsNextPiece a _ = ⊥

-- behind the last chunk the first block is asked for, where there are blocks
abbrev pub after_chunk : ℕ → Bool → ℕ → Wanted
after_chunk k true blocks = if blocks == 0 then Nothing else Block 0
after_chunk k false blocks = Chunk (k + 1)

abbrev pub after_block : ℕ → ℕ → Wanted
after_block k blocks = if nat_lt (k + 1) blocks then Block (k + 1) else Nothing

-- one chunk more has come, and one block more
abbrev pub with_chunk : Arrival → ℕ → Bool → List ℕ → Arrival
with_chunk a k last bytes = record a { state = a.state ++ bytes; wanted = after_chunk k last a.blocks }

abbrev pub with_block : Arrival → ℕ → List ℕ → Arrival
with_block a k bytes = record a { memory = a.memory ++ bytes; wanted = after_block k a.blocks }

-- one piece more has come; nothing else is a piece
abbrev pub with_piece : Arrival → What → Option Arrival
with_piece a (what.State p k last bytes) = Some (with_chunk a k last bytes.items)
with_piece a (what.Memory p k bytes) = Some (with_block a k bytes)
with_piece a _ = None

-- the process that has come, with an empty queue; it has moved once more
abbrev pub revived : Shell → List ℕ → Process
revived s memory =
    record {
      pid = s.pid;
      regs = s.regs;
      memory = memory;
      table = s.table;
      status = s.status;
      stopped = s.stopped;
      sent = s.sent;
      moves = s.moves + 1;
      queue = [];
    }

abbrev pub revived_from : Result Shell StateBytesError → List ℕ → Option Process
revived_from (Ok s) memory = Some (revived s memory)
revived_from (Err bad) memory = None

-- a server that has come has moved once more, too
abbrev pub moved_board : Result Board StateBytesError → Option Resident
moved_board (Ok b) = Some (moved (resident.Board b))
moved_board (Err bad) = None

abbrev pub moved_manager : Result Managing StateBytesError → Option Resident
moved_manager (Ok g) = Some (moved (resident.Manager g))
moved_manager (Err bad) = None

-- the server that these bytes are of, in a system of so many machines and images
abbrev pub server_of_bytes : ℕ → ℕ → Pid → List ℕ → Option Resident
server_of_bytes machines images p state = if pid_eq p switchboard then moved_board (board_of_bytes state) else moved_manager (manager_of_bytes machines images state)

-- what all the pieces are of
abbrev pub restarted : ℕ → ℕ → Arrival → Option Resident
restarted machines images a = if is_process_coming a then option_map resident.Process (revived_from (shell_of_bytes a.state a.cap) a.memory) else server_of_bytes machines images a.pid a.state
