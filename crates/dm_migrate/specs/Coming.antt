-- How what arrives is kept: with room for all of it, filled from the front.
use Rattle.std.specs.Prelude.{◌⊎◌, ◌≡◌, ℕ, ◌*◌, ◌/◌, ◌<◌, ◌≤◌, List, [], length, replicate}
use Rattle.std.specs.declared.option.Option.{Option}
use Rattle.std.specs.declared.option.Option.TheVariants.{None, Some}
use Rattle.dm_migrate.specs.declared.arriving.Body.{Body}
use Rattle.dm_link.specs.declared.Pid.{Pid}
use Rattle.dm_message.specs.declared.Asker.{Asker}
use Rattle.dm_message.specs.declared.Message.{Message}
use Rattle.dm_migrate.specs.declared.arriving.Wanted.{Wanted}
use Rattle.dm_migrate.specs.declared.arriving.Wanted.TheVariants.{Chunk, Block, Nothing}
use Rattle.dm_migrate.specs.Arrival.{Arrival, IsStateFor, memory_come, state_come}

-- as many state bytes, and as much memory, as there will be
pub record Parts : Type 0 where
  pub pid : Pid
  pub source : ℕ
  pub moves : ℕ
  pub asker : Option Asker
  pub cap : ℕ
  pub state : List ℕ
  pub memory : List ℕ
  pub wanted : Wanted
  pub held : List Message

-- the memory that there will be: a server has none
abbrev pub memory_in : Option Body → List ℕ
memory_in None = []
memory_in (Some b) = b.memory

-- what a process has beside its state bytes: at least one block, and a table that is empty yet
abbrev pub IsBody : ℕ → Body → Type 0
IsBody cap b = (1 ≤ length b.memory / 256) × (b.table ≡ replicate cap None)

-- what has come of these parts
abbrev pub come_of : Parts → Arrival
come_of a =
    record {
      pid = a.pid;
      source = a.source;
      blocks = length a.memory / 256;
      moves = a.moves;
      size = length a.state;
      asker = a.asker;
      cap = a.cap;
      state = state_come a.wanted a.state;
      memory = memory_come a.wanted a.memory;
      wanted = a.wanted;
      held = a.held;
    }

-- the piece that is asked for lies within what there will be, and all that comes before it has come
abbrev pub IsStage : Arrival → List ℕ → List ℕ → Wanted → Type 0
IsStage a state memory (Chunk k) = 512 * k ≤ length state
IsStage a state memory (Block k) = (256 * k < length memory) × IsStateFor a state
IsStage a state memory Nothing = IsStateFor a state

pub record IsComing (a : Parts) : Type 0 where
  pub cap : (a.cap ≡ 32) ⊎ (a.cap ≡ 128)
  pub moves : a.moves < 4294967295
  pub size : length a.state ≤ 4294967295
  pub whole : length a.memory ≡ 256 * (length a.memory / 256)
  pub most : length a.memory / 256 ≤ 256
  pub stage : IsStage (come_of a) a.state a.memory a.wanted
