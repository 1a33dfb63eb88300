-- What the one message of a migration that is under way carries: the ask, a piece that is asked for, or a piece; and what is left over
-- of a migration that was called off.
use Rattle.std.specs.Prelude.{◌≡◌, ⊤, ℕ, ◌+◌, ◌/◌, ◌≤◌, Bool, true, false, not, ◌||◌, if◌then◌else◌, length, option_map}
use Rattle.std.specs.declared.option.Option.{Option}
use Rattle.std.specs.declared.option.Option.TheVariants.{None, Some}
use Rattle.dm_link.specs.declared.Pid.{Pid}
use Rattle.dm_linkupdate.specs.Notice.{kernel_at}
use Rattle.dm_message.specs.declared.Message.{Message}
use Rattle.dm_message.specs.declared.MsgId.{MsgId}
use Rattle.dm_message.specs.declared.What.{What}
use Rattle.dm_message.specs.declared.What.TheVariants as what
use Rattle.dm_records.specs.Records.{incoming_of}
use Rattle.dm_migrate.specs.declared.arriving.Wanted.{Wanted}
use Rattle.dm_migrate.specs.declared.arriving.Wanted.TheVariants.{Chunk, Block, Nothing}
use Rattle.dm_migrate.specs.Arrival.{Arrival}
use Rattle.dm_migrate.specs.Cargo.{Cargo, ask_for, cargo_of}
use Rattle.dm_resident.specs.declared.Resident.{Resident}
use Rattle.dm_resident.specs.declared.Resident.TheVariants as resident
use Rattle.dm_link.specs.Names.{pid_eq}
use Rattle.dm_onekernel.specs.Boot.{switchboard, manager}
use Rattle.dm_migrate.specs.Pieces.{HasBlock, HasChunk, block_of, chunk_of}
use Rattle.dm_kernel.specs.May.{IsSuch}
use Rattle.dm_kernel.specs.State as machine
use Rattle.dm_law_rule.specs.Phases.{is_between, tells_onward}
use Rattle.dm_law_rule.specs.Rule.{is_waited_from}
use Rattle.dm_law_rule.specs.Spots.{Spot, standing}
use Rattle.dm_law_rule.specs.View.{Of, Told, View}
use Rattle.dm_law_places.specs.Placed.{Placed}
use Rattle.dm_message.specs.Sorts.{Sort, sort_of, pulls_piece, brings_piece}

-- this is what is asked for once so many pieces were, first the chunks of the state and then the blocks, and it is there
abbrev pub IsAsked : Cargo → ℕ → Wanted → Type 0
IsAsked c n (Chunk k) = (n ≡ k + 1) × HasChunk c.state k
IsAsked c n (Block k) = (n ≡ (length c.state + 511) / 512 + k + 1) × HasBlock c.memory k
IsAsked c n Nothing = ⊤

-- where it comes to, this is asked for
abbrev pub Wants : Option Arrival → Wanted → Type 0
Wants None w = ⊥
Wants (Some a) w = a.wanted ≡ w

-- what the message carries, where this is what moves and so many pieces of it were asked for
abbrev pub Carries : Pid → Cargo → ℕ → Option Arrival → What → Type 0
Carries p c n a (what.Ask pid blocks moves size asker) = what.Ask pid blocks moves size asker ≡ ask_for c
Carries p c n a (what.Refuse pid slots blocks) = pid ≡ p
Carries p c n a (what.PullState pid chunk) = (pid ≡ p) × IsAsked c n (Chunk chunk) × Wants a (Chunk chunk)
Carries p c n a (what.State pid chunk last bytes) = (what.State pid chunk last bytes ≡ chunk_of c.pid c.state chunk) × IsAsked c n (Chunk chunk) × Wants a (Chunk chunk)
Carries p c n a (what.PullBlock pid block) = (pid ≡ p) × IsAsked c n (Block block) × Wants a (Block block)
Carries p c n a (what.Memory pid block bytes) = (what.Memory pid block bytes ≡ block_of c.pid c.memory block) × IsAsked c n (Block block) × Wants a (Block block)
Carries p c n a (what.AllTaken pid) = (pid ≡ p) × Wants a Nothing
Carries p c n a (what.Restart pid) = (pid ≡ p) × Wants a Nothing
Carries p c n a (what.CallOff pid) = pid ≡ p
Carries p c n a w = ⊥

-- the machine that the process comes to: the source's messages go there, and the others come from there
abbrev pub destination_of : MsgId → Told → ℕ
destination_of i t = if tells_onward (sort_of t.kind) then t.receiver.home else i.from.home

-- what is where a process or a server is, as the kernel with places has it
abbrev pub resident_at : Placed → Pid → Option Resident
resident_at l p = if pid_eq p switchboard then Some (resident.Board l.board) else if pid_eq p manager then Some (resident.Manager l.manager) else option_map resident.Process (l.processes p)

-- what moves where it does
abbrev pub cargo_at : Placed → Pid → Option Cargo
cargo_at l p = option_map (λ (r : Resident). cargo_of r (l.notes p)) (resident_at l p)

-- what each machine knows of each process
abbrev pub AllRecords : Type 0
AllRecords = ℕ → Pid → Option machine.KernelKnown

pub record TokenStands (v : View) (l : Placed) (records : AllRecords) (p : Pid) (i : MsgId) (t : Told) : Type 0 where
  pub cargo : Cargo
  pub there : cargo_at l p ≡ Some cargo
  pub message : Message
  pub is : l.bag i ≡ Some message
  -- it comes from a kernel
  pub sender : message.sender ≡ kernel_at i.from.home
  pub carries : Carries p cargo (v.asked p) (incoming_of (records (destination_of i t) p)) message.what

-- what asks for a piece, and the piece
abbrev pub is_piece : Sort → Bool
is_piece s = pulls_piece s || brings_piece s

-- the machine that the process comes from
abbrev pub source_of : MsgId → Told → ℕ
source_of i t = if tells_onward (sort_of t.kind) then i.from.home else t.receiver.home

-- where a piece is awaited, or no piece is meant; not so exactly of what is left over
abbrev pub is_due_piece : View → Pid → MsgId → Told → Bool
is_due_piece v p i t = not (is_piece (sort_of t.kind)) || is_waited_from (source_of i t) (v.known (destination_of i t) p)

-- what is left over asks for a piece that there is, or brings any
abbrev pub LeftCarries : Pid → Option Cargo → What → Type 0
LeftCarries p c (what.PullState pid chunk) = (pid ≡ p) × IsSuch (λ x. HasChunk x.state chunk) c
LeftCarries p c (what.PullBlock pid block) = (pid ≡ p) × IsSuch (λ x. HasBlock x.memory block) c
LeftCarries p c (what.State pid chunk last bytes) = pid ≡ p
LeftCarries p c (what.Memory pid block bytes) = pid ≡ p
LeftCarries p c w = ⊥

pub record LeftStands (l : Placed) (p : Pid) (i : MsgId) : Type 0 where
  pub message : Message
  pub is : l.bag i ≡ Some message
  pub sender : message.sender ≡ kernel_at i.from.home
  pub carries : LeftCarries p (cargo_at l p) message.what

abbrev pub TokensStand : View → Placed → AllRecords → Type 0
TokensStand v l records = (p : Pid) (i : MsgId) (t : Told) (z : Spot) → v.told i ≡ Some t → is_between t.kind ≡ true → t.about ≡ Of p → 1 ≤ standing v i z
    → (is_due_piece v p i t ≡ true → TokenStands v l records p i t) × (is_due_piece v p i t ≡ false → LeftStands l p i)
