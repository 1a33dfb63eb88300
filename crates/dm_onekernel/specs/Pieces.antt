-- Data moves: requests for pieces, their service where the area is, and their landing.
use Rattle.std.specs.Prelude.{ℕ, true, ◌+◌, ◌-◌, ◌==◌, ◌&&◌, nat_le, if◌then◌else◌, List, ◌++◌, length, take, drop}
use Rattle.std.specs.declared.option.Option.{Option}
use Rattle.std.specs.declared.option.Option.TheVariants.{None, Some}
use Rattle.dm_link.specs.declared.Pid.{Pid}
use Rattle.dm_message.specs.declared.MsgId.{MsgId}
use Rattle.dm_message.specs.Ids.{id_of}
use Rattle.dm_message.specs.Plain as what
use Rattle.dm_message.specs.Plain.{PlainMessage, PlainWhat}
use Rattle.dm_process.specs.declared.process.Direction.{Direction}
use Rattle.dm_process.specs.declared.process.Direction.TheVariants as direction
use Rattle.dm_onekernel.specs.declared.label.Reply.{Reply}
use Rattle.dm_onekernel.specs.declared.label.Reply.TheVariants as reply
use Rattle.dm_onekernel.specs.Codes.{reply_code}
use Rattle.dm_onekernel.specs.PlainProcess.{PlainProcess, PlainStatus, Ready, Moving, setting}

-- the length of a piece: 256 bytes, or what is left
abbrev pub piece_of : ℕ → ℕ
piece_of left = if nat_le left 256 then left else 256

-- a mover that has sent the request for a piece
pub record Requested : Type 0 where
  pub message : PlainMessage
  pub process : PlainProcess

-- what is asked for: bytes of the area, or that bytes of the mover's are written there
abbrev pub piece_request : PlainProcess → Direction → ℕ → ℕ → ℕ → PlainWhat
piece_request p direction.FromArea base own left = what.Read base (piece_of left)
piece_request p direction.IntoArea base own left = what.Write base (take (piece_of left) (drop own p.memory))

-- the request for the piece at `base` of the owner's memory and `own` of the mover's, where so many bytes are left with it
abbrev pub requests : Pid → PlainProcess → Direction → Pid → ℕ → ℕ → ℕ → Requested
requests pid p dir owner base own left =
    record {
      message = record { id = id_of pid p.sent; to = owner; sender = pid; what = piece_request p dir base own left };
      process = record p { status = Moving dir owner base own left p.sent; sent = p.sent + 1 };
    }

-- the name of the answer to a message
abbrev pub answer_id : MsgId → MsgId
answer_id id = record { from = id.from; n = id.n; answer = true }

-- what answers a message: under its name, from its receiver to its sender
abbrev pub answer_to : PlainMessage → PlainWhat → PlainMessage
answer_to m w = record { id = answer_id m.id; to = m.sender; sender = m.to; what = w }

-- the bytes at their place in the memory, and nowhere else
abbrev pub written_at : List ℕ → ℕ → List ℕ → List ℕ
written_at memory base bytes = take base memory ++ bytes ++ drop (base + length bytes) memory

-- the owner of an area after it served a request, and the answer
pub record Served : Type 0 where
  pub process : PlainProcess
  pub answer : PlainMessage

-- a piece of the owner's memory is read or written, where it lies within it; a stopped owner is served too
abbrev pub reads : PlainProcess → PlainMessage → ℕ → ℕ → Option Served
reads p m base len =
    if nat_le (base + len) (length p.memory) then Some (record { process = p; answer = answer_to m (what.Block (take len (drop base p.memory))) })
    else None

abbrev pub writes : PlainProcess → PlainMessage → ℕ → List ℕ → Option Served
writes p m base bytes =
    if nat_le (base + length bytes) (length p.memory) then Some (record { process = record p { memory = written_at p.memory base bytes }; answer = answer_to m what.Written })
    else None

-- what a mover does when an answer comes: the next request, or the end of the move
pub data Landed : Type 0 where
  Next : (message : PlainMessage) → (process : PlainProcess) → Landed
  Done : (reply : Reply) → (process : PlainProcess) → Landed

abbrev pub done : Reply → PlainProcess → Landed
done c p = Done c (record p { regs = setting p.regs 0 (reply_code c); status = Ready })

abbrev pub next_request : Requested → Landed
next_request r = Next r.message r.process

-- a piece of so many bytes has come: the move goes on behind it, or is done where nothing is left
abbrev pub move_goes_on : Pid → PlainProcess → Direction → Pid → ℕ → ℕ → ℕ → ℕ → Landed
move_goes_on pid p dir owner base own left piece =
    if left - piece == 0 then done reply.Done p
    else next_request (requests pid p dir owner (base + piece) (own + piece) (left - piece))

-- the answer to the pending request: bytes of the area stand in the mover's memory, bytes of the mover's in the area, or
-- the owner has ended
abbrev pub lands_what : Pid → PlainProcess → Direction → Pid → ℕ → ℕ → ℕ → PlainWhat → Option Landed
lands_what pid p direction.FromArea owner base own left (what.Block bytes) =
    if (length bytes == piece_of left) && nat_le (own + left) (length p.memory) then Some (move_goes_on pid (record p { memory = written_at p.memory own bytes }) direction.FromArea owner base own left (piece_of left))
    else None
lands_what pid p direction.IntoArea owner base own left what.Written =
    if nat_le (own + left) (length p.memory) then Some (move_goes_on pid p direction.IntoArea owner base own left (piece_of left)) else None
lands_what pid p dir owner base own left what.Gone = Some (done reply.Gone p)
lands_what pid p dir owner base own left w = None

-- a process whose move waits for this answer; a stopped one's pieces land too
abbrev pub lands : Pid → PlainProcess → PlainMessage → PlainStatus → Option Landed
lands pid p m (Moving dir owner base own left pending) =
    if m.id.n == pending then lands_what pid p dir owner base own left m.what else None
lands pid p m status = None
