-- A process that moves data: the one message of its move says what its status says, and no other message is of a living process's move.
use Rattle.std.specs.Prelude.{◌≡◌, ◌⊎◌, ℕ, ◌+◌, Bool, true, false, List, length}
use Rattle.std.specs.declared.option.Option.TheVariants.{Some}
use Rattle.dm_link.specs.declared.Pid.{Pid}
use Rattle.dm_message.specs.declared.MsgId.{MsgId}
use Rattle.dm_message.specs.declared.kind.MessageKind.{MessageKind}
use Rattle.dm_message.specs.Sorts.{Sort, sort_of}
use Rattle.dm_message.specs.Sorts as sort
use Rattle.dm_message.specs.Ids.{id_of}
use Rattle.dm_message.specs.Kinds.{plain_kind}
use Rattle.dm_message.specs.Plain as what
use Rattle.dm_message.specs.Plain.{PlainMessage, PlainWhat}
use Rattle.dm_process.specs.declared.process.Direction.{Direction}
use Rattle.dm_process.specs.declared.process.Direction.TheVariants as direction
use Rattle.dm_onekernel.specs.declared.boot.Boot.{Boot}
use Rattle.dm_onekernel.specs.declared.label.Why.{Why}
use Rattle.dm_onekernel.specs.Boot.{IsValid}
use Rattle.dm_onekernel.specs.Kernel.{Alive, Ended, OneKernel}
use Rattle.dm_onekernel.specs.Pieces.{piece_of, answer_id}
use Rattle.dm_onekernel.specs.PlainProcess.{PlainProcess, Moving}
use Rattle.dm_schedule.specs.declared.Step.{Step}
use Rattle.dm_law_rule.specs.Laws.{Leads}
use Rattle.dm_law_rule.specs.Point.{Point, first_point}
use Rattle.dm_law_one.specs.Laws.{in_bag}

-- a request for a piece of a data move
abbrev pub is_asked : Sort → Bool
is_asked sort.PieceAsked = true
is_asked s = false

abbrev pub asks_piece : MessageKind → Bool
asks_piece k = is_asked (sort_of k)

-- an answer to such a request
abbrev pub is_answered : Sort → Bool
is_answered sort.PieceAnswered = true
is_answered s = false

abbrev pub answers_piece : MessageKind → Bool
answers_piece k = is_answered (sort_of k)

-- bytes to be written at this place, as many as the next piece has
pub record Writes (base left : ℕ) (w : PlainWhat) : Type 0 where
  pub bytes : List ℕ
  pub is : w ≡ what.Write base bytes
  pub size : length bytes ≡ piece_of left

-- bytes that were read, as many as the next piece has
pub record Reads (left : ℕ) (w : PlainWhat) : Type 0 where
  pub bytes : List ℕ
  pub is : w ≡ what.Block bytes
  pub size : length bytes ≡ piece_of left

-- what is asked for, of an area or into it: the next piece, at this place, where so many bytes are left
abbrev pub AsksFor : Direction → ℕ → ℕ → PlainWhat → Type 0
AsksFor direction.FromArea base left w = w ≡ what.Read base (piece_of left)
AsksFor direction.IntoArea base left w = Writes base left w

-- what answers it: the bytes of the piece, or that they were written, or that the owner has ended
abbrev pub AnswersFor : Direction → ℕ → PlainWhat → Type 0
AnswersFor direction.FromArea left w = Reads left w ⊎ (w ≡ what.Gone)
AnswersFor direction.IntoArea left w = (w ≡ what.Written) ⊎ (w ≡ what.Gone)

-- the request of a process for the next piece, to the owner of the area
pub record IsRequest (p : Pid) (dir : Direction) (owner : Pid) (base left : ℕ) (m : PlainMessage) : Type 0 where
  pub sender : m.sender ≡ p
  pub receiver : m.to ≡ owner
  pub asks : AsksFor dir base left m.what

-- a process has ended
abbrev pub HasEnded : OneKernel → Pid → Type 0
HasEnded s p = (because : Why) × (s.processes p ≡ Some (Ended because))

-- the owner's answer to the process; it says rightly that the owner has ended
pub record IsAnswer (s : OneKernel) (p : Pid) (dir : Direction) (owner : Pid) (left : ℕ) (m : PlainMessage) : Type 0 where
  pub sender : m.sender ≡ owner
  pub receiver : m.to ≡ p
  pub answers : AnswersFor dir left m.what
  pub gone : m.what ≡ what.Gone → HasEnded s owner

-- under the number that a process waits for there is one message in the bag, its request or the answer, for the piece that is next
pub record HasPiece (s : OneKernel) (p : Pid) (dir : Direction) (owner : Pid) (base left pending : ℕ) : Type 0 where
  pub one : in_bag (s.bag (id_of p pending)) + in_bag (s.bag (answer_id (id_of p pending))) ≡ 1
  pub request : (m : PlainMessage) → s.bag (id_of p pending) ≡ Some m → IsRequest p dir owner base left m
  pub answer : (m : PlainMessage) → s.bag (answer_id (id_of p pending)) ≡ Some m → IsAnswer s p dir owner left m

-- a process moves data, and its request has this name
pub record Moves (p : Pid) (x : PlainProcess) (request : MsgId) : Type 0 where
  pub dir : Direction
  pub owner : Pid
  pub base : ℕ
  pub own : ℕ
  pub left : ℕ
  pub pending : ℕ
  pub status : x.status ≡ Moving dir owner base own left pending
  pub name : request ≡ id_of p pending

-- each living process that moves data has its message; each request whose sender lives is the one that the sender waits for, and
-- each answer whose receiver lives answers the one that the receiver waits for
pub record MoversHaveTheirs (s : OneKernel) : Type 0 where
  pub has : (p : Pid) (x : PlainProcess) (dir : Direction) (owner : Pid) (base own left pending : ℕ) → s.processes p ≡ Some (Alive x) → x.status ≡ Moving dir owner base own left pending → HasPiece s p dir owner base left pending
  pub requests : (i : MsgId) (m : PlainMessage) (x : PlainProcess) → s.bag i ≡ Some m → asks_piece (plain_kind m.what) ≡ true → s.processes m.sender ≡ Some (Alive x) → Moves m.sender x i
  pub answers : (i : MsgId) (m : PlainMessage) (x : PlainProcess) → s.bag i ≡ Some m → answers_piece (plain_kind m.what) ≡ true → s.processes m.to ≡ Some (Alive x) → (r : MsgId) × (i ≡ answer_id r) × Moves m.to x r

-- wherever the rule leads, it is so
abbrev pub MoversHavePieces : Type 0
MoversHavePieces = (b : Boot) (es : List Step) (pt : Point) → IsValid b → Leads b (first_point b) es pt → MoversHaveTheirs pt.kernel
