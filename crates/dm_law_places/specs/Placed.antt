-- The kernel without machines, with places: processes and messages as machines have them, wherever they are; and when
-- that mirrors a kernel, a view and addresses.
use Rattle.std.specs.Prelude.{◌≡◌, ℕ, List, [], length, slice_get, option_map}
use Rattle.std.specs.declared.option.Option.{Option}
use Rattle.std.specs.declared.option.Option.TheVariants.{None, Some}
use Rattle.std.specs.Option.{IfSome}
use Rattle.dm_link.specs.declared.Pid.{Pid}
use Rattle.dm_link.specs.declared.Addr.{Addr}
use Rattle.dm_link.specs.declared.Link.{Link}
use Rattle.dm_link.specs.Names.{Place, place_of}
use Rattle.dm_linktable.specs.Slots.{link_at}
use Rattle.dm_message.specs.declared.Asker.{Asker}
use Rattle.dm_message.specs.declared.MsgId.{MsgId}
use Rattle.dm_message.specs.declared.Message.{Message}
use Rattle.dm_message.specs.declared.What.{What}
use Rattle.dm_message.specs.declared.What.TheVariants as what
use Rattle.dm_message.specs.Plain.{plain_message}
use Rattle.dm_process.specs.declared.process.Process.{Process}
use Rattle.dm_process.specs.declared.process.Status.{Status}
use Rattle.dm_process.specs.declared.process.Status.TheVariants as status
use Rattle.dm_migrate.specs.Asking.{manager_request}
use Rattle.dm_onekernel.specs.Boot.{manager, switchboard}
use Rattle.dm_onekernel.specs.Kernel.{MoveNote, OneKernel}
use Rattle.dm_onekernel.specs.Options.{bind}
use Rattle.dm_onekernel.specs.Plain.{plain_process}
use Rattle.dm_onekernel.specs.Step as kernel
use Rattle.dm_switchboard.specs.Board.{Board, Named, plain_board}
use Rattle.dm_procman.specs.declared.pending.Pending.{Pending}
use Rattle.dm_procman.specs.Managing.{Managing, plain_manager}
use Rattle.dm_procman.specs.Taking.{child_address, pending_request}
use Rattle.dm_law_rule.specs.View.{View}
use Rattle.dm_law_rule.specs.Addresses.{Addresses, Slot, Owner, Receiver, Sender, Enclosed, Child, Name, Answer, AskedBy, ToBoard}

pub record Placed : Type 0 where
  -- the processes that are alive; whichever messages wait for them
  pub processes : Pid → Option Process
  -- the messages that nobody has got yet, those of machines' kernels too
  pub bag : MsgId → Option Message
  -- who waits to hear how the move of a process ends, if somebody asked for it; and whose move each request is
  pub notes : Pid → Option Asker
  pub noted : MsgId → Option Pid
  pub board : Board
  pub manager : Managing

-- the other side of a data move
abbrev pub owner_at : Status → Option Addr
owner_at (status.Moving dir owner base own left pending) = Some owner
owner_at s = None

-- the links that a message encloses; messages of other kinds have none
abbrev pub enclosed : What → List Link
enclosed (what.User code channel body links) = links.items
enclosed (what.Create image links) = links.items
enclosed w = []

-- a process under its name: as often moved as the lines say, and each of its addresses leads where they say
pub record MirrorsProcess (v : View) (a : Addresses) (p : Pid) (x : Process) : Type 0 where
  pub pid : x.pid ≡ p
  pub moves : x.moves ≡ v.moves p
  pub slots : (k : ℕ) (w : Link) → link_at x.table k ≡ Some w → a (Slot p k) ≡ place_of w.addr
  pub owner : (o : Addr) → owner_at x.status ≡ Some o → a (Owner p) ≡ place_of o

-- a message under its name
pub record MirrorsMessage (a : Addresses) (i : MsgId) (m : Message) : Type 0 where
  pub id : m.id ≡ i
  pub receiver : a (Receiver i) ≡ place_of m.to
  pub sender : a (Sender i) ≡ place_of m.sender
  pub enclosed : (k : ℕ) (w : Link) → slice_get (enclosed m.what) k ≡ Some w → a (Enclosed i k) ≡ place_of w.addr

-- who waits to hear, without places
abbrev pub plain_note : Asker → MoveNote
plain_note k = record { id = manager_request k; asker = k.addr.pid }

-- the link for the answer to a request names this place, if there is one
abbrev pub AnswerNames : Option Link → Place → Type 0
AnswerNames o place = IfSome o (λ (l : Link). place ≡ place_of l.addr)

-- without places it is the kernel without machines
pub record MirrorsKernel (s : OneKernel) (l : Placed) : Type 0 where
  pub processes : (p : Pid) → kernel.alive (s.processes p) ≡ option_map plain_process (l.processes p)
  -- a message that has a plain meaning is one of the kernel's; the others are those that machines' kernels send themselves
  pub bag : (i : MsgId) → bind (l.bag i) plain_message ≡ s.bag i
  pub notes : (p : Pid) → option_map plain_note (l.notes p) ≡ s.notes p
  pub noted : (i : MsgId) → l.noted i ≡ s.noted i
  pub board : plain_board l.board ≡ s.switchboard
  pub manager : plain_manager l.manager ≡ s.manager
  pub machines : l.manager.machines ≡ s.machines
  pub images : l.manager.images ≡ length s.images
  -- where the manager knows the switchboard to be is an address of it
  pub to_board : l.manager.board.pid ≡ switchboard

-- its places are the addresses
pub record MirrorsPlaces (v : View) (a : Addresses) (l : Placed) : Type 0 where
  pub process : (p : Pid) (x : Process) → l.processes p ≡ Some x → MirrorsProcess v a p x
  pub message : (i : MsgId) (m : Message) → l.bag i ≡ Some m → MirrorsMessage a i m
  pub name : (n : ℕ) (k : Named) → slice_get l.board.names n ≡ Some k → a (Name n) ≡ place_of k.link.addr
  -- children count from 1
  pub child : (n : ℕ) (c : Addr) → child_address l.manager.children n ≡ Some c → a (Child n) ≡ place_of c
  pub answer : (n : ℕ) (r : Pending) → pending_request n l.manager.pending ≡ Some r → AnswerNames r.answer (a (Answer n))
  pub asker : (p : Pid) (k : Asker) → l.notes p ≡ Some k → a (AskedBy p) ≡ place_of k.addr
  pub board : a ToBoard ≡ place_of l.manager.board
  -- the servers have moved as often as the lines say
  pub board_moves : l.board.moves ≡ v.moves switchboard
  pub manager_moves : l.manager.moves ≡ v.moves manager

pub record Mirrors (s : OneKernel) (v : View) (a : Addresses) (l : Placed) : Type 0 where
  pub plain : MirrorsKernel s l
  pub places : MirrorsPlaces v a l
