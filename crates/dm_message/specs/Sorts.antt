-- The kinds of message, a row a kind: the number, the word and the sort of each. What holds of some kinds is said of their sorts elsewhere, and what has no row there is of no such sort.
use Rattle.std.specs.Prelude.{ℕ, Bool, true, false, List, codes}
use Rattle.dm_message.specs.declared.kind.MessageKind.{MessageKind}
use Rattle.dm_message.specs.declared.kind.MessageKind.TheVariants as kind

-- what the kernels of two machines tell each other while a process moves from one, the source, to the other
pub data Passage : Type 0 where
  Ask : Passage
  Refuse : Passage
  PullState : Passage
  State : Passage
  PullBlock : Passage
  Memory : Passage
  AllTaken : Passage
  Restart : Passage
  CallOff : Passage

pub data Sort : Type 0 where
  -- from process to process
  Letter : Sort
  -- orders to the kernel of the receiver: to stop it or let it go on, and to end it
  Holds : Sort
  Kills : Sort
  -- a piece of a data move is asked for, or answered
  PieceAsked : Sort
  PieceAnswered : Sort
  -- a process is to be made; it was made, or not
  MakingAsked : Sort
  MakingAnswered : Sort
  -- a process is to move, as a process asks the manager, and the outcome
  MoveAsked : Sort
  MoveAnswered : Sort
  -- the manager's request to the kernel of a process that is to move
  Request : Sort
  -- where a process is
  Notice : Sort
  -- a step of a migration
  Between : (passage : Passage) → Sort
  -- a process has ended that another machine's kernel may know of
  Buries : Sort

-- each kind: its number in packets, its word in printed lines, and its sort
abbrev pub kind_row : MessageKind → ℕ × List ℕ × Sort
kind_row kind.User = (1, codes "user", Letter)
kind_row kind.Stop = (2, codes "stop", Holds)
kind_row kind.Resume = (3, codes "resume", Holds)
kind_row kind.Kill = (4, codes "kill", Kills)
kind_row kind.Read = (5, codes "read", PieceAsked)
kind_row kind.Write = (6, codes "write", PieceAsked)
kind_row kind.Block = (7, codes "block", PieceAnswered)
kind_row kind.Written = (8, codes "written", PieceAnswered)
kind_row kind.Gone = (9, codes "gone", PieceAnswered)
kind_row kind.Create = (10, codes "create", MakingAsked)
kind_row kind.Created = (11, codes "created", MakingAnswered)
kind_row kind.NoRoom = (12, codes "noroom", MakingAnswered)
kind_row kind.Migrate = (13, codes "migrate", Request)
kind_row kind.Update = (14, codes "update", Notice)
kind_row kind.Ask = (15, codes "ask", Between Ask)
kind_row kind.Refuse = (16, codes "refuse", Between Refuse)
kind_row kind.PullState = (17, codes "pullstate", Between PullState)
kind_row kind.State = (18, codes "state", Between State)
kind_row kind.PullBlock = (19, codes "pullblock", Between PullBlock)
kind_row kind.Memory = (20, codes "memory", Between Memory)
kind_row kind.AllTaken = (21, codes "alltaken", Between AllTaken)
kind_row kind.Restart = (22, codes "restart", Between Restart)
kind_row kind.Move = (23, codes "move", MoveAsked)
kind_row kind.Moved = (24, codes "moved", MoveAnswered)
kind_row kind.CallOff = (25, codes "calloff", Between CallOff)
kind_row kind.Bury = (26, codes "bury", Buries)

abbrev pub sort_of : MessageKind → Sort
sort_of k = (kind_row k).2

-- what asks for a piece of a process, and what brings one
abbrev pub pulls_piece : Sort → Bool
pulls_piece (Between PullState) = true
pulls_piece (Between PullBlock) = true
pulls_piece s = false

abbrev pub brings_piece : Sort → Bool
brings_piece (Between State) = true
brings_piece (Between Memory) = true
brings_piece s = false
