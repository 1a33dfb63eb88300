-- The definitions' tables, computed row by row.
use Rattle.std.proofs.Common.{◌≡◌, true, false, List, [], ◌∷◌, None, Some, map, refl}
use Rattle.dm_link.specs.Names.{pid_of}
use Rattle.dm_message.specs.Plain as what
use Rattle.dm_message.specs.Plain.{PlainWhat}
use Rattle.dm_message.specs.declared.Outcome.TheVariants as outcome
use Rattle.dm_processor.specs.declared.registers.Fault.TheVariants as fault
use Rattle.dm_onekernel.specs.declared.boot.Format.TheVariants.{One, Two}
use Rattle.dm_onekernel.specs.declared.label.Reply.TheVariants as reply
use Rattle.dm_onekernel.specs.declared.label.Why.TheVariants as why
use Rattle.dm_onekernel.specs.Boot.{body_of, slots_of}
use Rattle.dm_onekernel.specs.Calls.{Exit, Out, Make, Copy, Drop, Send, Receive, Move, Unknown, call_number}
use Rattle.dm_onekernel.specs.Codes.{reply_code, why_code}
use Rattle.dm_onekernel.specs.Manager.{control_of}
use Rattle.dm_onekernel.specs.Pieces.{piece_of}
use Rattle.dm_onekernel.specs.Service.{gone_what, is_dropped}
use Rattle.dm_onekernel.specs.Switchboard as board
use Rattle.dm_onekernel.specs.Switchboard.{answer_row}

-- what register 0 holds after a call
pub replies :
    map reply_code (reply.Done ∷ reply.NoLink ∷ reply.TableFull ∷ reply.BadKind ∷ reply.BadRange ∷ reply.NoRight ∷ reply.TooLong ∷ reply.Gone ∷ reply.NotCopyable ∷ [])
    ≡ 0 ∷ 1 ∷ 2 ∷ 3 ∷ 4 ∷ 5 ∷ 6 ∷ 7 ∷ 8 ∷ []
replies = refl

-- why a process ended
pub ends :
    map why_code (why.Exit ∷ why.Fault fault.OutOfRange ∷ why.Fault fault.UnknownOpcode ∷ why.Fault fault.Unaligned ∷ why.UnknownCall ∷ why.Killed ∷ [])
    ≡ 0 ∷ 1 ∷ 2 ∷ 3 ∷ 4 ∷ 5 ∷ []
ends = refl

-- the limits of the two formats
pub limits : (slots_of One ∷ body_of One ∷ slots_of Two ∷ body_of Two ∷ []) ≡ 32 ∷ 64 ∷ 128 ∷ 256 ∷ []
limits = refl

-- the numbers of the calls
pub calls :
    map call_number (0 ∷ 1 ∷ 2 ∷ 3 ∷ 4 ∷ 5 ∷ 6 ∷ 7 ∷ 8 ∷ 9 ∷ [])
    ≡ Unknown ∷ Exit ∷ Out ∷ Make ∷ Copy ∷ Drop ∷ Send ∷ Receive ∷ Move ∷ Unknown ∷ []
calls = refl

-- the pieces of data moves
pub pieces : map piece_of (1 ∷ 255 ∷ 256 ∷ 257 ∷ 65536 ∷ []) ≡ 1 ∷ 255 ∷ 256 ∷ 256 ∷ 256 ∷ []
pieces = refl

-- the bytes of the switchboard's answers, but for the one with a link
pub answers :
    map (λ answer. (answer_row answer).0) (board.Registered ∷ board.Unknown ∷ board.Taken ∷ board.BadLink ∷ board.BadRequest ∷ []) ≡ 0 ∷ 2 ∷ 3 ∷ 4 ∷ 5 ∷ []
answers = refl

-- what the manager does to a child
pub controls :
    map control_of (0 ∷ 1 ∷ 2 ∷ 3 ∷ 4 ∷ 5 ∷ []) ≡ None ∷ None ∷ Some what.Stop ∷ Some what.Resume ∷ Some what.Kill ∷ None ∷ []
controls = refl

-- one message of each kind
abbrev kinds : List PlainWhat
kinds =
    what.User 0 0 [] [] ∷ what.Stop ∷ what.Resume ∷ what.Kill ∷ what.Read 0 1 ∷ what.Write 0 (0 ∷ []) ∷ what.Block (0 ∷ []) ∷ what.Written ∷ what.Gone
    ∷ what.Create 0 [] ∷ what.Created (pid_of 0 3) ∷ what.NoRoom ∷ what.Move 0 ∷ what.Moved outcome.Done ∷ []

-- which of them are dropped where their receiver has ended, and which are answered
pub dropped :
    map is_dropped kinds
    ≡ true ∷ true ∷ true ∷ true ∷ false ∷ false ∷ true ∷ true ∷ true ∷ false ∷ false ∷ false ∷ false ∷ false ∷ []
dropped = refl

pub answered :
    map gone_what kinds
    ≡ None ∷ None ∷ None ∷ None ∷ Some what.Gone ∷ Some what.Gone ∷ None ∷ None ∷ None ∷ None ∷ None ∷ None ∷ Some (what.Moved outcome.Ended) ∷ None ∷ []
answered = refl
