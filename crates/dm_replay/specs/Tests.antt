-- What is tested of a message before its receiver, or a server, does what it asks.
use Rattle.std.specs.Prelude.{ℕ, ◌+◌, Bool, true, false, ◌==◌, ◌&&◌, nat_le, length, is_some}
use Rattle.dm_message.specs.declared.What.{What}
use Rattle.dm_message.specs.declared.What.TheVariants as what
use Rattle.dm_process.specs.declared.process.Direction.{Direction}
use Rattle.dm_process.specs.declared.process.Direction.TheVariants as direction
use Rattle.dm_process.specs.declared.process.Service.{Service}
use Rattle.dm_process.specs.declared.process.Service.TheVariants as service
use Rattle.dm_process.specs.declared.process.Status.{Status}
use Rattle.dm_process.specs.declared.process.Status.TheVariants as status
use Rattle.dm_message.specs.declared.Outcome.{Outcome}
use Rattle.dm_message.specs.declared.Outcome.TheVariants as ends
use Rattle.dm_message.specs.Plain as plain
use Rattle.dm_message.specs.Plain.{PlainWhat, plain_what}
use Rattle.std.specs.Option.{option_map_or}
use Rattle.dm_onekernel.specs.Options.{bind}
use Rattle.dm_onekernel.specs.Service.{gone_what, is_dropped}
use Rattle.dm_onekernel.specs.Pieces.{piece_of}
use Rattle.dm_procman.specs.Managing.{Managing}
use Rattle.dm_procman.specs.Taking.{pending_request}
use Rattle.std.specs.declared.option.Option.{Option}
use Rattle.std.specs.declared.option.Option.TheVariants.{None, Some}

-- a request for a piece that lies within a memory of so many bytes
abbrev pub is_within : ℕ → What → Bool
is_within size (what.Read base len) = nat_le (base + len) size
is_within size (what.Write base bytes) = nat_le (base + length bytes.items) size
is_within size w = false

-- what a request of a move with so many bytes left is answered with
abbrev pub is_answer_of : Direction → ℕ → What → Bool
is_answer_of direction.FromArea left (what.Block bytes) = length bytes.items == piece_of left
is_answer_of direction.IntoArea left what.Written = true
is_answer_of dir left what.Gone = true
is_answer_of dir left w = false

-- the answer to the request that is under way, by its number
abbrev pub is_awaited : Status → ℕ → What → Bool
is_awaited status.Ready n w = false
is_awaited (status.Waiting mask base cap) n w = false
is_awaited (status.Moving dir owner base own left pending) n w = (n == pending) && is_answer_of dir left w

-- a user message, or the answer to a request that the manager waits for
abbrev pub is_for_manager : Managing → ℕ → What → Bool
is_for_manager g n (what.User code channel body links) = true
is_for_manager g n (what.Created child) = is_some (pending_request n g.pending)
is_for_manager g n what.NoRoom = is_some (pending_request n g.pending)
is_for_manager g n (what.Moved outcome) = is_some (pending_request n g.pending)
is_for_manager g n w = false

-- a message that is dropped where its receiver has ended, and one that is answered there
abbrev pub is_dropped_what : What → Bool
is_dropped_what w = option_map_or is_dropped (plain_what w) false

abbrev pub is_asked_what : What → Bool
is_asked_what w = is_some (bind (plain_what w) gone_what)

-- a message that asks its receiver to move
abbrev pub is_plain_move : PlainWhat → Bool
is_plain_move (plain.Move machine) = true
is_plain_move w = false

abbrev pub is_move_what : What → Bool
is_move_what w = option_map_or is_plain_move (plain_what w) false

-- the outcome of a move whose process has ended
abbrev pub is_end : Outcome → Bool
is_end ends.Ended = true
is_end ends.Done = false
is_end ends.Stayed = false

-- where the message stands that is taken, if one is
abbrev pub place_in : Option Service → Option ℕ
place_in (Some (service.Receive mask place)) = Some place
place_in (Some service.Execute) = None
place_in None = None

-- a message that asks for a process
abbrev pub is_create_what : What → Bool
is_create_what (what.Create image links) = true
is_create_what w = false
