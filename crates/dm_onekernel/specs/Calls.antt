-- What each call of a process does: a row a call, the refusals in the row's order.
use Rattle.std.specs.Prelude.{ℕ, ◌+◌, ◌/◌, ◌%◌, Bool, true, false, ◌==◌, ◌&&◌, ◌||◌, nat_lt, if◌then◌else◌, List, [], ◌∷◌, length, filter_map, take, drop, slice_set}
use Rattle.std.specs.declared.option.Option.{Option}
use Rattle.std.specs.declared.option.Option.TheVariants.{None, Some}
use Rattle.std.specs.Option.{is_none, option_map_or}
use Rattle.std.specs.List.{list_any}
use Rattle.dm_link.specs.declared.Pid.{Pid}
use Rattle.dm_link.specs.declared.Kind.{Kind}
use Rattle.dm_link.specs.declared.Kind.TheVariants as kind
use Rattle.dm_link.specs.declared.Area.{Area}
use Rattle.dm_link.specs.Plain.{PlainLink}
use Rattle.dm_message.specs.Ids.{id_of}
use Rattle.dm_message.specs.Plain.{PlainMessage, User}
pub use Rattle.dm_linktable.specs.Slots.{is_reply}
use Rattle.dm_linktable.specs.Slots.{first_empty, link_at}
use Rattle.dm_process.specs.declared.process.Direction.{Direction}
use Rattle.dm_process.specs.declared.process.Direction.TheVariants as direction
use Rattle.dm_process.specs.Directions.{direction_numbered}
use Rattle.dm_onekernel.specs.declared.label.Reply.{Reply}
use Rattle.dm_onekernel.specs.declared.label.Reply.TheVariants as reply
use Rattle.dm_onekernel.specs.declared.label.Why.{Why}
use Rattle.dm_onekernel.specs.declared.label.Why.TheVariants as why
use Rattle.dm_onekernel.specs.Codes.{reply_code}
use Rattle.dm_onekernel.specs.PlainProcess.{PlainProcess, Waiting, reg, setting}
use Rattle.dm_onekernel.specs.Refusals.{Check, first_failed}
use Rattle.dm_onekernel.specs.Pieces.{Requested, requests}

-- what a call comes to, and the process after it
pub data Called : Type 0 where
  Replies : (reply : Reply) → (process : PlainProcess) → Called
  Sends : (message : PlainMessage) → (process : PlainProcess) → Called
  Waits : (process : PlainProcess) → Called
  Outputs : (word : ℕ) → (process : PlainProcess) → Called
  Ends : (why : Why) → Called

-- register 0 holds the reply, and nothing else changes
abbrev pub replied : Reply → PlainProcess → PlainProcess
replied c p = record p { regs = setting p.regs 0 (reply_code c) }

abbrev pub refused : Reply → PlainProcess → Called
refused c p = Replies c (replied c p)

-- the first refusal, or what the call does
abbrev pub unless_refused : Option Reply → PlainProcess → Called → Called
unless_refused refusal p called = option_map_or (λ c. refused c p) refusal called

-- the bytes from `base` on, so many, aren't all within the memory
abbrev pub is_outside : PlainProcess → ℕ → ℕ → Bool
is_outside p base len = nat_lt (length p.memory) (base + len)

abbrev pub memory_at : PlainProcess → ℕ → ℕ → List ℕ
memory_at p base len = take len (drop base p.memory)

-- call 2, OUT: the word in register 1
abbrev pub output_call : PlainProcess → Called
output_call p = Outputs (reg p.regs 1) (replied reply.Done p)

-- a link goes into the lowest empty slot, whose number register 1 then holds
abbrev pub puts_link : PlainProcess → PlainLink → Option ℕ → Called
puts_link p l None = refused reply.TableFull p
puts_link p l (Some slot) =
    Replies reply.Done (record p { regs = setting (setting p.regs 0 (reply_code reply.Done)) 1 slot; links = slice_set p.links slot (Some l) })

-- the flag that counts 1, 2, 4 in a sum of flags
abbrev pub has_flag : ℕ → ℕ → Bool
has_flag flag flags = (flags / flag) % 2 == 1

abbrev pub kind_of_flag : Bool → Kind
kind_of_flag reply = if reply then kind.Reply else kind.General

-- call 3, MAKE: a link to the process itself, with code r1, on channel r2, to the area of r5 bytes at r4; r3 is 1 for a
-- reply link, 2 for the right to read and 4 for the right to write, added up
abbrev pub own_link : Pid → PlainProcess → PlainLink
own_link pid p =
    record {
      to = pid;
      kind = kind_of_flag (has_flag 1 (reg p.regs 3));
      to_kernel = false;
      code = reg p.regs 1;
      channel = reg p.regs 2;
      area = record { base = reg p.regs 4; len = reg p.regs 5; read = has_flag 2 (reg p.regs 3); write = has_flag 4 (reg p.regs 3) };
    }

abbrev pub make_refusals : PlainProcess → List Check
make_refusals p =
    record { fails = nat_lt 7 (reg p.regs 3); reply = reply.BadKind }
    ∷ record { fails = nat_lt 31 (reg p.regs 2) || is_outside p (reg p.regs 4) (reg p.regs 5); reply = reply.BadRange }
    ∷ []

abbrev pub makes : Pid → PlainProcess → Called
makes pid p = unless_refused (first_failed (make_refusals p)) p (puts_link p (own_link pid p) (first_empty p.links))

-- call 4, COPY: the general link in slot r1, once more
abbrev pub copies : PlainProcess → Option PlainLink → Called
copies p None = refused reply.NoLink p
copies p (Some l) = if is_reply l.kind then refused reply.NotCopyable p else puts_link p l (first_empty p.links)

-- call 5, DROP: slot r1 is empty then
abbrev pub drop_call : PlainProcess → Option PlainLink → Called
drop_call p None = refused reply.NoLink p
drop_call p (Some l) = Replies reply.Done (record p { regs = setting p.regs 0 (reply_code reply.Done); links = slice_set p.links (reg p.regs 1) None })

-- call 6, SEND: a body of r3 bytes at r2, with the links of the r4 slots whose numbers stand at r5, goes over the link in
-- slot r1
abbrev pub listed : PlainProcess → List ℕ
listed p = memory_at p (reg p.regs 5) (reg p.regs 4)

-- the greatest body, in bytes: processes of 32 slots have one of 64, those of 128 one of 256
abbrev pub most_body : PlainProcess → ℕ
most_body p = if length p.links == 32 then 64 else 256

abbrev pub holds_reply : Option PlainLink → Bool
holds_reply link = option_map_or (λ l. is_reply l.kind) link false

abbrev pub any_empty : List (Option PlainLink) → List ℕ → Bool
any_empty links slots = list_any (λ s. is_none (link_at links s)) slots

abbrev pub is_among : ℕ → List ℕ → Bool
is_among s slots = list_any (λ t. s == t) slots

-- a slot with a reply link stands twice among these
abbrev pub reply_named_twice : List (Option PlainLink) → List ℕ → Bool
reply_named_twice links [] = false
reply_named_twice links (s ∷ ss) = holds_reply (link_at links s) && is_among s ss || reply_named_twice links ss

-- reply links leave their slots, general ones stay
abbrev pub without_replies : List (Option PlainLink) → List ℕ → List (Option PlainLink)
without_replies links [] = links
without_replies links (s ∷ ss) = without_replies (if holds_reply (link_at links s) then slice_set links s None else links) ss

abbrev pub links_in_slots : List (Option PlainLink) → List ℕ → List PlainLink
links_in_slots links slots = filter_map (link_at links) slots

abbrev pub send_refusals : PlainProcess → List Check
send_refusals p =
    record { fails = nat_lt (most_body p) (reg p.regs 3) || nat_lt 4 (reg p.regs 4); reply = reply.TooLong }
    ∷ record { fails = is_outside p (reg p.regs 2) (reg p.regs 3) || is_outside p (reg p.regs 5) (reg p.regs 4); reply = reply.BadRange }
    ∷ record { fails = any_empty p.links (listed p); reply = reply.NoLink }
    ∷ record { fails = reply_named_twice p.links (reg p.regs 1 ∷ listed p); reply = reply.BadKind }
    ∷ []

abbrev pub message_over : Pid → PlainProcess → PlainLink → PlainMessage
message_over pid p l =
    record {
      id = id_of pid p.sent;
      to = l.to;
      sender = pid;
      what = User l.code l.channel (memory_at p (reg p.regs 2) (reg p.regs 3)) (links_in_slots p.links (listed p));
    }

abbrev pub after_send : PlainProcess → PlainProcess
after_send p =
    record p {
      regs = setting p.regs 0 (reply_code reply.Done);
      links = without_replies p.links (reg p.regs 1 ∷ listed p);
      sent = p.sent + 1;
    }

abbrev pub send_call : Pid → PlainProcess → Option PlainLink → Called
send_call pid p None = refused reply.NoLink p
send_call pid p (Some l) = unless_refused (first_failed (send_refusals p)) p (Sends (message_over pid p l) (after_send p))

-- call 7, RECEIVE: a message on a channel of mask r1 is to come into r3 bytes at r2
abbrev pub receive_call : PlainProcess → Called
receive_call p =
    if is_outside p (reg p.regs 2) (reg p.regs 3) then refused reply.BadRange p
    else Waits (record p { status = Waiting (reg p.regs 1) (reg p.regs 2) (reg p.regs 3) })

-- call 8, MOVE: r5 bytes from the area of the link in slot r1 (r2 is 0) or into it (1), at r3 there and at r4 in its own
-- memory
abbrev pub lacks_right : Direction → Area → Bool
lacks_right direction.FromArea a = if a.read then false else true
lacks_right direction.IntoArea a = if a.write then false else true

abbrev pub move_refusals : PlainProcess → PlainLink → Direction → List Check
move_refusals p l dir =
    record { fails = lacks_right dir l.area; reply = reply.NoRight }
    ∷ record { fails = nat_lt l.area.len (reg p.regs 3 + reg p.regs 5) || is_outside p (reg p.regs 4) (reg p.regs 5); reply = reply.BadRange }
    ∷ []

-- the first request goes out
abbrev pub begins_move : Requested → Called
begins_move r = Sends r.message r.process

-- a move of nothing is done at once
abbrev pub moves_bytes : Pid → PlainProcess → PlainLink → Direction → Called
moves_bytes pid p l dir =
    if reg p.regs 5 == 0 then Replies reply.Done (replied reply.Done p)
    else begins_move (requests pid p dir l.to (l.area.base + reg p.regs 3) (reg p.regs 4) (reg p.regs 5))

abbrev pub moves_over : Pid → PlainProcess → PlainLink → Option Direction → Called
moves_over pid p l None = refused reply.BadKind p
moves_over pid p l (Some dir) = unless_refused (first_failed (move_refusals p l dir)) p (moves_bytes pid p l dir)

abbrev pub move_call : Pid → PlainProcess → Option PlainLink → Called
move_call pid p None = refused reply.NoLink p
move_call pid p (Some l) = moves_over pid p l (direction_numbered (reg p.regs 2))

-- the calls that there are
pub data CallNumber : Type 0 where
  Exit : CallNumber
  Out : CallNumber
  Make : CallNumber
  Copy : CallNumber
  Drop : CallNumber
  Send : CallNumber
  Receive : CallNumber
  Move : CallNumber
  Unknown : CallNumber

abbrev pub call_number : ℕ → CallNumber
call_number n =
    if n == 1 then Exit else if n == 2 then Out else if n == 3 then Make else if n == 4 then Copy
    else if n == 5 then Drop else if n == 6 then Send else if n == 7 then Receive else if n == 8 then Move else Unknown

abbrev pub does_call : Pid → PlainProcess → CallNumber → Called
does_call pid p Exit = Ends why.Exit
does_call pid p Out = output_call p
does_call pid p Make = makes pid p
does_call pid p Copy = copies p (link_at p.links (reg p.regs 1))
does_call pid p Drop = drop_call p (link_at p.links (reg p.regs 1))
does_call pid p Send = send_call pid p (link_at p.links (reg p.regs 1))
does_call pid p Receive = receive_call p
does_call pid p Move = move_call pid p (link_at p.links (reg p.regs 1))
does_call pid p Unknown = Ends why.UnknownCall

-- the call with this number, by a process whose pc is past the instruction
abbrev pub call : Pid → PlainProcess → ℕ → Called
call pid p n = does_call pid p (call_number n)
