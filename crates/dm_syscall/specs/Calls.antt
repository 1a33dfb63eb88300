-- What each call does to a process with places. Which refusal comes doesn't depend on places: it is that of the kernel
-- without machines.
use Rattle.std.specs.Prelude.{ℕ, ◌+◌, false, ◌==◌, if◌then◌else◌, List, ◌∷◌, take, drop, slice_set}
use Rattle.std.specs.declared.option.Option.{Option}
use Rattle.std.specs.declared.option.Option.TheVariants.{None, Some}
use Rattle.dm_link.specs.declared.Link.{Link}
use Rattle.dm_link.specs.Plain.{plain_link}
use Rattle.dm_linktable.specs.Slots.{first_empty, link_at}
use Rattle.dm_message.specs.Ids.{id_of}
use Rattle.dm_message.specs.declared.Message.{Message}
use Rattle.dm_message.specs.declared.What.TheVariants as what
use Rattle.dm_process.specs.declared.process.Process.{Process}
use Rattle.dm_process.specs.declared.process.Direction.{Direction}
use Rattle.dm_process.specs.declared.process.Status.TheVariants as status
use Rattle.dm_process.specs.Directions.{direction_numbered}
use Rattle.dm_onekernel.specs.declared.label.Reply.{Reply}
use Rattle.dm_onekernel.specs.declared.label.Reply.TheVariants as reply
use Rattle.dm_onekernel.specs.declared.label.Why.{Why}
use Rattle.dm_onekernel.specs.declared.label.Why.TheVariants as why
use Rattle.dm_onekernel.specs.Codes.{reply_code}
use Rattle.dm_onekernel.specs.Plain.{plain_process}
use Rattle.dm_onekernel.specs.PlainProcess.{reg, setting}
use Rattle.dm_onekernel.specs.Refusals.{first_failed}
use Rattle.dm_onekernel.specs.Calls.{CallNumber, Exit, Out, Make, Copy, Drop, Send, Receive, Move, Unknown, call_number, has_flag, is_outside, is_reply, kind_of_flag, make_refusals, move_refusals, send_refusals}
use Rattle.dm_datamove.specs.declared.Rest.{Rest}
use Rattle.dm_datamove.specs.Requests.{address_of, moving, request}
use Rattle.dm_syscall.specs.declared.Called.{Called}
use Rattle.dm_syscall.specs.declared.Called.TheVariants as called
use Rattle.dm_syscall.specs.Sends.{emptied, links_in}

-- what a call comes to, and the process after it
pub record Done : Type 0 where
  pub called : Called
  pub process : Process

-- the reply stands in register 0, and nothing else changes
abbrev pub replied : Reply → Process → Done
replied c p = record { called = called.Replied c; process = record p { regs = setting p.regs 0 (reply_code c) } }

-- the first refusal, or what the call does
abbrev pub unless_refused : Option Reply → Process → Done → Done
unless_refused None p d = d
unless_refused (Some c) p d = replied c p

abbrev pub ended : Why → Process → Done
ended y p = record { called = called.Ended y; process = p }

-- OUT
abbrev pub outputs : Process → Done
outputs p = record { called = called.Out (reg p.regs 1); process = (replied reply.Done p).process }

-- a link goes into the lowest empty slot, whose number register 1 then holds
abbrev pub puts_link : Process → Link → Option ℕ → Done
puts_link p l None = replied reply.TableFull p
puts_link p l (Some slot) =
    record {
      called = called.Replied reply.Done;
      process = record p { regs = setting (setting p.regs 0 (reply_code reply.Done)) 1 slot; table = slice_set p.table slot (Some l) };
    }

-- MAKE: a link to the process itself, where it is now
abbrev pub own_link : ℕ → Process → Link
own_link here p =
    record {
      addr = address_of here p;
      kind = kind_of_flag (has_flag 1 (reg p.regs 3));
      to_kernel = false;
      code = reg p.regs 1;
      channel = reg p.regs 2;
      area = record { base = reg p.regs 4; len = reg p.regs 5; read = has_flag 2 (reg p.regs 3); write = has_flag 4 (reg p.regs 3) };
    }

abbrev pub makes : ℕ → Process → Done
makes here p =
    unless_refused (first_failed (make_refusals (plain_process p))) p (puts_link p (own_link here p) (first_empty p.table))

-- COPY
abbrev pub copies : Process → Option Link → Done
copies p None = replied reply.NoLink p
copies p (Some l) = if is_reply l.kind then replied reply.NotCopyable p else puts_link p l (first_empty p.table)

-- DROP
abbrev pub drops : Process → Option Link → Done
drops p None = replied reply.NoLink p
drops p (Some l) =
    record {
      called = called.Replied reply.Done;
      process = record p { regs = setting p.regs 0 (reply_code reply.Done); table = slice_set p.table (reg p.regs 1) None };
    }

-- SEND: the slots whose links the message encloses
abbrev pub listed : Process → List ℕ
listed p = take (reg p.regs 4) (drop (reg p.regs 5) p.memory)

-- the message goes to the link's address, and its enclosed links are as they were in the table
abbrev pub message_over : ℕ → Process → Link → Message
message_over here p l =
    record {
      id = id_of p.pid p.sent;
      to = l.addr;
      sender = address_of here p;
      what = what.User l.code l.channel (record { items = take (reg p.regs 3) (drop (reg p.regs 2) p.memory) }) (record { items = links_in p.table (listed p) });
    }

-- reply links that were used or enclosed have left their slots, and the message is counted
abbrev pub after_send : Process → Process
after_send p =
    record p {
      regs = setting p.regs 0 (reply_code reply.Done);
      table = emptied p.table (reg p.regs 1 ∷ listed p);
      sent = p.sent + 1;
    }

abbrev pub sends : ℕ → Process → Option Link → Done
sends here p None = replied reply.NoLink p
sends here p (Some l) =
    unless_refused (first_failed (send_refusals (plain_process p))) p (record { called = called.Sent (message_over here p l); process = after_send p })

-- RECEIVE
abbrev pub waits : Process → Done
waits p =
    if is_outside (plain_process p) (reg p.regs 2) (reg p.regs 3) then replied reply.BadRange p
    else record { called = called.Waits; process = record p { status = status.Waiting (reg p.regs 1) (reg p.regs 2) (reg p.regs 3) } }

-- MOVE: what is to be moved to or from the area of a link
abbrev pub whole : Process → Link → Direction → Rest
whole p l dir =
    record { dir = dir; owner = l.addr; base = l.area.base + reg p.regs 3; own = reg p.regs 4; left = reg p.regs 5 }

-- the first request goes out
abbrev pub begins : ℕ → Process → Rest → Done
begins here p r = record { called = called.Moving (request here p r); process = moving p r }

-- a move of nothing is done at once
abbrev pub moves_bytes : ℕ → Process → Link → Direction → Done
moves_bytes here p l dir = if reg p.regs 5 == 0 then replied reply.Done p else begins here p (whole p l dir)

abbrev pub moves_over : ℕ → Process → Link → Option Direction → Done
moves_over here p l None = replied reply.BadKind p
moves_over here p l (Some dir) =
    unless_refused (first_failed (move_refusals (plain_process p) (plain_link l) dir)) p (moves_bytes here p l dir)

abbrev pub moves : ℕ → Process → Option Link → Done
moves here p None = replied reply.NoLink p
moves here p (Some l) = moves_over here p l (direction_numbered (reg p.regs 2))

abbrev pub does_call : ℕ → Process → CallNumber → Done
does_call here p Exit = ended why.Exit p
does_call here p Out = outputs p
does_call here p Make = makes here p
does_call here p Copy = copies p (link_at p.table (reg p.regs 1))
does_call here p Drop = drops p (link_at p.table (reg p.regs 1))
does_call here p Send = sends here p (link_at p.table (reg p.regs 1))
does_call here p Receive = waits p
does_call here p Move = moves here p (link_at p.table (reg p.regs 1))
does_call here p Unknown = ended why.UnknownCall p

-- the call with this number, by a process on machine `here` whose pc is past the instruction
abbrev pub calls : ℕ → Process → ℕ → Done
calls here p n = does_call here p (call_number n)
