-- How a receive ends, at a process with places.
use Rattle.std.specs.Prelude.{◌≡◌, ℕ, ◌+◌, true, List, [], ◌∷◌, length, map, remove, slice_set}
use Rattle.std.specs.declared.option.Option.{Option}
use Rattle.std.specs.declared.option.Option.TheVariants.{None, Some}
use Rattle.dm_link.specs.declared.Link.{Link}
use Rattle.dm_link.specs.Plain.{plain_link}
use Rattle.dm_linktable.specs.Slots.{first_empty}
use Rattle.dm_message.specs.declared.Message.{Message}
use Rattle.dm_message.specs.declared.MsgId.{MsgId}
use Rattle.dm_message.specs.declared.What.{What}
use Rattle.dm_message.specs.declared.What.TheVariants as what
use Rattle.dm_process.specs.declared.process.Process.{Process}
use Rattle.dm_process.specs.declared.process.Status.{Status}
use Rattle.dm_process.specs.declared.process.Status.TheVariants as status
use Rattle.dm_process.specs.Mail.{is_on}
use Rattle.dm_processor.specs.declared.registers.Regs.{Regs}
use Rattle.dm_onekernel.specs.declared.label.Reply.{Reply}
use Rattle.dm_onekernel.specs.Codes.{reply_code}
use Rattle.dm_onekernel.specs.Plain.{plain_process}
use Rattle.dm_onekernel.specs.PlainProcess.{setting}
use Rattle.dm_onekernel.specs.Pieces.{written_at}
use Rattle.dm_onekernel.specs.Refusals.{first_failed}
use Rattle.dm_onekernel.specs.Receiving as plain
use Rattle.dm_onekernel.specs.Receiving.{received_regs, receive_refusals}
use Rattle.dm_syscall.specs.declared.Completed.{Completed}
use Rattle.dm_syscall.specs.declared.Completed.TheVariants as completed

-- the message is one that the process waits for
abbrev pub IsAwaited : Status → Option Message → Type 0
IsAwaited (status.Waiting mask base cap) (Some m) = is_on mask m ≡ true
IsAwaited s m = ⊥

-- links go into the lowest empty slots, in order; the numbers of the slots stand in the registers from r on
pub record Placed : Type 0 where
  pub regs : Regs
  pub table : List (Option Link)

abbrev pub place_into : Placed → ℕ → Link → Option ℕ → Placed
place_into t r l None = t
place_into t r l (Some slot) = record { regs = setting t.regs r slot; table = slice_set t.table slot (Some l) }

abbrev pub place_links : Placed → ℕ → List Link → Placed
place_links t r [] = t
place_links t r (l ∷ ls) = place_links (place_into t r l (first_empty t.table)) (r + 1) ls

-- what becomes of a receive, and the process after it
pub record Completion : Type 0 where
  pub completed : Completed
  pub process : Process

-- the body stands in the buffer and the links in slots, and the message at that place has left the queue
abbrev pub receives : Process → ℕ → MsgId → ℕ → ℕ → ℕ → List ℕ → List Link → Completion
receives p place id base code channel body links =
    let placed = place_links (record { regs = received_regs p.regs code channel (length body) (length links); table = p.table }) 5 links in
    record {
      completed = completed.Received id;
      process = record p {
        regs = placed.regs;
        memory = written_at p.memory base body;
        table = placed.table;
        status = status.Ready;
        queue = remove p.queue place;
      };
    }

-- the process is ready then, and the message stays
abbrev pub refusal : Reply → Process → Completion
refusal c p = record { completed = completed.Refused c; process = record p { regs = setting p.regs 0 (reply_code c); status = status.Ready } }

abbrev pub completes_unless : Option Reply → Process → Completion → Completion
completes_unless None p after = after
completes_unless (Some c) p after = refusal c p

abbrev pub completes : Process → ℕ → MsgId → ℕ → ℕ → What → Option Completion
completes p place id base cap (what.User code channel body links) =
    Some (completes_unless (first_failed (receive_refusals (plain_process p) cap body.items (map plain_link links.items))) p (receives p place id base code channel body.items links.items))
completes p place id base cap w = None

-- the receive of a process ends with the message at this place of its queue
abbrev pub completion : Process → ℕ → Status → Option Message → Option Completion
completion p place (status.Waiting mask base cap) (Some m) = completes p place m.id base cap m.what
completion p place s m = None

-- what it comes to, without places
abbrev pub plain_completed : Completed → Process → plain.Completed
plain_completed (completed.Received id) p = plain.Receives (plain_process p)
plain_completed (completed.Refused c) p = plain.Refuses c (plain_process p)
