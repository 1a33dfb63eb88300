-- How a receive ends, once a message on the process's mask is there.
use Rattle.std.specs.Prelude.{ℕ, ◌+◌, ◌&&◌, nat_lt, if◌then◌else◌, List, [], ◌∷◌, length, count_by, slice_set}
use Rattle.std.specs.declared.option.Option.{Option}
use Rattle.std.specs.declared.option.Option.TheVariants.{None, Some}
use Rattle.std.specs.Option.{is_none, option_map_or}
use Rattle.dm_link.specs.declared.Pid.{Pid}
use Rattle.dm_link.specs.Names.{pid_eq}
use Rattle.dm_link.specs.Plain.{PlainLink}
use Rattle.dm_message.specs.Plain.{PlainMessage, PlainWhat, User}
use Rattle.dm_linktable.specs.Slots.{first_empty}
use Rattle.dm_process.specs.Mail.{on_mask}
use Rattle.dm_processor.specs.declared.registers.Regs.{Regs}
use Rattle.dm_onekernel.specs.declared.label.Reply.{Reply}
use Rattle.dm_onekernel.specs.declared.label.Reply.TheVariants as reply
use Rattle.dm_onekernel.specs.Codes.{reply_code}
use Rattle.dm_onekernel.specs.PlainProcess.{PlainProcess, PlainStatus, Ready, Waiting, setting}
use Rattle.dm_onekernel.specs.Pieces.{written_at}
use Rattle.dm_onekernel.specs.Refusals.{Check, first_failed}

-- what becomes of a receive that a message comes to
pub data Completed : Type 0 where
  Receives : (process : PlainProcess) → Completed
  Refuses : (reply : Reply) → (process : PlainProcess) → Completed

-- links go into the lowest empty slots, in order; the numbers of the slots stand in the registers from r on
pub record RegsAndLinks : Type 0 where
  pub regs : Regs
  pub links : List (Option PlainLink)

abbrev pub place_into : RegsAndLinks → ℕ → PlainLink → Option ℕ → RegsAndLinks
place_into t r l None = t
place_into t r l (Some slot) = record { regs = setting t.regs r slot; links = slice_set t.links slot (Some l) }

abbrev pub place_links : RegsAndLinks → ℕ → List PlainLink → RegsAndLinks
place_links t r [] = t
place_links t r (l ∷ ls) = place_links (place_into t r l (first_empty t.links)) (r + 1) ls

-- registers 1 to 4: the code, the channel, the length, the number of links
abbrev pub received_regs : Regs → ℕ → ℕ → ℕ → ℕ → Regs
received_regs r code channel len count =
    setting (setting (setting (setting (setting r 0 (reply_code reply.Done)) 1 code) 2 channel) 3 len) 4 count

-- the body stands in the buffer, and the links in slots
abbrev pub with_received : PlainProcess → ℕ → ℕ → ℕ → List ℕ → List PlainLink → PlainProcess
with_received p base code channel body links =
    let placed = place_links (record { regs = received_regs p.regs code channel (length body) (length links); links = p.links }) 5 links in
    record p { regs = placed.regs; memory = written_at p.memory base body; links = placed.links; status = Ready }

-- a body longer than the buffer, or more links than empty slots: the process is ready then, and the message stays
abbrev pub receive_refusals : PlainProcess → ℕ → List ℕ → List PlainLink → List Check
receive_refusals p cap body links =
    record { fails = nat_lt cap (length body); reply = reply.TooLong }
    ∷ record { fails = nat_lt (count_by is_none p.links) (length links); reply = reply.TableFull }
    ∷ []

abbrev pub completes_unless : Option Reply → PlainProcess → PlainProcess → Completed
completes_unless refusal p after = option_map_or (λ c. Refuses c (record p { regs = setting p.regs 0 (reply_code c); status = Ready })) refusal (Receives after)

abbrev pub completes : PlainProcess → ℕ → ℕ → ℕ → ℕ → List ℕ → List PlainLink → Completed
completes p base cap code channel body links =
    completes_unless (first_failed (receive_refusals p cap body links)) p (with_received p base code channel body links)

-- a user message for the process, on a channel of its mask
abbrev pub completes_what : Pid → PlainProcess → PlainMessage → ℕ → ℕ → ℕ → PlainWhat → Option Completed
completes_what pid p m mask base cap (User code channel body links) =
    if pid_eq m.to pid && on_mask mask channel then Some (completes p base cap code channel body links) else None
completes_what pid p m mask base cap w = None

abbrev pub completes_status : Pid → PlainProcess → PlainMessage → PlainStatus → Option Completed
completes_status pid p m (Waiting mask base cap) = completes_what pid p m mask base cap m.what
completes_status pid p m status = None

-- what becomes of the receive of a process that waits, and isn't stopped
abbrev pub completes_with : Pid → PlainProcess → PlainMessage → Option Completed
completes_with pid p m = if p.stopped then None else completes_status pid p m p.status
