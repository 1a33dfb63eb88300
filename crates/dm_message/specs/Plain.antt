-- Messages without places: what a message means, wherever the processes are that it names.
use Rattle.std.specs.Prelude.{ℕ, List, map, option_map}
use Rattle.std.specs.declared.option.Option.{Option}
use Rattle.std.specs.declared.option.Option.TheVariants.{None, Some}
use Rattle.dm_link.specs.declared.Pid.{Pid}
use Rattle.dm_link.specs.Plain.{PlainLink, plain_link}
use Rattle.dm_message.specs.declared.MsgId.{MsgId}
use Rattle.dm_message.specs.declared.Message.{Message}
use Rattle.dm_message.specs.declared.Outcome.{Outcome}
use Rattle.dm_message.specs.declared.What.{What}
use Rattle.dm_message.specs.declared.What.TheVariants as what

-- what the messages say that the kernel without machines has too
pub data PlainWhat : Type 0 where
  User : (code : ℕ) → (channel : ℕ) → (body : List ℕ) → (links : List PlainLink) → PlainWhat
  Stop : PlainWhat
  Resume : PlainWhat
  Kill : PlainWhat
  Read : (base : ℕ) → (len : ℕ) → PlainWhat
  Write : (base : ℕ) → (bytes : List ℕ) → PlainWhat
  Block : (bytes : List ℕ) → PlainWhat
  Written : PlainWhat
  Gone : PlainWhat
  Create : (image : ℕ) → (links : List PlainLink) → PlainWhat
  Created : (pid : Pid) → PlainWhat
  NoRoom : PlainWhat
  Move : (machine : ℕ) → PlainWhat
  Moved : (outcome : Outcome) → PlainWhat

-- the other kinds serve machines alone, and have no plain meaning
abbrev pub plain_what : What → Option PlainWhat
plain_what (what.User code channel body links) = Some (User code channel body.items (map plain_link links.items))
plain_what what.Stop = Some Stop
plain_what what.Resume = Some Resume
plain_what what.Kill = Some Kill
plain_what (what.Read base len) = Some (Read base len)
plain_what (what.Write base bytes) = Some (Write base bytes.items)
plain_what (what.Block bytes) = Some (Block bytes.items)
plain_what what.Written = Some Written
plain_what what.Gone = Some Gone
plain_what (what.Create image links) = Some (Create image (map plain_link links.items))
plain_what (what.Created pid) = Some (Created pid)
plain_what what.NoRoom = Some NoRoom
plain_what (what.Move machine) = Some (Move machine)
plain_what (what.Moved outcome) = Some (Moved outcome)
plain_what w = None

-- a message: its name, who is to get it, who sent it, and what it says
pub record PlainMessage : Type 0 where
  pub id : MsgId
  pub to : Pid
  pub sender : Pid
  pub what : PlainWhat

-- the message with this plain meaning
abbrev pub with_what : Message → Option PlainWhat → Option PlainMessage
with_what m w = option_map (λ what. record { id = m.id; to = m.to.pid; sender = m.sender.pid; what = what }) w

-- a message of the program without places, if it is one that the kernel without machines has
abbrev pub plain_message : Message → Option PlainMessage
plain_message m = with_what m (plain_what m.what)
