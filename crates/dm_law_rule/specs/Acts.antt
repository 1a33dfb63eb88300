-- What sort of line each is, a row a line. What holds of some lines is said of their sorts elsewhere, and what has no row there is of no such sort.
use Rattle.std.specs.Prelude.{ℕ}
use Rattle.dm_link.specs.declared.Pid.{Pid}
use Rattle.dm_message.specs.declared.MsgId.{MsgId}
use Rattle.dm_message.specs.declared.kind.MessageKind.{MessageKind}
use Rattle.dm_onekernel.specs.declared.label.Label.{Label}
use Rattle.dm_line.specs.declared.line.Line.{Line}
use Rattle.dm_line.specs.declared.line.Line.TheVariants as line
use Rattle.dm_line.specs.declared.line.Stage.{Stage}

pub data Act : Type 0 where
  -- a step of the kernel without machines
  Steps : (label : Label) → Act
  -- a message is routed
  Routes : (from : ℕ) → (to : ℕ) → (id : MsgId) → (kind : MessageKind) → (receiver : Pid) → Act
  -- a message goes on, or all those of a process that leaves
  GoesOn : (id : MsgId) → Act
  AllGoOn : (process : Pid) → Act
  -- those that were held for a process go back
  AllGoBack : (process : Pid) → Act
  -- links follow a process
  Updates : (id : MsgId) → Act
  -- other steps of a migration; a process can't come; it stays
  Migrates : (stage : Stage) → (process : Pid) → Act
  Lacks : (process : Pid) → Act
  Stays : (process : Pid) → Act
  -- packets, and what is said of a machine or of a message
  Tells : Act

abbrev pub act_of : Line → Act
act_of (line.Label l) = Steps l
act_of (line.Put from to id k q) = Routes from to id k q
act_of (line.Forwarded id m) = GoesOn id
act_of (line.SentOn p n) = AllGoOn p
act_of (line.Called p n) = AllGoBack p
act_of (line.Updated id n) = Updates id
act_of (line.Migration s p) = Migrates s p
act_of (line.Lacks p s b) = Lacks p
act_of (line.Stays p) = Stays p
act_of (line.Head d) = Tells
act_of (line.Idle m) = Tells
act_of (line.Packet from to k l) = Tells
act_of (line.Taken from to n) = Tells
act_of (line.Old from to n) = Tells
act_of (line.Early from to n) = Tells
act_of (line.Acked from to n) = Tells
act_of line.Nothing = Tells
act_of (line.Resent m n) = Tells
act_of (line.Queued id) = Tells
act_of (line.Held id) = Tells
act_of (line.Here id) = Tells
act_of (line.NoMove id) = Tells
act_of (line.Stale id) = Tells
act_of (line.Buried id n) = Tells
act_of (line.Proto id) = Tells
act_of (line.NoChild p) = Tells
act_of line.Away = Tells
act_of (line.NoCall p) = Tells
