-- Whom a machine tells that it has sent a message on, and what.
use Rattle.std.specs.Prelude.{◌≡◌, ℕ, false}
use Rattle.dm_link.specs.Names.{pid_of}
use Rattle.dm_link.specs.Places.{relocated}
pub use Rattle.dm_link.specs.Places.{kernel_at}
use Rattle.dm_message.specs.declared.Message.{Message}
use Rattle.dm_message.specs.declared.MsgId.{MsgId}
use Rattle.dm_message.specs.declared.What.TheVariants.{Update}
pub use Rattle.dm_message.specs.Told.{is_told_back}

-- a name of a message that machine here's kernel sends
abbrev pub IsOwn : ℕ → MsgId → Type 0
IsOwn here id = (id.from ≡ pid_of here 0) × (id.answer ≡ false)

-- machine here's kernel tells the sender of a message where its receiver is
abbrev pub update_of : Message → MsgId → ℕ → ℕ → ℕ → Message
update_of m id here at moves = record { id = id; to = m.sender; sender = kernel_at here; what = Update (relocated at moves m.to) }
