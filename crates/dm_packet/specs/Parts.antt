-- What readers of the code answer that put what a message carries where they are told, and the parts of a packet.
use Rattle.std.specs.Prelude.{◌≡◌, ℕ, false, List, length, ◌==◌, if◌then◌else◌, Ok, Err}
use Rattle.std.specs.declared.result.Result.{Result}
use denote.Ref.{Bor}
use Rattle.dm_link.specs.declared.Addr.{Addr}
use Rattle.dm_message.specs.declared.Message.{Message}
use Rattle.dm_message.specs.declared.What.{What}
use Rattle.dm_message.specs.declared.What.TheVariants.{Stop}
use Rattle.dm_packet.specs.declared.DecodeError.{DecodeError}
use Rattle.dm_packet.specs.declared.DecodeError.TheVariants.{Bytes, NoMemory}
use Rattle.dm_packet.specs.declared.PacketError.{PacketError}
use Rattle.dm_packet.specs.declared.PacketError.TheVariants as bad
use Rattle.dm_packet.specs.declared.Packet.{Packet}
use Rattle.dm_packet.specs.declared.Packet.TheVariants.{Data, Ack}
use Rattle.dm_packet.specs.declared.front.Opened.{Opened}
use Rattle.dm_packet.specs.declared.front.Opened.TheVariants as opened
use Rattle.dm_packet.specs.declared.front.PacketKind.{PacketKind}
use Rattle.dm_packet.specs.Field.{◌>>=◌}
use Rattle.dm_packet.specs.Packets.{numbered_message, only_packet, read_rest}

-- it is what reading gives: what the message carries and the bytes behind it, or the rule that is broken, unless memory lacks
abbrev pub ReadsInto : Result (Bor (List ℕ)) DecodeError → What → Result (What × List ℕ) PacketError → Type 0
ReadsInto (Ok rest) what read = read ≡ Ok (what, rest.now)
ReadsInto (Err (Bytes rule)) what read = read ≡ Err rule
ReadsInto (Err (NoMemory none)) what read = Unit {0}

-- nobody's address
abbrev pub nobody : Addr
nobody = record { pid = record { home = 0; num = 0 }; at = 0; moves = 0 }

-- room for a message, to be read over
abbrev pub blank : Message
blank = record { id = record { from = nobody.pid; n = 0; answer = false }; to = nobody; sender = nobody; what = Stop }

-- what was read, where nothing stands behind it
abbrev pub only : {X : Type 0} → X × List ℕ → Result X PacketError
only x = if length x.1 == 0 then Ok x.0 else Err bad.Trailing

-- a number and a message, behind which nothing stands
abbrev pub read_numbered : List ℕ → Result (ℕ × Message) PacketError
read_numbered bytes = numbered_message.read bytes >>= only

-- it is what reading gives: the number and the message, or the rule that is broken, unless memory lacks
abbrev pub ReadsNumbered : Result ℕ DecodeError → Message → Result (ℕ × Message) PacketError → Type 0
ReadsNumbered (Ok n) m read = read ≡ Ok (n, m)
ReadsNumbered (Err (Bytes rule)) m read = read ≡ Err rule
ReadsNumbered (Err (NoMemory none)) m read = Unit {0}

-- the packet from one machine to another that these bytes are, behind its front
abbrev pub data_behind : ℕ → ℕ → List ℕ → Result Packet PacketError
data_behind from to bytes = read_numbered bytes >>= λ x. Ok (Data from to x.0 x.1)

-- what reading gives, where the front is this
abbrev pub opened_as : Opened → Result Packet PacketError
opened_as (opened.Data from to behind) = data_behind from to behind.now
opened_as (opened.Ack from to count) = Ok (Ack from to count)

-- it is what reading gives: what is behind the front, or the rule that is broken
abbrev pub Opens : Result Opened PacketError → Result Packet PacketError → Type 0
Opens (Ok o) read = read ≡ opened_as o
Opens (Err e) read = read ≡ Err e

-- a packet's front, behind which nothing is read but its own number and message
abbrev pub read_ended : PacketKind → ℕ → ℕ → List ℕ → Result Packet PacketError
read_ended kind from to bytes = read_rest kind from to bytes >>= only_packet
