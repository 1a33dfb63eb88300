-- Packets: the one spelling of each, and what some bytes spell, or the first rule that they break.
use Rattle.std.specs.Prelude.{ℕ, List, [], ◌∷◌, ◌++◌, length, ◌==◌, not, if◌then◌else◌, Ok, Err}
use Rattle.std.specs.declared.result.Result.{Result}
use Rattle.dm_message.specs.declared.MsgId.{MsgId}
use Rattle.dm_message.specs.declared.Message.{Message}
use Rattle.dm_message.specs.declared.What.{What}
use Rattle.dm_message.specs.Ids.{bool_eq}
use Rattle.dm_message.specs.Kinds.{kind_of}
use Rattle.dm_message.specs.Lawful.{is_answer}
use Rattle.dm_packet.specs.declared.PacketError.{PacketError}
use Rattle.dm_packet.specs.declared.PacketError.TheVariants as bad
use Rattle.dm_packet.specs.declared.Packet.{Packet}
use Rattle.dm_packet.specs.declared.Packet.TheVariants.{Data, Ack}
use Rattle.dm_packet.specs.declared.front.Head.{Head}
use Rattle.dm_packet.specs.declared.front.Opening.{Opening}
use Rattle.dm_packet.specs.declared.front.PacketKind.{PacketKind}
use Rattle.dm_packet.specs.declared.front.PacketKind.TheVariants as kinds
use Rattle.dm_packet.specs.Field.{Field, ◌>>=◌, number, tested, version, both, made}
use Rattle.dm_packet.specs.Fields.{addr, machine, pid}
use Rattle.dm_packet.specs.Whats.{coded, message_kind, read_what, spell_what, yes_or_no}

abbrev pub id : Field MsgId
id = made (both pid (λ _. both (number 4) (λ _. yes_or_no bad.Answer))) (λ i. record { from = i.0; n = i.1.0; answer = i.1.1 }) (λ i. (i.from, (i.n, i.answer)))

-- a message up to its kind
abbrev pub head_parts : Field Head
head_parts = made (both id (λ _. both addr (λ _. both addr (λ _. message_kind)))) (λ h. record { id = h.0; to = h.1.0; sender = h.1.1.0; kind = h.1.1.1 }) (λ h. (h.id, (h.to, (h.sender, h.kind))))

-- the name says that it is an answer where the kind is that of an answer
abbrev pub head : Field Head
head = tested head_parts (λ h. bool_eq h.id.answer (is_answer h.kind)) bad.Answer

abbrev pub head_of : Message → Head
head_of m = record { id = m.id; to = m.to; sender = m.sender; kind = kind_of m.what }

-- the message with this head that carries this
abbrev pub with_head : Head → What → Message
with_head h w = record { id = h.id; to = h.to; sender = h.sender; what = w }

unfoldable pub spell_message : Message → List ℕ
spell_message m = head.spell (head_of m) ++ spell_what m.what

unfoldable pub read_message : List ℕ → Result (Message × List ℕ) PacketError
read_message bytes = head.read bytes >>= λ h. read_what h.0.kind h.1 >>= λ w. Ok (with_head h.0 w.0, w.1)

abbrev pub message : Field Message
message = record { spell = spell_message; read = read_message }

-- whether it is an acknowledgement
abbrev pub number_of_packet_kind : PacketKind → ℕ
number_of_packet_kind kinds.Data = 1
number_of_packet_kind kinds.Ack = 2

abbrev pub packet_kind : Field PacketKind
packet_kind = coded (kinds.Data ∷ kinds.Ack ∷ []) number_of_packet_kind bad.PacketKind

-- the version, the kind, and the two machines, which differ
abbrev pub opening : Field Opening
opening = made (both (version 4) (λ _. both packet_kind (λ _. both machine (λ from. tested machine (λ to. not (to == from)) bad.Machine)))) (λ o. record { kind = o.1.0; from = o.1.1.0; to = o.1.1.1 }) (λ o. (4, (o.kind, (o.from, o.to))))

-- behind it stands a number, and in a data packet a message
abbrev pub numbered_message : Field (ℕ × Message)
numbered_message = both (number 4) (λ _. message)

-- the one spelling of a packet
unfoldable pub spelling : Packet → List ℕ
spelling (Data from to seq m) = opening.spell (record { kind = kinds.Data; from = from; to = to }) ++ (number 4).spell seq ++ spell_message m
spelling (Ack from to count) = opening.spell (record { kind = kinds.Ack; from = from; to = to }) ++ (number 4).spell count

abbrev pub read_data : ℕ → ℕ → List ℕ → Result (Packet × List ℕ) PacketError
read_data from to bytes = numbered_message.read bytes >>= λ x. Ok (Data from to x.0.0 x.0.1, x.1)

abbrev pub read_ack : ℕ → ℕ → List ℕ → Result (Packet × List ℕ) PacketError
read_ack from to bytes = (number 4).read bytes >>= λ x. Ok (Ack from to x.0, x.1)

unfoldable pub read_rest : PacketKind → ℕ → ℕ → List ℕ → Result (Packet × List ℕ) PacketError
read_rest kinds.Data from to bytes = read_data from to bytes
read_rest kinds.Ack from to bytes = read_ack from to bytes

-- nothing follows a packet
abbrev pub only_packet : Packet × List ℕ → Result Packet PacketError
only_packet p = if length p.1 == 0 then Ok p.0 else Err bad.Trailing

-- what the bytes spell, all of them, or the first rule that they break
unfoldable pub packet_of : List ℕ → Result Packet PacketError
packet_of bytes = opening.read bytes >>= λ o. read_rest o.0.kind o.0.from o.0.to o.1 >>= only_packet
