-- The definitions, computed on worked bytes.
use Rattle.dm_packet.proofs.Names.{◌≡◌, ℕ, false, true, Some, List, [], ◌∷◌, Ok, Err, refl, Addr, Reply, Link, What, Ask, User, Answer, Version, Packet, Data, Ack, link, packet_of, read_message, read_rest, spell_message, spelling}
use Rattle.dm_packet.proofs.Names.{read_what, spell_what}
use Rattle.dm_message.specs.declared.kind.MessageKind.TheVariants as kind

-- from 0.3 at machine 0 to 1.3 at machine 1, the bytes `hi` with code 7, first on its wire
abbrev hi : Packet
hi =
    Data 0 1 0
    (record {
      id = record { from = record { home = 0; num = 3 }; n = 0; answer = false };
      to = record { pid = record { home = 1; num = 3 }; at = 1; moves = 0 };
      sender = record { pid = record { home = 0; num = 3 }; at = 0; moves = 0 };
      what = User 7 0 (record { items = 104 ∷ 105 ∷ [] }) (record { items = [] });
    })

-- its bytes, with this version and this answer byte
abbrev hi_bytes : ℕ → ℕ → List ℕ
hi_bytes version answer =
    version ∷ 1 ∷ 0 ∷ 1 ∷ 0 ∷ 0 ∷ 0 ∷ 0 ∷ 0 ∷ 0 ∷ 0 ∷ 0 ∷ 3 ∷ 0 ∷ 0 ∷ 0 ∷ 0 ∷ answer ∷ 1 ∷ 0 ∷ 0 ∷ 0 ∷ 3 ∷ 1 ∷ 0 ∷ 0 ∷ 0 ∷ 0 ∷ 0 ∷ 0 ∷ 0 ∷ 0 ∷ 3 ∷ 0 ∷ 0 ∷ 0 ∷ 0 ∷ 0
    ∷ 1 ∷ 0 ∷ 0 ∷ 0 ∷ 7 ∷ 0 ∷ 0 ∷ 2 ∷ 104 ∷ 105 ∷ 0 ∷ []

pub hi_is_spelled : spelling hi ≡ hi_bytes 4 0
unfolding spelling spell_message spell_what
hi_is_spelled = refl

pub hi_is_read : packet_of (hi_bytes 4 0) ≡ Ok hi
unfolding packet_of read_rest read_message read_what
hi_is_read = refl

pub another_version : packet_of (hi_bytes 2 0) ≡ Err Version
unfolding packet_of read_rest read_message read_what
another_version = refl

pub an_answer_of_no_kind : packet_of (hi_bytes 4 1) ≡ Err Answer
unfolding packet_of read_rest read_message read_what
an_answer_of_no_kind = refl

pub its_acknowledgement : packet_of (4 ∷ 2 ∷ 1 ∷ 0 ∷ 0 ∷ 0 ∷ 0 ∷ 1 ∷ []) ≡ Ok (Ack 1 0 1)
unfolding packet_of read_rest
its_acknowledgement = refl

-- a reply link with code 9 and channel 30 to 2.5 at machine 3, moved 6 times, with the area of 256 bytes from 65,280 on
abbrev to : Addr
to = record { pid = record { home = 2; num = 5 }; at = 3; moves = 6 }

abbrev reply : Link
reply = record { addr = to; kind = Reply; to_kernel = false; code = 9; channel = 30; area = record { base = 65280; len = 256; read = true; write = true } }

abbrev reply_bytes : List ℕ
reply_bytes = 2 ∷ 0 ∷ 0 ∷ 0 ∷ 5 ∷ 3 ∷ 0 ∷ 0 ∷ 0 ∷ 6 ∷ 13 ∷ 0 ∷ 0 ∷ 0 ∷ 9 ∷ 30 ∷ 0 ∷ 0 ∷ 255 ∷ 0 ∷ 0 ∷ 0 ∷ 1 ∷ 0 ∷ []

pub a_link_is_spelled : link.spell reply ≡ reply_bytes
a_link_is_spelled = refl

pub a_link_is_read : link.read reply_bytes ≡ Ok (reply, [])
a_link_is_read = refl

-- the ask of 2.5 with 256 blocks, moved 7 times, with 384 state bytes, for the fourth request of 2.5 at machine 3
abbrev question : What
question = Ask (record { home = 2; num = 5 }) 256 7 384 (Some (record { n = 4; addr = to }))

abbrev question_bytes : List ℕ
question_bytes =
    2 ∷ 0 ∷ 0 ∷ 0 ∷ 5 ∷ 1 ∷ 0 ∷ 0 ∷ 0 ∷ 0 ∷ 7 ∷ 0 ∷ 0 ∷ 1 ∷ 128 ∷ 1 ∷ 0 ∷ 0 ∷ 0 ∷ 4 ∷ 2 ∷ 0 ∷ 0 ∷ 0 ∷ 5 ∷ 3 ∷ 0 ∷ 0 ∷ 0 ∷ 6 ∷ []

pub an_ask_is_spelled : spell_what question ≡ question_bytes
unfolding spell_what
an_ask_is_spelled = refl

pub an_ask_is_read : read_what kind.Ask question_bytes ≡ Ok (question, [])
unfolding read_what
an_ask_is_read = refl

pub its_acknowledgement_is_spelled : spelling (Ack 1 0 1) ≡ 4 ∷ 2 ∷ 1 ∷ 0 ∷ 0 ∷ 0 ∷ 0 ∷ 1 ∷ []
unfolding spelling
its_acknowledgement_is_spelled = refl
