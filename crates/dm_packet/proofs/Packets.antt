-- What is read is spelled so, and what is spelled so is read: messages and packets.
use Rattle.dm_packet.proofs.Names.{◌≡◌, ℕ, ◌^◌, ◌<◌, true, eqb, List, [], ◌++◌, length, Result, Ok, refl, sym, ap, subst, ◌∙◌, append_assoc, arith, ◌≢◌, ◌==◌, not, eqb-true, eq-eqb, nat_tests, append-nil, nil_from_length}
use Rattle.dm_packet.proofs.Names.{IsMachine, MsgId, Message, What, kind_of, IsLawfulMessage, is_answer, PacketError, Packet, Data, Ack, ◌>>=◌, both, number, addr, machine, pid, message_kind, read_what, spell_what, yes_or_no, Head, Opening}
use Rattle.dm_packet.proofs.Names.{PacketKind, head, head_of, head_parts, id, message, numbered_message, only_packet, opening, packet_kind, packet_of, read_ack, read_data, read_message, read_rest}
use Rattle.dm_packet.proofs.Names.{bool_eq, Bool, Field, tested, spell_message, spelling, version, with_head, IsLawfulPacket, IsRoute, Fits, FitsId, FitsMessage, FitsPacket}
use Rattle.dm_packet.specs.declared.PacketError.TheVariants as bad
use Rattle.dm_packet.specs.declared.front.PacketKind.TheVariants as kinds
use Rattle.dm_packet.proofs.Numbers.{IsBytes}
use Rattle.dm_packet.proofs.Field.{IsField, IsField-both, IsField-for, IsField-made, IsField-number, IsField-tested, Took, bind_ok, guard_ok, ok_is, then_parts, took_same}
use Rattle.dm_packet.proofs.Fields.{IsSpelledAddr, IsSpelledPid, addr_is, machine_is, pid_is}
use Rattle.dm_packet.proofs.Coded.{message_kind_is, packet_kind_is, yes_or_no_is}
use Rattle.dm_packet.proofs.Whats.{bool_eq_refl, same_from, what_again, what_takes}

abbrev IsSpelledId : MsgId → Type 0
IsSpelledId i = IsMachine i.from.home × FitsId i

id_is : IsField id IsSpelledId
id_is =
    let from_number = IsField-both (number 4) (Fits 4) (IsField-number 4) (λ _. yes_or_no bad.Answer) (λ _ _. Unit {0}) (λ _. yes_or_no_is bad.Answer) in
    let parts = IsField-both pid IsSpelledPid pid_is (λ _. both (number 4) (λ _. yes_or_no bad.Answer)) (λ _ p. Fits 4 p.0 × Unit {0}) (λ _. from_number) in
    IsField-made (both pid (λ _. both (number 4) (λ _. yes_or_no bad.Answer))) (λ p. IsSpelledPid p.0 × (Fits 4 p.1.0 × Unit {0})) parts (λ i. record { from = i.0; n = i.1.0; answer = i.1.1 }) (λ i. (i.from, (i.n, i.answer))) IsSpelledId
    (λ i fits. (refl, (fits.0.0, (fits.0.1, fits.1.0))))
    (λ i fits. (((fits.0, fits.1.0), (fits.1.1, tt)), refl))

abbrev is_named_right : Head → Bool
is_named_right h = bool_eq h.id.answer (is_answer h.kind)

abbrev IsSpelledHead : Head → Type 0
IsSpelledHead h = IsSpelledId h.id × (IsSpelledAddr h.to × (IsSpelledAddr h.sender × Unit {0}))

head_is : IsField head (λ h. IsSpelledHead h × (is_named_right h ≡ true))
head_is =
    let from_sender = IsField-both addr IsSpelledAddr addr_is (λ _. message_kind) (λ _ _. Unit {0}) (λ _. message_kind_is) in
    let from_to = IsField-both addr IsSpelledAddr addr_is (λ _. both addr (λ _. message_kind)) (λ _ h. IsSpelledAddr h.0 × Unit {0}) (λ _. from_sender) in
    let parts = IsField-both id IsSpelledId id_is (λ _. both addr (λ _. both addr (λ _. message_kind))) (λ _ h. IsSpelledAddr h.0 × (IsSpelledAddr h.1.0 × Unit {0})) (λ _. from_to) in
    let whole = IsField-made (both id (λ _. both addr (λ _. both addr (λ _. message_kind)))) (λ h. IsSpelledId h.0 × (IsSpelledAddr h.1.0 × (IsSpelledAddr h.1.1.0 × Unit {0}))) parts (λ h. record { id = h.0; to = h.1.0; sender = h.1.1.0; kind = h.1.1.1 }) (λ h. (h.id, (h.to, (h.sender, h.kind)))) IsSpelledHead
    (λ h fits. (refl, fits))
    (λ h fits. (fits, refl)) in
    IsField-tested head_parts IsSpelledHead whole is_named_right bad.Answer

abbrev pub IsSpelledMessage : Message → Type 0
IsSpelledMessage m = IsLawfulMessage m × FitsMessage m

same_head : (h : Head) (w : What) → kind_of w ≡ h.kind → h ≡ head_of (with_head h w)
same_head h w e i = record { id = h.id; to = h.to; sender = h.sender; kind = sym e i }

abbrev finish : Head → What × List ℕ → Result (Message × List ℕ) PacketError
finish h w = Ok (with_head h w.0, w.1)

message_takes : (bytes : List ℕ) (m : Message) (rest : List ℕ) → IsBytes bytes → read_message bytes ≡ Ok (m, rest) → Took message IsSpelledMessage bytes m rest
unfolding read_message spell_message
message_takes bytes m rest h e =
    let a = bind_ok (head.read bytes) (λ h. read_what h.0.kind h.1 >>= λ w. finish h.0 w) (m, rest) e in
    let b = bind_ok (read_what a.0.0.kind a.0.1) (finish a.0.0) (m, rest) a.2 in
    let t = head_is.takes bytes a.0.0 a.0.1 h a.1 in
    let u = what_takes a.0.0.kind a.0.1 b.0.0 b.0.1 t.rest_fits b.1 in
    let parts = then_parts bytes (head.spell a.0.0) a.0.1 (spell_what b.0.0) b.0.1 t.parts u.parts in
    let whole : bytes ≡ (head.spell (head_of (with_head a.0.0 b.0.0)) ++ spell_what b.0.0) ++ b.0.1 = parts ∙ ap (λ (front : Head). (head.spell front ++ spell_what b.0.0) ++ b.0.1) (same_head a.0.0 b.0.0 u.kind) in
    let named : a.0.0.id.answer ≡ is_answer (kind_of b.0.0) = same_from a.0.0.id.answer (is_answer a.0.0.kind) t.fits.1 ∙ ap is_answer (sym u.kind) in
    took_same message IsSpelledMessage bytes (with_head a.0.0 b.0.0, b.0.1) (m, rest) b.2
    (record {
      parts = whole;
      rest_fits = u.rest_fits;
      fits = (
        record { from = t.fits.0.0.0; answer = named; to = t.fits.0.1.0.0; sender = t.fits.0.1.1.0.0; what = u.lawful },
        record { id = t.fits.0.0.1; to = t.fits.0.1.0.1; sender = t.fits.0.1.1.0.1; what = u.fits },
      );
    })

message_again : (m : Message) (rest : List ℕ) → IsSpelledMessage m → read_message (spell_message m ++ rest) ≡ Ok (m, rest)
unfolding read_message spell_message
message_again m rest fits =
    let lawful = fits.0 in
    let widths = fits.1 in
    let named : is_named_right (head_of m) ≡ true = rw lawful.answer (bool_eq_refl (is_answer (kind_of m.what))) in
    let first = head_is.again (head_of m) (spell_what m.what ++ rest) (((lawful.from, widths.id), ((lawful.to, widths.to), ((lawful.sender, widths.sender), tt))), named) in
    let regrouped = append_assoc (head.spell (head_of m)) (spell_what m.what) rest in
    ap (λ (bytes : List ℕ). head.read bytes >>= λ h. read_what h.0.kind h.1 >>= λ w. finish h.0 w) regrouped
    ∙ ap (λ (r : Result (Head × List ℕ) PacketError). r >>= λ h. read_what h.0.kind h.1 >>= λ w. finish h.0 w) first
    ∙ ap (λ (r : Result (What × List ℕ) PacketError). r >>= finish (head_of m)) (what_again m.what rest lawful.what widths.what)

pub message_is : IsField message IsSpelledMessage
message_is = record { takes = message_takes; again = message_again }

-- ---- the opening of a packet

abbrev IsSpelledOpening : Opening → Type 0
IsSpelledOpening o = IsRoute o.from o.to

abbrev other_machine : ℕ → Field ℕ
other_machine from = tested machine (λ to. not (to == from)) bad.Machine

not_same : (a b : ℕ) → not (eqb b a) ≡ true → b ≢ a
not_same a b e same = absurd (grind (arith, nat_tests))

not_same_test : (a b : ℕ) → b ≢ a → not (eqb b a) ≡ true
not_same_test a b apart = grind (arith, nat_tests)

opening_is : IsField opening IsSpelledOpening
opening_is =
    let four = IsField-for (version 4) (λ v. (v < 256 ^ 1) × (eqb v 4 ≡ true)) (λ v. v ≡ 4) (IsField-tested (number 1) (λ v. v < 256 ^ 1) (IsField-number 1) (λ v. v == 4) bad.Version) (λ v fits. eqb-true v 4 fits.1) (λ v e. (omega (arith, e), eq-eqb v 4 e)) in
    let others = λ (a : ℕ). IsField-for (other_machine a) (λ b. IsMachine b × (not (eqb b a) ≡ true)) (λ b. IsMachine b × (b ≢ a)) (IsField-tested machine IsMachine machine_is (λ b. not (b == a)) bad.Machine) (λ b fits. (fits.0, not_same a b fits.1)) (λ b fits. (fits.0, not_same_test a b fits.1)) in
    let from_machines = IsField-both machine IsMachine machine_is other_machine (λ a b. IsMachine b × (b ≢ a)) others in
    let from_kind = IsField-both packet_kind (λ _. Unit {0}) packet_kind_is (λ _. both machine other_machine) (λ _ m. IsMachine m.0 × (IsMachine m.1 × (m.1 ≢ m.0))) (λ _. from_machines) in
    let parts = IsField-both (version 4) (λ v. v ≡ 4) four (λ _. both packet_kind (λ _. both machine other_machine)) (λ _ o. Unit {0} × (IsMachine o.1.0 × (IsMachine o.1.1 × (o.1.1 ≢ o.1.0)))) (λ _. from_kind) in
    IsField-made (both (version 4) (λ _. both packet_kind (λ _. both machine other_machine))) (λ o. (o.0 ≡ 4) × (Unit {0} × (IsMachine o.1.1.0 × (IsMachine o.1.1.1 × (o.1.1.1 ≢ o.1.1.0))))) parts
    (λ o. record { kind = o.1.0; from = o.1.1.0; to = o.1.1.1 }) (λ o. (4, (o.kind, (o.from, o.to)))) IsSpelledOpening
    (λ o fits. ((λ i. (sym fits.0 i, o.1)), record { from = fits.1.1.0; to = fits.1.1.1.0; apart = fits.1.1.1.1 }))
    (λ o fits. ((refl, (tt, (fits.from, (fits.to, fits.apart)))), refl))

-- ---- what stands behind the opening

numbered_message_is : IsField numbered_message (λ x. Fits 4 x.0 × IsSpelledMessage x.1)
numbered_message_is = IsField-both (number 4) (Fits 4) (IsField-number 4) (λ _. message) (λ _. IsSpelledMessage) (λ _. message_is)

abbrev opening_of : Packet → Opening
opening_of (Data from to seq m) = record { kind = kinds.Data; from = from; to = to }
opening_of (Ack from to count) = record { kind = kinds.Ack; from = from; to = to }

abbrev spell_rest : Packet → List ℕ
spell_rest (Data from to seq m) = (number 4).spell seq ++ spell_message m
spell_rest (Ack from to count) = (number 4).spell count

spelled_parts : (p : Packet) → opening.spell (opening_of p) ++ spell_rest p ≡ spelling p
unfolding spelling
spelled_parts (Data from to seq m) = refl
spelled_parts (Ack from to count) = refl

record TookRest (o : Opening) (bytes : List ℕ) (p : Packet) (rest : List ℕ) : Type 0 where
  parts : bytes ≡ spell_rest p ++ rest
  front : opening_of p ≡ o
  lawful : IsRoute o.from o.to → IsLawfulPacket p
  fits : FitsPacket p

data_takes : (a b : ℕ) (bytes : List ℕ) (p : Packet) (rest : List ℕ) → IsBytes bytes → read_data a b bytes ≡ Ok (p, rest) → TookRest (record { kind = kinds.Data; from = a; to = b }) bytes p rest
data_takes a b bytes p rest h e =
    let x = bind_ok (numbered_message.read bytes) (λ x. Ok (Data a b x.0.0 x.0.1, x.1)) (p, rest) e in
    let t = numbered_message_is.takes bytes x.0.0 x.0.1 h x.1 in
    subst (λ (q : Packet × List ℕ). TookRest (record { kind = kinds.Data; from = a; to = b }) bytes q.0 q.1) (ok_is (Data a b x.0.0.0 x.0.0.1, x.0.1) (p, rest) x.2)
    (record { parts = t.parts; front = refl; lawful = λ route. (route, t.fits.1.0); fits = (t.fits.0, t.fits.1.1) })

ack_takes : (a b : ℕ) (bytes : List ℕ) (p : Packet) (rest : List ℕ) → IsBytes bytes → read_ack a b bytes ≡ Ok (p, rest) → TookRest (record { kind = kinds.Ack; from = a; to = b }) bytes p rest
ack_takes a b bytes p rest h e =
    let x = bind_ok ((number 4).read bytes) (λ x. Ok (Ack a b x.0, x.1)) (p, rest) e in
    let t = (IsField-number 4).takes bytes x.0.0 x.0.1 h x.1 in
    subst (λ (q : Packet × List ℕ). TookRest (record { kind = kinds.Ack; from = a; to = b }) bytes q.0 q.1) (ok_is (Ack a b x.0.0, x.0.1) (p, rest) x.2)
    (record { parts = t.parts; front = refl; lawful = λ route. route; fits = t.fits })

rest_takes : (k : PacketKind) (a b : ℕ) (bytes : List ℕ) (p : Packet) (rest : List ℕ) → IsBytes bytes → read_rest k a b bytes ≡ Ok (p, rest) → TookRest (record { kind = k; from = a; to = b }) bytes p rest
unfolding read_rest
rest_takes kinds.Data = data_takes
rest_takes kinds.Ack = ack_takes

-- what some bytes are read as is lawful, and they are its spelling
pub packet_takes : (bytes : List ℕ) (p : Packet) → IsBytes bytes → packet_of bytes ≡ Ok p → (bytes ≡ spelling p) × IsLawfulPacket p × FitsPacket p
unfolding packet_of
packet_takes bytes p h e =
    let o = bind_ok (opening.read bytes) (λ o. read_rest o.0.kind o.0.from o.0.to o.1 >>= only_packet) p e in
    let r = bind_ok (read_rest o.0.0.kind o.0.0.from o.0.0.to o.0.1) only_packet p o.2 in
    let g = guard_ok (eqb (length r.0.1) 0) bad.Trailing r.0.0 p r.2 in
    let nothing : r.0.1 ≡ [] = nil_from_length r.0.1 (eqb-true _ _ g.0) in
    let t = opening_is.takes bytes o.0.0 o.0.1 h o.1 in
    let u = rest_takes o.0.0.kind o.0.0.from o.0.0.to o.0.1 r.0.0 r.0.1 t.rest_fits r.1 in
    let parts = then_parts bytes (opening.spell o.0.0) o.0.1 (spell_rest r.0.0) r.0.1 t.parts u.parts in
    let whole : bytes ≡ spelling r.0.0 =
    parts
    ∙ ap (λ (rest : List ℕ). (opening.spell o.0.0 ++ spell_rest r.0.0) ++ rest) nothing
    ∙ append-nil (opening.spell o.0.0 ++ spell_rest r.0.0)
    ∙ ap (λ (front : Opening). opening.spell front ++ spell_rest r.0.0) (sym u.front)
    ∙ spelled_parts r.0.0 in
    subst (λ (q : Packet). (bytes ≡ spelling q) × IsLawfulPacket q × FitsPacket q) g.1 (whole, u.lawful t.fits, u.fits)

-- the spelling of a lawful packet is read as that packet
pub packet_again : (p : Packet) → IsLawfulPacket p → FitsPacket p → packet_of (spelling p) ≡ Ok p
unfolding packet_of read_rest spelling
packet_again (Data a b seq m) lawful fits =
    let first = opening_is.again (record { kind = kinds.Data; from = a; to = b }) (numbered_message.spell (seq, m)) lawful.0 in
    let second = numbered_message_is.again (seq, m) [] (fits.0, (lawful.1, fits.1)) in
    let no_more = append-nil (numbered_message.spell (seq, m)) in
    ap (λ (r : Result (Opening × List ℕ) PacketError). r >>= λ o. read_rest o.0.kind o.0.from o.0.to o.1 >>= only_packet) first
    ∙ ap (λ (r : Result ((ℕ × Message) × List ℕ) PacketError). (r >>= λ x. Ok (Data a b x.0.0 x.0.1, x.1)) >>= only_packet) (ap numbered_message.read (sym no_more) ∙ second)
packet_again (Ack a b count) lawful fits =
    let first = opening_is.again (record { kind = kinds.Ack; from = a; to = b }) ((number 4).spell count) lawful in
    let second = (IsField-number 4).again count [] fits in
    let no_more = append-nil ((number 4).spell count) in
    ap (λ (r : Result (Opening × List ℕ) PacketError). r >>= λ o. read_rest o.0.kind o.0.from o.0.to o.1 >>= only_packet) first
    ∙ ap (λ (r : Result (ℕ × List ℕ) PacketError). (r >>= λ x. Ok (Ack a b x.0, x.1)) >>= only_packet) (ap (number 4).read (sym no_more) ∙ second)
