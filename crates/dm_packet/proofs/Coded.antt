-- Values that a byte stands for, and values that may be absent.
use Rattle.dm_packet.proofs.Names.{◌≡◌, ℕ, ◌<◌, Bool, true, false, cond, List, [], ◌∷◌, ◌++◌, Option, None, Some, is_some, ok_or, option_map, Ok, refl, sym, ap, subst, ◌∙◌, arith, inl, inr, ◌==◌, ◌⊎◌, find, IfSome, eqb-true, Outcome}
use Rattle.dm_packet.proofs.Names.{MessageKind, all_kinds, number_of, PacketError, PacketKind, Field, both, number, bit_of, number_of_packet_kind, packet_kind, code_of_outcome, coded}
use Rattle.dm_packet.proofs.Names.{held_if, message_kind, optional, outcome_field, yes_or_no}
use Rattle.dm_message.specs.declared.Outcome.TheVariants as ends
use Rattle.dm_message.specs.declared.kind.MessageKind.TheVariants as kind
use Rattle.dm_packet.specs.declared.PacketError.TheVariants as bad
use Rattle.dm_packet.specs.declared.front.PacketKind.TheVariants as packets
use Rattle.dm_packet.proofs.Numbers.{IsBytes}
use Rattle.dm_packet.proofs.Field.{IsField, IsField-both, IsField-made, IsField-number, Took, bind_ok, ok_is, took_same}

coded_ok : {X : Type 0} (found : Option X) (n : List ℕ) (rule : PacketError) (x : X) (rest : List ℕ) → ok_or {T = X × List ℕ} (option_map (λ y. (y, n)) found) rule ≡ Ok (x, rest) → (found ≡ Some x) × (n ≡ rest)
coded_ok None n rule x rest e = absurd cc
coded_ok {X} (Some y) n rule x rest e = let same = ok_is (y, n) (x, rest) e in (ap (λ (p : X × List ℕ). Some p.0) same, ap (λ (p : X × List ℕ). p.1) same)

first_or_later : {X : Type 0} (b : Bool) (x y : X) (later : Option X) → cond b (Some x) later ≡ Some y → ((b ≡ true) × (Some x ≡ Some y)) ⊎ (later ≡ Some y)
first_or_later true x y later e = inl (refl, e)
first_or_later false x y later e = inr e

some_is : {X : Type 0} (x y : X) → Some x ≡ Some y → x ≡ y
some_is x y e = cc

-- what is found passes the test
found_passes : {X : Type 0} (test : X → Bool) (xs : List X) (y : X) → find test xs ≡ Some y → test y ≡ true
found_passes test [] y e = absurd cc
found_passes test (x ∷ xs) y e =
    elim (first_or_later (test x) x y (find test xs) e) [
      | inl first ↦ ap test (sym (some_is x y first.1)) ∙ first.0
      | inr later ↦ found_passes test xs y later
    ]

-- a byte that stands for one of some values, each of which is found by its own
pub coded_is : {X : Type 0} (all : List X) (code : X → ℕ) (rule : PacketError) → ((x : X) → code x < 256) → ((x : X) → find (λ y. code x == code y) all ≡ Some x) → IsField (coded all code rule) (λ _. Unit {0})
coded_is {X} all code rule small there = record {
  takes = λ bytes x rest h e.
      let a = bind_ok ((number 1).read bytes) (λ n. ok_or {T = X × List ℕ} (option_map (λ y. (y, n.1)) (find (λ y. n.0 == code y) all)) rule) (x, rest) e in
      let t = (IsField-number 1).takes bytes a.0.0 a.0.1 h a.1 in
      let found = coded_ok (find (λ y. a.0.0 == code y) all) a.0.1 rule x rest a.2 in
      let same : a.0.0 ≡ code x = eqb-true _ _ (found_passes (λ y. a.0.0 == code y) all x found.0) in
      let parts : bytes ≡ (number 1).spell (code x) ++ rest = t.parts ∙ (λ i. (number 1).spell (same i) ++ found.1 i) in
      record { parts = parts; rest_fits = subst IsBytes found.1 t.rest_fits; fits = tt };
  again = λ x rest fits. rw ((IsField-number 1).again (code x) rest (small x), there x) refl;
}

bool_small : (b : Bool) → bit_of b < 256
bool_small true = omega arith
bool_small false = omega arith

bool_there : (b : Bool) → find (λ c. bit_of b == bit_of c) (false ∷ true ∷ []) ≡ Some b
bool_there true = refl
bool_there false = refl

pub yes_or_no_is : (rule : PacketError) → IsField (yes_or_no rule) (λ _. Unit {0})
yes_or_no_is rule = coded_is (false ∷ true ∷ []) bit_of rule bool_small bool_there

outcome_small : (o : Outcome) → code_of_outcome o < 256
outcome_small ends.Done = omega arith
outcome_small ends.Stayed = omega arith
outcome_small ends.Ended = omega arith

outcome_there : (o : Outcome) → find (λ e. code_of_outcome o == code_of_outcome e) (ends.Done ∷ ends.Stayed ∷ ends.Ended ∷ []) ≡ Some o
outcome_there ends.Done = refl
outcome_there ends.Stayed = refl
outcome_there ends.Ended = refl

pub outcome_is : IsField outcome_field (λ _. Unit {0})
outcome_is = coded_is (ends.Done ∷ ends.Stayed ∷ ends.Ended ∷ []) code_of_outcome bad.Limit outcome_small outcome_there

kind_of_packet_small : (k : PacketKind) → number_of_packet_kind k < 256
kind_of_packet_small packets.Data = omega arith
kind_of_packet_small packets.Ack = omega arith

kind_of_packet_there : (k : PacketKind) → find (λ j. number_of_packet_kind k == number_of_packet_kind j) (packets.Data ∷ packets.Ack ∷ []) ≡ Some k
kind_of_packet_there packets.Data = refl
kind_of_packet_there packets.Ack = refl

pub packet_kind_is : IsField packet_kind (λ _. Unit {0})
packet_kind_is = coded_is (packets.Data ∷ packets.Ack ∷ []) number_of_packet_kind bad.PacketKind kind_of_packet_small kind_of_packet_there

kind_small : (k : MessageKind) → number_of k < 256
kind_small kind.User = omega arith
kind_small kind.Stop = omega arith
kind_small kind.Resume = omega arith
kind_small kind.Kill = omega arith
kind_small kind.Read = omega arith
kind_small kind.Write = omega arith
kind_small kind.Block = omega arith
kind_small kind.Written = omega arith
kind_small kind.Gone = omega arith
kind_small kind.Create = omega arith
kind_small kind.Created = omega arith
kind_small kind.NoRoom = omega arith
kind_small kind.Migrate = omega arith
kind_small kind.Update = omega arith
kind_small kind.Ask = omega arith
kind_small kind.Refuse = omega arith
kind_small kind.PullState = omega arith
kind_small kind.State = omega arith
kind_small kind.PullBlock = omega arith
kind_small kind.Memory = omega arith
kind_small kind.AllTaken = omega arith
kind_small kind.Restart = omega arith
kind_small kind.Move = omega arith
kind_small kind.Moved = omega arith
kind_small kind.CallOff = omega arith
kind_small kind.Bury = omega arith

kind_there : (k : MessageKind) → find (λ j. number_of k == number_of j) all_kinds ≡ Some k
kind_there kind.User = refl
kind_there kind.Stop = refl
kind_there kind.Resume = refl
kind_there kind.Kill = refl
kind_there kind.Read = refl
kind_there kind.Write = refl
kind_there kind.Block = refl
kind_there kind.Written = refl
kind_there kind.Gone = refl
kind_there kind.Create = refl
kind_there kind.Created = refl
kind_there kind.NoRoom = refl
kind_there kind.Migrate = refl
kind_there kind.Update = refl
kind_there kind.Ask = refl
kind_there kind.Refuse = refl
kind_there kind.PullState = refl
kind_there kind.State = refl
kind_there kind.PullBlock = refl
kind_there kind.Memory = refl
kind_there kind.AllTaken = refl
kind_there kind.Restart = refl
kind_there kind.Move = refl
kind_there kind.Moved = refl
kind_there kind.CallOff = refl
kind_there kind.Bury = refl

pub message_kind_is : IsField message_kind (λ _. Unit {0})
message_kind_is = coded_is all_kinds number_of bad.MessageKind kind_small kind_there

abbrev pub IsHeld : {X : Type 0} → (X → Type 0) → Bool → Option X → Type 0
IsHeld Fits holds o = (is_some o ≡ holds) × IfSome o Fits

held_takes : {X : Type 0} (f : Field X) (Fits : X → Type 0) → IsField f Fits → (holds : Bool) (bytes : List ℕ) (o : Option X) (rest : List ℕ) → IsBytes bytes → (held_if f holds).read bytes ≡ Ok (o, rest) → Took (held_if f holds) (IsHeld Fits holds) bytes o rest
held_takes f Fits is false bytes o rest h e = took_same (held_if f false) (IsHeld Fits false) bytes (None, bytes) (o, rest) e (record { parts = refl; rest_fits = h; fits = (refl, tt) })
held_takes f Fits is true bytes o rest h e =
    let a = bind_ok (f.read bytes) (λ x. Ok (Some x.0, x.1)) (o, rest) e in
    let t = is.takes bytes a.0.0 a.0.1 h a.1 in
    took_same (held_if f true) (IsHeld Fits true) bytes (Some a.0.0, a.0.1) (o, rest) a.2 (record { parts = t.parts; rest_fits = t.rest_fits; fits = (refl, t.fits) })

held_again : {X : Type 0} (f : Field X) (Fits : X → Type 0) → IsField f Fits → (holds : Bool) (o : Option X) (rest : List ℕ) → IsHeld Fits holds o → (held_if f holds).read ((held_if f holds).spell o ++ rest) ≡ Ok (o, rest)
held_again f Fits is false None rest fits = refl
held_again f Fits is false (Some x) rest (some, fits) = absurd cc
held_again f Fits is true None rest (some, fits) = absurd cc
held_again f Fits is true (Some x) rest fits = rw (is.again x rest fits.1) refl

-- a value where there is one, or nothing
pub held_is : {X : Type 0} (f : Field X) (Fits : X → Type 0) → IsField f Fits → (holds : Bool) → IsField (held_if f holds) (IsHeld Fits holds)
held_is f Fits is holds = record { takes = held_takes f Fits is holds; again = held_again f Fits is holds }

pub optional_is : {X : Type 0} (f : Field X) (Fits : X → Type 0) → IsField f Fits → IsField (optional f) (λ o. IfSome o Fits)
optional_is f Fits is =
    IsField-made (both (yes_or_no bad.Flags) (held_if f)) (λ p. Unit {0} × IsHeld Fits p.0 p.1) (IsField-both (yes_or_no bad.Flags) (λ _. Unit {0}) (yes_or_no_is bad.Flags) (held_if f) (IsHeld Fits) (held_is f Fits is)) (λ p. p.1) (λ o. (is_some o, o)) (λ o. IfSome o Fits)
    (λ p fits. ((λ i. (fits.1.0 i, p.1)), fits.1.1))
    (λ o fits. ((tt, (refl, fits)), refl))
