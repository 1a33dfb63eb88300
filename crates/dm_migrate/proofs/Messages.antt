-- Messages that go on keep their plain meaning.
use Rattle.dm_migrate.proofs.Names.{ℕ, ◌≡◌, ◌∙◌, List, [], ◌∷◌, ◌++◌, map, Option, None, Some, ap, ap₂, slice_index_or, subst, sym, refl, All, map-append, All-append, All-map, IsMachine, IsLawfulMessage, Message, PlainWhat, plain_message}
use Rattle.dm_migrate.proofs.Names.{arith, plain_what, with_what, sent_on, IsLawfulResident, queue_of}
use Rattle.dm_resident.specs.declared.Resident.{Resident}
use Rattle.dm_resident.specs.declared.Resident.TheVariants as resident

plain_with : (at moves : ℕ) (m : Message) (w : Option PlainWhat) → with_what (sent_on at moves m) w ≡ with_what m w
plain_with at moves m None = refl
plain_with at moves m (Some w) = refl

pub plain_all : (at moves : ℕ) (ms : List Message) → map plain_message (map (sent_on at moves) ms) ≡ map plain_message ms
plain_all at moves [] = refl
plain_all at moves (m ∷ ms) = ap₂ (λ (x : _) (xs : _). x ∷ xs) (plain_with at moves m (plain_what m.what)) (plain_all at moves ms)

-- what goes on to a machine is lawful
pub lawful_on : (at moves : ℕ) (m : Message) → IsMachine at → IsLawfulMessage m → IsLawfulMessage (sent_on at moves m)
lawful_on at moves m a l = record {
  from = l.from;
  answer = l.answer;
  to = record { home = l.to.home; at = a };
  sender = l.sender;
  what = l.what;
}

-- what was sent on: the queue, and then what was held
pub all_on : (at moves : ℕ) (start half all queue held : List Message) → start ≡ [] → half ≡ start ++ map (sent_on at moves) queue → all ≡ half ++ map (sent_on at moves) held → all ≡ map (sent_on at moves) (queue ++ held)
all_on at moves start half all queue held e f g =
    let h : half ≡ map (sent_on at moves) queue = f ∙ ap (λ (ms : List Message). ms ++ map (sent_on at moves) queue) e in
    g ∙ ap (λ (ms : List Message). ms ++ map (sent_on at moves) held) h ∙ sym (map-append (sent_on at moves) queue held)

-- it keeps its plain meaning, and is lawful
pub plain_on : (at moves : ℕ) (all queue held : List Message) → all ≡ map (sent_on at moves) (queue ++ held) → map plain_message all ≡ map plain_message (queue ++ held)
plain_on at moves all queue held e = ap (λ (ms : List Message). map plain_message ms) e ∙ plain_all at moves (queue ++ held)

pub lawful_all : (at moves : ℕ) (all queue held : List Message) → all ≡ map (sent_on at moves) (queue ++ held) → IsMachine at → All IsLawfulMessage queue → All IsLawfulMessage held → All IsLawfulMessage all
lawful_all at moves all queue held e a q h =
    let l : All IsLawfulMessage (queue ++ held) = All-append IsLawfulMessage queue held q h in
    subst (λ (ms : List Message). All IsLawfulMessage ms) (sym e)
    (All-map IsLawfulMessage (sent_on at moves) (queue ++ held) (λ k d i. lawful_on at moves (slice_index_or (queue ++ held) k d) a (l k d i)))

-- what waits for what is lawful is lawful
pub queue_lawful : (r : Resident) → IsLawfulResident r → All IsLawfulMessage (queue_of r)
queue_lawful (resident.Process x) l = l.queue
queue_lawful (resident.Board b) l = λ k d i. absurd (omega (arith, i))
queue_lawful (resident.Manager g) l = λ k d i. absurd (omega (arith, i))
