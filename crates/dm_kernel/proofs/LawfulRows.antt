-- What the rows of a turn give is lawful.
use Rattle.dm_kernel.proofs.Names.{◌≡◌, ℕ, ◌-◌, ◌*◌, ◌<◌, ◌≤◌, Bool, true, false, ◌==◌, if◌then◌else◌, List, [], ◌∷◌, ◌++◌, length, map, replicate, Some, None, refl, sym, subst, inl, inr, ◌⊎◌, arith, All, IfSome, common_steps, All-append}
use Rattle.dm_kernel.proofs.Names.{All-cons, All-map, All-nil, All-push, nat_tests, Option, Link, Pid, IsMachine, IsLawfulEnclosed, pid_eq, Message, What, kind_of, IsLawfulMessage, IsLawfulWhat, is_answer, Process, IsLawfulProcess}
use Rattle.dm_kernel.proofs.Names.{SlotIsLawful, Here, with_record, Taken, answer, Boot, BootImage, Format, One, Two, Why, image_is_valid, slots_of, memory_of, slots_with, Line, Part, Says, Routes, child_of, with_child, routes}
use Rattle.dm_kernel.proofs.Names.{AreLawful, IsLawfulKnown, IsLawfulPart, IsLawfulRoom, IsLawfulState, IsLawfulTurned, KernelState, KernelKnown, Turned, drops, with_here, without_process, forgets, Resident}
use Rattle.dm_kernel.proofs.Names.{IsLawfulResident, name_of, room_with, room_without}
use Rattle.dm_resident.specs.declared.Resident.TheVariants as resident

-- what there is of a turn is lawful
abbrev pub Lawfully : Option Turned → Type 0
Lawfully None = Unit {0}
Lawfully (Some t) = IsLawfulTurned t

-- of two rows the one that there is
pub if_lawfully : (b : Bool) (t u : Option Turned) → (b ≡ true → Lawfully t) → (b ≡ false → Lawfully u) → Lawfully (if b then t else u)
if_lawfully true t u h k = h refl
if_lawfully false t u h k = k refl

-- lists of parts
pub none_said : AreLawful []
none_said = record { each = All-nil IsLawfulPart }

pub said : {l : Line} {parts : List Part} → AreLawful parts → AreLawful (Says l ∷ parts)
said {l = l} {parts = parts} h = record { each = All-cons IsLawfulPart (Says l) parts tt h.each }

pub routed : (m : Message) → IsLawfulMessage m → AreLawful (Routes m ∷ [])
routed m h = record { each = All-cons IsLawfulPart (Routes m) [] h (All-nil IsLawfulPart) }

pub routes_lawfully : (o : Option Message) → IfSome o IsLawfulMessage → AreLawful (routes o)
routes_lawfully None h = none_said
routes_lawfully (Some m) h = routed m h

pub all_said : (ls : List Line) (parts : List Part) → AreLawful parts → AreLawful (map Says ls ++ parts)
all_said [] parts h = h
all_said (l ∷ ls) parts h = said (all_said ls parts h)

pub all_dropped : (ms : List Message) → AreLawful (drops ms)
all_dropped [] = none_said
all_dropped (m ∷ ms) = said (all_dropped ms)

-- what is known of a process is set
known_or : (same : Bool) (k : KernelKnown) (o : Option KernelKnown) → IsLawfulKnown k → IfSome o IsLawfulKnown → IfSome (if same then Some k else o) IsLawfulKnown
known_or true k o lawful h = lawful
known_or false k o lawful h = h

pub knows : (s : KernelState) (p : Pid) (k : KernelKnown) → IsLawfulState s → IsLawfulKnown k → (q : Pid) → IfSome (with_record s.records p k q) IsLawfulKnown
knows s p k h lawful q = known_or (pid_eq p q) k (s.records q) lawful (h.records q)

-- what is known of one
pub of_known : (s : KernelState) (p : Pid) (o : Option KernelKnown) → IsLawfulState s → s.records p ≡ o → IfSome o IsLawfulKnown
of_known s p o h e = subst (λ (o : Option KernelKnown). IfSome o IsLawfulKnown) e (h.records p)

-- as many slots and blocks as before
pub same_room : (r : Taken) (slots blocks : ℕ) → IsLawfulRoom r → IsLawfulRoom (record r { taken_slots = slots; taken_blocks = blocks })
same_room r slots blocks h = record { slots = h.slots; blocks = h.blocks }

-- what moves takes room, or gives it back
room_or : (none : Bool) (r t : Taken) → IsLawfulRoom r → IsLawfulRoom t → IsLawfulRoom (if none then r else t)
room_or true r t h k = h
room_or false r t h k = k

pub with_more : (r : Taken) (blocks : ℕ) → IsLawfulRoom r → IsLawfulRoom (room_with r blocks)
with_more r blocks h = room_or (blocks == 0) r _ h (same_room r _ _ h)

pub with_less : (r : Taken) (blocks : ℕ) → IsLawfulRoom r → IsLawfulRoom (room_without r blocks)
with_less r blocks h = room_or (blocks == 0) r _ h (same_room r _ _ h)

-- the home of a lawful process, and that of a server
pub home_lawful : (r : Resident) → IsLawfulResident r → IsMachine (name_of r).home
home_lawful (resident.Process x) h = h.home
home_lawful (resident.Board v) h = omega arith
home_lawful (resident.Manager v) h = omega arith

pub with_process : (s : KernelState) (p : Pid) (x : Process) → IsLawfulState s → IsLawfulProcess x → IsLawfulState (with_here s p x)
with_process s p x h lawful = record { records = knows s p (Here (resident.Process x)) h lawful; room = h.room; inbox = h.inbox }

-- a process is forgotten
none_or : (same : Bool) (o : Option KernelKnown) → IfSome o IsLawfulKnown → IfSome (if same then None else o) IsLawfulKnown
none_or true o h = tt
none_or false o h = h

pub forgotten : (s : KernelState) (p : Pid) → IsLawfulState s → IsLawfulState (forgets s p)
forgotten s p h = record { records = λ q. none_or (pid_eq p q) (s.records q) (h.records q); room = h.room; inbox = h.inbox }

pub without : (s : KernelState) (p : Pid) (x : Process) (w : Why) → IsLawfulState s → IsLawfulState (without_process s p x w)
without s p x w h = record { records = (forgotten s p h).records; room = same_room s.room _ _ h.room; inbox = h.inbox }

pub with_one_more : (s : KernelState) (p : Pid) (x : Process) (blocks : ℕ) → IsLawfulState s → IsLawfulProcess x → IsLawfulState (with_child s p x blocks)
with_one_more s p x blocks h lawful =
    record { records = knows s p (Here (resident.Process x)) h lawful; room = same_room s.room _ _ h.room; inbox = h.inbox }

pub with_queued : (x : Process) (m : Message) → IsLawfulProcess x → IsLawfulMessage m → IsLawfulProcess (record x { queue = x.queue ++ m ∷ [] })
with_queued x m h k =
    record {
      home = h.home;
      registers = h.registers;
      size = h.size;
      links = h.links;
      slots = h.slots;
      status = h.status;
      queue = All-push IsLawfulMessage x.queue m h.queue k;
    }

pub with_stopped : (x : Process) (stopped : Bool) → IsLawfulProcess x → IsLawfulProcess (record x { stopped = stopped })
with_stopped x stopped h =
    record { home = h.home; registers = h.registers; size = h.size; links = h.links; slots = h.slots; status = h.status; queue = h.queue }

-- an answer under a lawful request's name
pub answer_lawfully : (here moves : ℕ) (m : Message) (w : What) → here < 16 → IsLawfulMessage m → is_answer (kind_of w) ≡ true → IsLawfulWhat w → IsLawfulMessage (answer here moves m w)
answer_lawfully here moves m w machine h kind what =
    record { from = h.from; answer = sym kind; to = h.sender; sender = record { home = h.to.home; at = omega arith }; what = what }
