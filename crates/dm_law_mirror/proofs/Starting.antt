-- What a machine has as the boot file has it, field by field.
use Rattle.dm_law_mirror.proofs.Names.{◌≡◌, ℕ, ◌<◌, ◌==◌, Bool, true, false, List, [], ◌∷◌, length, map, refl, ap, ◌∙◌, sym, subst, is_some, nat_lt, arith, if◌then◌else◌, slice_get, Option, None, Some, nat_tests, All-nil, Pid, pid_eq, Message}
use Rattle.dm_law_mirror.proofs.Names.{IsLawfulMessage, Process, Sending, fresh_sending, fresh_receiving, kept_under, StreamStands-start, BootImage, BootProcess, Boot, IsValid, process_named, bind, first_life, KernelState, child_of, empty}
use Rattle.dm_law_mirror.proofs.Names.{opened, room_of, with_all, with_child, opened_lawful, Record, Resident, switchboard, manager, placed_start, started, start_mirrors, first_point, Known, is_server, first_world, History, KernelStands, KnownStands, PairStands, StartStands}
use Rattle.dm_law_mirror.proofs.Names.{◌+◌, ◌++◌, append_assoc, append-nil, starting_at, blocks_at, blocks_of_image, processes_are_valid, pid_eq-is, ring_at, begins_process, KernelKnown, Life, option_map, Alive, plain_link, life_at, why_ended}
use Rattle.dm_onekernel.specs.Start.{begun}
use Rattle.dm_kernel.specs.Begun.{bare, with_servers}
use Rattle.dm_procman.specs.Managing.{starting}
use Rattle.dm_law_mirror.proofs.Residents.{OfBoard, OfManager, OfProcess, process_at, server_apart, who}
use Rattle.dm_records.specs.declared.record.Record.TheVariants.{Here}
use Rattle.dm_stream.specs.Order as order
use Rattle.dm_law_mirror.proofs.Numbering.{named_is, none_below, started_named, known_of_life, first_known, listed, none_again, one_if}
use Rattle.dm_law_mirror.proofs.StartRooms.{first_alive, first_taken}
use Rattle.dm_law_mirror.proofs.Machines.{few_machines as few}
use Rattle.dm_law_mirror.proofs.May.{few_numbers as small}

-- what machine m knows of a process that the file may name
abbrev pub first_here : Option Process → Option KernelKnown
first_here None = None
first_here (Some x) = Some (Here (Resident.Process x))

abbrev pub first_record : Boot → ℕ → Pid → Option BootProcess → Option KernelKnown → Option KernelKnown
first_record b m q None before = before
first_record b m q (Some p) before = if q.home == m then first_here (started b p) else before

-- machine m after these processes have begun on it
pub record Opens (b : Boot) (m : ℕ) (ps : List BootProcess) (s t : KernelState) : Type 0 where
  pub here : t.here ≡ m
  pub records : (q : Pid) → t.records q ≡ first_record b m q (process_named q ps) (s.records q)
  pub ring : t.ring ≡ s.ring ++ ring_at ps m
  pub inbox : t.inbox ≡ s.inbox
  pub made : t.made ≡ s.made + starting_at m ps
  pub slots : t.room.slots ≡ s.room.slots
  pub blocks : t.room.blocks ≡ s.room.blocks
  pub taken_slots : t.room.taken_slots ≡ s.room.taken_slots + starting_at m ps
  pub taken_blocks : t.room.taken_blocks ≡ s.room.taken_blocks + blocks_at m b.images ps

-- a record that is set
set_record : (b : Boot) (m : ℕ) (p : BootProcess) (x : Process) (q : Pid) (c d : Bool) (before : Option KernelKnown) → pid_eq p.pid q ≡ c → (p.pid.home == m) ≡ true → first_here (started b p) ≡ Some (Here (Resident.Process x))
    → (if c then Some (Here (Resident.Process x)) else before) ≡ first_record b m q (if c then Some p else None) before
set_record b m p x q c d before is home e = grind (arith, nat_tests, pid_eq-is)

off_record : (b : Boot) (m : ℕ) (p : BootProcess) (q : Pid) (c : Bool) (before : Option KernelKnown) → pid_eq p.pid q ≡ c → (p.pid.home == m) ≡ false → before ≡ first_record b m q (if c then Some p else None) before
off_record b m p q c before is home = grind (arith, nat_tests, pid_eq-is)

-- one of them
pub first_started : (b : Boot) (p : BootProcess) (i : BootImage) → slice_get b.images p.image ≡ Some i → first_here (started b p) ≡ Some (Here (Resident.Process (child_of b p.pid i p.links)))
first_started b p i there = search

abbrev blocks_if : Bool → ℕ → ℕ
blocks_if c n = if c then n else 0

begin_on : (b : Boot) (m : ℕ) (p : BootProcess) (i : BootImage) (s : KernelState) (c : Bool) → (p.pid.home == m) ≡ c → s.here ≡ m → slice_get b.images p.image ≡ Some i
    → Opens b m (p ∷ []) s (if c then with_child s p.pid (child_of b p.pid i p.links) i.blocks else s)
begin_on b m p i s true home here there =
    let blocks : blocks_of_image (slice_get b.images p.image) ≡ i.blocks = ap blocks_of_image there in
    let one : one_if (p.pid.home == m) ≡ 1 = ap one_if home in
    let many : blocks_if (p.pid.home == m) (blocks_of_image (slice_get b.images p.image)) ≡ i.blocks = ap (λ (t : Bool). blocks_if t (blocks_of_image (slice_get b.images p.image))) home ∙ blocks in
    search (set_record, child_of, pid_eq, s.records, first_started, sym (ap (λ (t : Bool). s.ring ++ (if t then p.pid ∷ [] else [])) home), arith, one, many)
begin_on b m p i s false home here there =
    let one : one_if (p.pid.home == m) ≡ 0 = ap one_if home in
    let many : blocks_if (p.pid.home == m) (blocks_of_image (slice_get b.images p.image)) ≡ 0 = ap (λ (t : Bool). blocks_if t (blocks_of_image (slice_get b.images p.image))) home in
    search (off_record, pid_eq, s.records, sym (ap (λ (t : Bool). s.ring ++ (if t then p.pid ∷ [] else [])) home ∙ append-nil s.ring), arith, one, many)

begin_one : (b : Boot) (m : ℕ) (p : BootProcess) (i : BootImage) (s : KernelState) → s.here ≡ m → slice_get b.images p.image ≡ Some i → Opens b m (p ∷ []) s (begins_process b s p (slice_get b.images p.image))
begin_one b m p i s here there =
    subst (λ (o : Option BootImage). Opens b m (p ∷ []) s (begins_process b s p o)) (sym there)
    (subst (λ (n : ℕ). Opens b m (p ∷ []) s (if p.pid.home == n then with_child s p.pid (child_of b p.pid i p.links) i.blocks else s)) (sym here)
    (begin_on b m p i s (p.pid.home == m) refl here there))

-- and then the others
records_then : (b : Boot) (m : ℕ) (q : Pid) (p : BootProcess) (c : Bool) (o : Option BootProcess) (before mid after : Option KernelKnown) → (c ≡ true → o ≡ None)
    → mid ≡ first_record b m q (if c then Some p else None) before → after ≡ first_record b m q o mid → after ≡ first_record b m q (if c then Some p else o) before
records_then b m q p c o before mid after none e f = grind (arith, nat_tests)

pub opens_all : (b : Boot) (m : ℕ) (earlier ps : List BootProcess) (s : KernelState) → processes_are_valid b earlier ps ≡ true → s.here ≡ m → Opens b m ps s (with_all b s ps)
opens_all b m earlier [] s h here = search (sym (append-nil s.ring), arith)
opens_all b m earlier (p ∷ ps) s h here =
    let k = listed b earlier p ps h in
    let u = begins_process b s p (slice_get b.images p.image) in
    let one = begin_one b m p k.image s here k.there in
    let rest = opens_all b m (earlier ++ p ∷ []) ps u k.rest one.here in
    let made = one.made in let made_ = rest.made in
    let slots = one.taken_slots in let slots_ = rest.taken_slots in
    let blocks = one.taken_blocks in let blocks_ = rest.taken_blocks in
    let ring_then : (if (p.pid.home == m) then p.pid ∷ [] else []) ++ ring_at ps m ≡ (if (p.pid.home == m) then p.pid ∷ ring_at ps m else ring_at ps m) = grind (arith, nat_tests) in
    record {
      here = rest.here;
      records = λ q. records_then b m q p (pid_eq p.pid q) (process_named q ps) (s.records q) (u.records q) ((with_all b u ps).records q) (λ same. none_again b earlier p ps q k same) (one.records q) (rest.records q);
      ring = rest.ring ∙ ap (λ r. r ++ ring_at ps m) one.ring ∙ append_assoc s.ring (if p.pid.home == m then p.pid ∷ [] else []) (ring_at ps m) ∙ ap (λ r. s.ring ++ r) ring_then;
      inbox = rest.inbox ∙ one.inbox;
      made = omega (arith, made, made_);
      slots = rest.slots ∙ one.slots;
      blocks = rest.blocks ∙ one.blocks;
      taken_slots = omega (arith, slots, slots_);
      taken_blocks = omega (arith, blocks, blocks_);
    }

-- The world as the boot file has it stands for the first point.

-- what is known of a process of the file that begins here
abbrev first_said : Boot → Option BootProcess → Known
first_said b o = known_of_life (bind o (first_life b))

started_is : (o : Option Process) (x : Process) → first_here o ≡ Some (Record.Here (Resident.Process x)) → o ≡ Some x
started_is o x e = grind (arith, nat_tests)

known_named : (b : Boot) (m : ℕ) (q : Pid) (o : Option BootProcess) → (q.home == m) ≡ true → is_server q ≡ false → process_named q b.processes ≡ o → IsValid b → KnownStands (placed_start b) q [] [] (first_said b o) (first_record b m q o None)
known_named b m q None on off e valid = tt
known_named b m q (Some p) on off e valid =
    let n = named_is b [] b.processes q p valid.processes e in
    let x = child_of b p.pid n.image p.links in
    let here : first_record b m q (Some p) None ≡ Some (Record.Here (Resident.Process x)) = ap (λ (c : Bool). if c then first_here (started b p) else None) on ∙ first_started b p n.image n.there in
    let said : first_said b (Some p) ≡ Known.Here = ap known_of_life (first_alive b p n.image n.there) in
    let there : (placed_start b).processes q ≡ Some x = started_named b b.processes q ∙ ap (λ (o : Option BootProcess). bind o (started b)) e ∙ started_is (started b p) x (first_started b p n.image n.there) in
    subst (λ k. KnownStands (placed_start b) q [] [] k (first_record b m q (Some p) None)) (sym said)
    (subst (λ r. KnownStands (placed_start b) q [] [] Known.Here r) (sym here) (([], process_at (placed_start b) q off ∙ ap (option_map Resident.Process) there), refl))

apart_record : (b : Boot) (m : ℕ) (q : Pid) (o : Option BootProcess) → (q.home == m) ≡ false → first_record b m q o None ≡ None
apart_record b m q o off = grind (arith, nat_tests)

-- a process that the file may name
abbrev named_known : Boot → Pid → Known
named_known b q = first_said b (process_named q b.processes)

known_first : (b : Boot) (m : ℕ) (q : Pid) (c : Bool) → (q.home == m) ≡ c → is_server q ≡ false → IsValid b
    → KnownStands (placed_start b) q [] [] ((first_point b).view.known m q) (first_record b m q (process_named q b.processes) None)
known_first b m q true on server valid =
    let known : (first_point b).view.known m q ≡ named_known b q = first_known b m q valid ∙ ap (λ (c : Bool). if c then (if is_server q then Known.Here else named_known b q) else Known.Unknown) on ∙ ap (λ (c : Bool). if c then Known.Here else named_known b q) server in
    subst (λ k. KnownStands (placed_start b) q [] [] k (first_record b m q (process_named q b.processes) None)) (sym known) (known_named b m q (process_named q b.processes) on server refl valid)
known_first b m q false off server valid =
    let known : (first_point b).view.known m q ≡ Known.Unknown = first_known b m q valid ∙ ap (λ (c : Bool). if c then (if is_server q then Known.Here else named_known b q) else Known.Unknown) off in
    subst (λ k. KnownStands (placed_start b) q [] [] k (first_record b m q (process_named q b.processes) None)) (sym known)
    (subst (λ r. KnownStands (placed_start b) q [] [] Known.Unknown r) (sym (apart_record b m q (process_named q b.processes) off)) tt)

-- Where the servers begin, all else is as elsewhere.

empty_same : {Y : Type 0} (f : KernelState → Y) (b : Boot) (m : ℕ) → f (with_servers b (bare b m)) ≡ f (bare b m) → f (empty b m) ≡ f (bare b m)
empty_same f b m e = elim (m == 0) as (λ c. f (if c then with_servers b (bare b m) else bare b m) ≡ f (bare b m)) [ true ↦ e | false ↦ refl ]

-- no process is there
none_there : (b : Boot) (m : ℕ) (q : Pid) → is_server q ≡ false → (empty b m).records q ≡ None
none_there b m q off = empty_same (λ s. s.records q) b m
    (ap (λ (c : Bool). if c then Some (Record.Here (Resident.Manager (starting b))) else (if pid_eq switchboard q then Some (Record.Here (Resident.Board (record { names = []; sent = 0; moves = 0 }))) else None)) (server_apart manager q refl off)
    ∙ ap (λ (c : Bool). if c then Some (Record.Here (Resident.Board (record { names = []; sent = 0; moves = 0 }))) else None) (server_apart switchboard q refl off))

-- the servers are, on machine 0
board_first : (b : Boot) (m : ℕ) (c : Bool) → KnownStands (placed_start b) switchboard [] [] (if c then Known.Here else Known.Unknown) ((if c then with_servers b (bare b m) else bare b m).records switchboard)
board_first b m true = (([], refl), refl)
board_first b m false = tt

manager_first : (b : Boot) (m : ℕ) (c : Bool) → KnownStands (placed_start b) manager [] [] (if c then Known.Here else Known.Unknown) ((if c then with_servers b (bare b m) else bare b m).records manager)
manager_first b m true = (([], refl), refl)
manager_first b m false = tt

first_machine : (m : ℕ) → (0 == m) ≡ (m == 0)
first_machine m = grind (arith, nat_tests)

-- servers aren't named in the file
server_first : (b : Boot) (m : ℕ) (q : Pid) → q.home ≡ 0 → q.num < 3 → is_server q ≡ true → IsValid b → (r : Option KernelKnown) → r ≡ first_record b m q (process_named q b.processes) ((empty b m).records q)
    → KnownStands (placed_start b) q [] [] (if m == 0 then Known.Here else Known.Unknown) ((empty b m).records q) → KnownStands (placed_start b) q [] [] ((first_point b).view.known m q) r
server_first b m q home low server valid r is h =
    let record_is : r ≡ (empty b m).records q = is ∙ ap (λ o. first_record b m q o ((empty b m).records q)) (none_below b [] b.processes q valid.processes low) in
    let known : (first_point b).view.known m q ≡ (if m == 0 then Known.Here else Known.Unknown) =
    first_known b m q valid ∙ ap (λ (c : Bool). if c then (if is_server q then Known.Here else named_known b q) else Known.Unknown) (ap (λ (n : ℕ). n == m) home ∙ first_machine m)
    ∙ ap (λ (c : Bool). if m == 0 then (if c then Known.Here else named_known b q) else Known.Unknown) server in
    subst (λ k. KnownStands (placed_start b) q [] [] k r) (sym known) (subst (KnownStands (placed_start b) q [] [] (if m == 0 then Known.Here else Known.Unknown)) (sym record_is) h)

known_start : (b : Boot) (m : ℕ) (q : Pid) → IsValid b → (r : Option KernelKnown) → r ≡ first_record b m q (process_named q b.processes) ((empty b m).records q) → KnownStands (placed_start b) q [] [] ((first_point b).view.known m q) r
known_start b m q valid r is = elim (who q) [
  | OfProcess off ↦
      subst (KnownStands (placed_start b) q [] [] ((first_point b).view.known m q)) (sym (is ∙ ap (first_record b m q (process_named q b.processes)) (none_there b m q off))) (known_first b m q (q.home == m) refl off valid)
  | OfBoard at_board ↦
      subst (λ (p : Pid). (t : Option KernelKnown) → t ≡ first_record b m p (process_named p b.processes) ((empty b m).records p) → KnownStands (placed_start b) p [] [] ((first_point b).view.known m p) t) (sym at_board)
      (λ t e. server_first b m switchboard refl (omega arith) refl valid t e (board_first b m (m == 0))) r is
  | OfManager at_manager ↦
      subst (λ (p : Pid). (t : Option KernelKnown) → t ≡ first_record b m p (process_named p b.processes) ((empty b m).records p) → KnownStands (placed_start b) p [] [] ((first_point b).view.known m p) t) (sym at_manager)
      (λ t e. server_first b m manager refl (omega arith) refl valid t e (manager_first b m (m == 0))) r is
]

-- and there are no predecessors
preds_one : (b : Boot) (p : BootProcess) (s : KernelState) (o : Option BootImage) → (begins_process b s p o).preds ≡ s.preds
preds_one b p s o = grind (arith, nat_tests)

preds_all : (b : Boot) (ps : List BootProcess) (s : KernelState) → (with_all b s ps).preds ≡ s.preds
preds_all b [] s = refl
preds_all b (p ∷ ps) s = preds_all b ps (begins_process b s p (slice_get b.images p.image)) ∙ preds_one b p s (slice_get b.images p.image)

-- the room
kernel_first : (b : Boot) (m : ℕ) → IsValid b → m < length b.machines → KernelStands b (first_point b) (placed_start b) m (opened b m)
kernel_first b m valid lt =
    let o = opens_all b m [] b.processes (empty b m) valid.processes (empty_same (λ s. s.here) b m refl) in
    let t = first_taken b m valid lt in
    let slots = o.taken_slots in let slots_ = t.slots in let none : (room_of (slice_get b.machines m)).taken_slots ≡ 0 = grind (arith, nat_tests) in
    let blocks = o.taken_blocks in let blocks_ = t.blocks in let none_ : (room_of (slice_get b.machines m)).taken_blocks ≡ 0 = grind (arith, nat_tests) in
    let no_slots : (empty b m).room.taken_slots ≡ (room_of (slice_get b.machines m)).taken_slots = empty_same (λ s. s.room.taken_slots) b m refl in
    let no_blocks : (empty b m).room.taken_blocks ≡ (room_of (slice_get b.machines m)).taken_blocks = empty_same (λ s. s.room.taken_blocks) b m refl in
    let made = o.made in
    let none_made : (empty b m).made ≡ 0 = empty_same (λ s. s.made) b m refl in
    let none_preceded : (opened b m).preds ≡ (bare b m).preds = preds_all b b.processes (empty b m) ∙ empty_same (λ s. s.preds) b m refl in
    record {
      here = o.here;
      known = λ q. known_start b m q valid ((opened b m).records q) (o.records q);
      ring = o.ring ∙ ap (λ (ps : List Pid). ps ++ ring_at b.processes m) (empty_same (λ s. s.ring) b m refl);
      inbox = sym (ap (map Some) (o.inbox ∙ empty_same (λ s. s.inbox) b m refl));
      made = omega (arith, made, none_made);
      room = record { slots = o.slots ∙ empty_same (λ s. s.room.slots) b m refl; blocks = o.blocks ∙ empty_same (λ s. s.room.blocks) b m refl; taken_slots = omega (arith, slots, slots_, none, no_slots); taken_blocks = omega (arith, blocks, blocks_, none_, no_blocks) };
      preds = record { same = λ q. ap (λ (f : Pid → ℕ → Bool). f q) none_preceded; within = λ q j far. ap (λ (f : Pid → ℕ → Bool). f q j) none_preceded };
    }

sent_one : (b : Boot) (p : BootProcess) (s : KernelState) (o : Option BootImage) → (begins_process b s p o).sent ≡ s.sent
sent_one b p s o = grind (arith, nat_tests)

sent_all : (b : Boot) (ps : List BootProcess) (s : KernelState) → (with_all b s ps).sent ≡ s.sent
sent_all b [] s = refl
sent_all b (p ∷ ps) s = sent_all b ps (begins_process b s p (slice_get b.images p.image)) ∙ sent_one b p s (slice_get b.images p.image)

-- the streams
abbrev no_history : History
no_history = record { given = λ a c. []; packets = λ a c. [] }

pair_first : (b : Boot) (a c : ℕ) → IsValid b → c < length b.machines → PairStands b (first_point b) (placed_start b) (first_world b) no_history a c
pair_first b a c valid lt =
    let none_kept : (n : ℕ) → is_some (kept_under (fresh_receiving {M = Message}) n) ≡ false = λ n. grind (arith, nat_tests) in
    let within : nat_lt c 16 ≡ true = (let k = few b valid in grind (arith, nat_tests)) in
    let sender : fresh_sending {M = Message} (if nat_lt c 16 then b.numbers else 0) ≡ fresh_sending b.numbers = ap (λ (t : Bool). fresh_sending (if t then b.numbers else 0)) within in
    search (
      subst (λ (s : Sending Message). order.StreamStands (record { sender = s; receiver = fresh_receiving; given = []; taken = []; out = []; back = [] })) (sym sender) (StreamStands-start b.numbers (small b valid)),
      ap (λ (s : Sending Message). s.gone) sender,
      ap (λ (s : Sending Message). s.numbers) sender,
      none_kept,
      All-nil IsLawfulMessage,
    )

-- nobody has ended
either_none : (c : Bool) (x y : Option Life) → None ≡ why_ended x → None ≡ why_ended y → None ≡ why_ended (if c then x else y)
either_none true x y e f = e
either_none false x y e f = f

image_none : (b : Boot) (p : BootProcess) (o : Option BootImage) → None ≡ why_ended (option_map (λ image. Alive (begun b.format image (map plain_link p.links))) o)
image_none b p None = refl
image_none b p (Some image) = refl

begun_none : (b : Boot) (ps : List BootProcess) (q : Pid) → None ≡ why_ended (life_at b ps q)
begun_none b [] q = refl
begun_none b (p ∷ ps) q = either_none (pid_eq p.pid q) (first_life b p) (life_at b ps q) (image_none b p (slice_get b.images p.image)) (begun_none b ps q)

pub start_stands : StartStands
start_stands b valid = (
  (
    placed_start b,
    no_history,
    record {
      mirrors = start_mirrors b;
      groups = refl;
      ended = begun_none b b.processes;
      nodes = λ m lt. record { kernel = kernel_first b m valid lt; lawful = opened_lawful b m valid; machines = refl; numbers = refl; home = refl };
      pairs = λ a c la lc apart. pair_first b a c valid lc;
      counts = λ a c. omega arith;
      own = λ i m e none. cc;
      tokens = λ p i t z told between about stands. cc;
    },
  ),
  λ m lt. sent_all b b.processes (empty b m) ∙ empty_same (λ s. s.sent) b m refl,
)
