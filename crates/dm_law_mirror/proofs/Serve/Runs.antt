-- The machine and the rule serve the same process: its messages, which process can be served, and how far it comes.
use Rattle.dm_law_mirror.proofs.Names.{◌≡◌, ℕ, zero, suc, ◌+◌, ◌<◌, ◌≤◌, ◌&&◌, Bool, true, false, List, [], ◌∷◌, map, refl, ap, ◌∙◌, sym, subst, inl, inr, arith, is_some, if◌then◌else◌, option_map, Option, None, Some, cases_Bool, nat_tests}
use Rattle.dm_law_mirror.proofs.Names.{false≢true, Pid, Message, MsgId, Record, Halt, id_eq, plain_message, plain_what, with_what, Regs, Fault, Row, instruction, first_on, is_on, what_is_on, without_first_on, status_is_runnable, Process}
use Rattle.dm_law_mirror.proofs.Names.{Status, Boot, bind, Life, Alive, OneKernel, plain_process, plain_status, PlainProcess, Machine, pid_eq-same, id_eq-is, id_eq-same, Point, without_id, times, is_server, rings, Placed, MirrorsKernel}
use Rattle.dm_law_mirror.proofs.Names.{with_queue, KernelState, AreMessages, KernelStands, ◌==◌, pid_eq, Label, Why, out_off, Line, moved, after, without_front, Spot, Queue, Inbox, standing, View, handled, dropped_for, receiver_of}
use Rattle.dm_law_mirror.proofs.Names.{Droppable, droppable_on, dropped_is, Mirrors, Resident, user_dropped, Part, option_map_or, drop, Ended, none_some}
use Rattle.dm_law_places.specs.PlacedStep.{without_message}
use Rattle.dm_law_mirror.proofs.Kernel.Sets.{times_self, times_more, ViewLeaves, Leaves, view_leaves_on, leaves_on, view_same, view_queue, view_not_handled, kernel_same, kernel_out, placed_same, placed_out, not_own_there, label_mirrors}
use Rattle.dm_law_mirror.proofs.Kernel.Sets.{after_label}
use Rattle.dm_law_mirror.proofs.Turning.{are_still}
use Rattle.dm_law_mirror.proofs.Recorded.{recorded_process}
use Rattle.dm_onekernel.specs.Step as kernel
use Rattle.dm_law_rule.specs.Rule as rule
use Rattle.dm_law_rule.specs.View as view
use Rattle.dm_law_always.specs.KnownStands as rings
use Rattle.dm_kernel.specs.State as machine
use Rattle.dm_kernel.specs.Serve as serve
use Rattle.dm_kernel.specs.Turn as turn
use Rattle.dm_onekernel.specs.Service as service
use Rattle.dm_law_rule.specs.Parts as rule_part

-- the messages of a list are known under their names
abbrev pub Names : Placed → Type 0
Names l = (i : MsgId) (m : Message) → l.bag i ≡ Some m → m.id ≡ i

abbrev id_in : Message → MsgId
id_in m = m.id

pub first_same : (s : OneKernel) (l : Placed) (mask : ℕ) (ids : List MsgId) (ms : List Message) → MirrorsKernel s l → Names l → AreMessages l.bag ids ms → rule.first_awaited s mask ids ≡ option_map id_in (first_on mask ms)
first_same s l mask [] [] h names are = refl
first_same s l mask [] (m ∷ ms) h names are = cc
first_same s l mask (i ∷ is) [] h names are = cc
first_same s l mask (i ∷ is) (m ∷ ms) h names are =
    let there : l.bag i ≡ Some m = cc in
    let rest : AreMessages l.bag is ms = cc in
    -- a message is awaited without its places where it is on the mask with them
    let awaited_what : rule.is_awaited mask (with_what m (plain_what m.what)) ≡ what_is_on mask m.what = grind (arith, nat_tests) in
    let awaited_on : rule.is_awaited mask (s.bag i) ≡ is_on mask m = ap (rule.is_awaited mask) (sym (h.bag i) ∙ ap (λ (o : Option Message). bind o plain_message) there) ∙ awaited_what in
    grind (arith, nat_tests, names i m there, first_same s l mask is ms h names rest)

-- the message that is found, and what is left of the lists
pub record Found (l : Placed) (mask : ℕ) (ids : List MsgId) (ms : List Message) (m : Message) : Type 0 where
  pub there : l.bag m.id ≡ Some m
  pub on : is_on mask m ≡ true
  pub stands : 1 ≤ times m.id ids
  pub rest : AreMessages l.bag (without_id m.id ids) (without_first_on mask ms)

found_here : (l : Placed) (mask : ℕ) (i : MsgId) (is : List MsgId) (n : Message) (ns : List Message) → is_on mask n ≡ true → n.id ≡ i → l.bag i ≡ Some n → AreMessages l.bag is ns → Found l mask (i ∷ is) (n ∷ ns) n
found_here l mask i is n ns on name there are =
    let same : id_eq n.id i ≡ true = ap (λ (j : MsgId). id_eq j i) name ∙ id_eq-same i in
    search (
      ap l.bag name ∙ there,
      subst (λ (j : MsgId). 1 ≤ times j (i ∷ is)) (sym name) (times_self i is),
      ap (λ (c : Bool). map l.bag (if c then is else i ∷ without_id n.id is)) same ∙ are ∙ sym (ap (λ (c : Bool). map Some (if c then ns else n ∷ without_first_on mask ns)) on),
    )

found_later : (l : Placed) (mask : ℕ) (i : MsgId) (is : List MsgId) (n m : Message) (ns : List Message) → is_on mask n ≡ false → l.bag i ≡ Some n → Found l mask is ns m → Found l mask (i ∷ is) (n ∷ ns) m
found_later l mask i is n m ns off there f = record {
  there = f.there;
  on = f.on;
  stands = (let least = f.stands in let more = times_more m.id i is in omega (arith, least, more));
  rest = ap (λ (c : Bool). map l.bag (if c then is else i ∷ without_id m.id is)) apart ∙ (λ j. there j ∷ f.rest j) ∙ sym (ap (λ (c : Bool). map Some (if c then ns else n ∷ without_first_on mask ns)) off);
}
  where
    apart : id_eq m.id i ≡ false
    apart = elim (cases_Bool (id_eq m.id i)) [
      | inl same ↦
          let e : Some m ≡ Some n = sym f.there ∙ ap l.bag (id_eq-is m.id i same) ∙ there in
          let k : m ≡ n = cc in
          absurd (false≢true (sym off ∙ ap (is_on mask) (sym k) ∙ f.on))
      | inr away ↦ away
    ]

found_if : (l : Placed) (mask : ℕ) (i : MsgId) (is : List MsgId) (n m : Message) (ns : List Message) (c : Bool) → is_on mask n ≡ c → n.id ≡ i → l.bag i ≡ Some n → AreMessages l.bag is ns → (if c then Some n else first_on mask ns) ≡ Some m
    → (first_on mask ns ≡ Some m → Found l mask is ns m) → Found l mask (i ∷ is) (n ∷ ns) m
found_if l mask i is n m ns true on name there are e more = let k : n ≡ m = cc in subst (Found l mask (i ∷ is) (n ∷ ns)) k (found_here l mask i is n ns on name there are)
found_if l mask i is n m ns false off name there are e more = found_later l mask i is n m ns off there (more e)

pub found : (l : Placed) (mask : ℕ) (ids : List MsgId) (ms : List Message) (m : Message) → Names l → AreMessages l.bag ids ms → first_on mask ms ≡ Some m → Found l mask ids ms m
found l mask [] [] m names are e = none_some m e
found l mask [] (n ∷ ns) m names are e = absurd (let f : [] ≡ map Some (n ∷ ns) = are in cc)
found l mask (i ∷ is) [] m names are e = none_some m e
found l mask (i ∷ is) (n ∷ ns) m names are e =
    let there : l.bag i ≡ Some n = cc in
    let rest : AreMessages l.bag is ns = cc in
    found_if l mask i is n m ns (is_on mask n) refl (names i n there) there rest e (found l mask is ns m names rest)

-- a living process of machine m is there, as the kernel without machines has it
pub record IsHere (pt : Point) (l : Placed) (m : ℕ) (k : KernelState) (p : Pid) (z : PlainProcess) : Type 0 where
  pub x : Process
  pub record_is : k.records p ≡ Some (Record.Here (Resident.Process x))
  pub queue : List Message
  pub there : l.processes p ≡ Some (with_queue x queue)
  pub messages : AreMessages l.bag (pt.view.queue m p) x.queue
  pub plain : z ≡ plain_process x
  pub known : pt.view.known m p ≡ view.Here

-- as the one kernel has it
plain_there : (s : OneKernel) (l : Placed) (p : Pid) (x : Process) (queue : List Message) (z : PlainProcess) → MirrorsKernel s l → l.processes p ≡ Some (with_queue x queue) → s.processes p ≡ Some (Alive z) → z ≡ plain_process x
plain_there s l p x queue z mirrors there alive = grind (arith, nat_tests)

pub here_of : (b : Boot) (pt : Point) (l : Placed) (m : ℕ) (k : KernelState) (p : Pid) (z : PlainProcess) → KernelStands b pt l m k → MirrorsKernel pt.kernel l → pt.view.known m p ≡ view.Here → is_server p ≡ false → pt.kernel.processes p ≡ Some (Alive z) → IsHere pt l m k p z
here_of b pt l m k p z h mirrors here server alive =
    let r = recorded_process b pt l m k p h server here in
    record {
      x = r.process;
      record_is = r.is;
      queue = r.waits;
      there = r.there;
      messages = r.messages;
      plain = plain_there pt.kernel l p r.process r.waits z mirrors r.there alive;
      known = here;
    }

-- it can be served by the rule where it can by the machine
some_same : (o : Option Message) → is_some (option_map id_in o) ≡ is_some o
some_same o = grind (arith, nat_tests)

status_same : (s : OneKernel) (l : Placed) (ids : List MsgId) (ms : List Message) (st : Status) → MirrorsKernel s l → Names l → AreMessages l.bag ids ms → rule.status_can_go s ids (plain_status st) ≡ status_is_runnable st ms
status_same s l ids ms (Status.Waiting mask base size) h names are = ap is_some (first_same s l mask ids ms h names are) ∙ some_same (first_on mask ms)
status_same s l ids ms _ h names are = refl

-- the first process of the ring that can be served
if_same : (c d : Bool) (p : Pid) (o u : Option Pid) → c ≡ d → o ≡ u → (if c then Some p else o) ≡ (if d then Some p else u)
if_same c d p o u e f = λ i. if e i then Some p else f i

runs_same : (s : OneKernel) (queue : Pid → List MsgId) (records : Pid → Option machine.KernelKnown) (ps : List Pid) → ((p : Pid) → 1 ≤ rings p ps → rule.can_go s (queue p) (kernel.alive (s.processes p)) ≡ turn.known_is_runnable (records p))
    → rule.first_runnable s queue ps ≡ turn.first_runnable records ps
runs_same s queue records [] h = refl
runs_same s queue records (p ∷ ps) h =
    if_same (rule.can_go s (queue p) (kernel.alive (s.processes p))) (turn.known_is_runnable (records p)) p (rule.first_runnable s queue ps) (turn.first_runnable records ps) (h p first)
    (runs_same s queue records ps (λ q least. h q (let more : rings q ps ≤ rings q (p ∷ ps) = omega arith in omega (arith, least, more))))
  where
    first : 1 ≤ rings p (p ∷ ps)
    first = let e : rings p (p ∷ ps) ≡ 1 + rings p ps = ap (λ (c : Bool). (if c then 1 else 0) + rings p ps) (pid_eq-same p) in omega (arith, e)

-- what stands in a machine's ring is there, and lives
pub record Rings (pt : Point) (m : ℕ) (p : Pid) : Type 0 where
  pub server : is_server p ≡ false
  pub here : pt.view.known m p ≡ view.Here
  pub z : PlainProcess
  pub alive : pt.kernel.processes p ≡ Some (Alive z)

rings_of : (pt : Point) (m : ℕ) (p : Pid) (o : Option Life) → pt.kernel.processes p ≡ o → is_server p ≡ false → pt.view.known m p ≡ view.Here → rings.agrees view.Here o ≡ true → Rings pt m p
rings_of pt m p (Some (Alive z)) e server here agree = record { server = server; here = here; z = z; alive = e }
rings_of pt m p _ e server here agree = cc

pub in_ring : (pt : Point) (m : ℕ) (p : Pid) → rings.KnownStands pt.kernel pt.view → 1 ≤ rings p (pt.view.ring m) → Rings pt m p
in_ring pt m p h least =
    let turns_of : (c : Bool) (k : view.Known) → 1 ≤ rings.turns_here c k → (c ≡ false) × (k ≡ view.Here) = λ c k least. grind (arith, nat_tests) in
    let t = turns_of (is_server p) (pt.view.known m p) (subst (λ (n : ℕ). 1 ≤ n) (h.ring m p) least) in
    rings_of pt m p (pt.kernel.processes p) refl t.0 t.1 (subst (λ (k : view.Known). rings.agrees k (pt.kernel.processes p) ≡ true) t.1 (h.agree m p t.0))

pub first_runs : (b : Boot) (pt : Point) (l : Placed) (m : ℕ) (k : KernelState) → KernelStands b pt l m k → MirrorsKernel pt.kernel l → Names l → rings.KnownStands pt.kernel pt.view
    → rule.first_runnable pt.kernel (pt.view.queue m) (pt.view.ring m) ≡ turn.first_runnable k.records k.ring
first_runs b pt l m k h mirrors names known =
    runs_same pt.kernel (pt.view.queue m) k.records (pt.view.ring m) (λ p least.
    let r = in_ring pt m p known least in
    grind (arith, nat_tests, status_same))
    ∙ sym (ap (turn.first_runnable k.records) h.ring)

-- how far a process comes: the same count by the rule and by the machine, and what stops it
pub data Comes (k : ℕ) (u : rule.Ran) (r : serve.Ran) : Type 0 where
  Whole : (all : u.count ≡ k) → (is : r ≡ record { count = u.count; machine = u.machine; halt = None }) → Comes k u r
  Called : (n : ℕ) → (regs : Regs) → (less : u.count < k) → (stops : instruction u.machine.regs u.machine.bytes ≡ Row.Calls n regs)
      → (is : r ≡ record { count = u.count; machine = record { regs = regs; bytes = u.machine.bytes }; halt = Some (Halt.Call n) }) → Comes k u r
  Faulted : (f : Fault) → (less : u.count < k) → (stops : instruction u.machine.regs u.machine.bytes ≡ Row.Faults f) → (is : r ≡ record { count = u.count; machine = u.machine; halt = Some (Halt.Fault f) }) → Comes k u r

comes_on : (k : ℕ) (u : rule.Ran) (r : serve.Ran) → Comes k u r → Comes (suc k) (rule.ran_one_more u) (serve.one_more r)
comes_on k u r (Whole all is) = Whole (omega (arith, all)) (ap serve.one_more is)
comes_on k u r (Called n regs less stops is) = Called n regs (omega (arith, less)) stops (ap serve.one_more is)
comes_on k u r (Faulted f less stops is) = Faulted f (omega (arith, less)) stops (ap serve.one_more is)

comes_row : (k : ℕ) (m : Machine) (w : Row) → instruction m.regs m.bytes ≡ w → ((n : Machine) → Comes k (rule.ran k n) (serve.ran k n)) → Comes (suc k) (option_map_or (λ (n : Machine). rule.ran_one_more (rule.ran k n)) (kernel.plain_row w) (record { count = 0; machine = m })) (serve.after_row m w (serve.ran k))
comes_row k m (Row.Plain regs bytes) e h = let n : Machine = record { regs = regs; bytes = bytes } in comes_on k (rule.ran k n) (serve.ran k n) (h n)
comes_row k m (Row.Calls n regs) e h = Called n regs (omega arith) e refl
comes_row k m (Row.Faults f) e h = Faulted f (omega arith) e refl

pub comes : (k : ℕ) (m : Machine) → Comes k (rule.ran k m) (serve.ran k m)
comes zero m = Whole refl refl
comes (suc k) m = comes_row k m (instruction m.regs m.bytes) refl (comes k)

-- The queue of a process that has ended is dropped, message by message.

-- the lines, as the rule and as the machine say them
abbrev pub drop_lines : List MsgId → List Line
drop_lines ids = map (λ i. Line.Label (Label.Dropped i)) ids

pub rule_drops : (ids : List MsgId) → rule.drop_parts ids ≡ map rule_part.Says (drop_lines ids)
rule_drops [] = refl
rule_drops (i ∷ is) = ap (λ (ps : List rule_part.Part). rule.says (Label.Dropped i) ∷ ps) (rule_drops is)

pub machine_drops : (l : Placed) (ids : List MsgId) (ms : List Message) → Names l → AreMessages l.bag ids ms → machine.drops ms ≡ map Part.Says (drop_lines ids)
machine_drops l [] [] names are = refl
machine_drops l [] (m ∷ ms) names are = cc
machine_drops l (i ∷ is) [] names are = cc
machine_drops l (i ∷ is) (m ∷ ms) names are =
    let rest : AreMessages l.bag is ms = cc in
    λ j. machine.says (Label.Dropped ((names i m (cc)) j)) ∷ (machine_drops l is ms names rest) j

-- the messages stand at no other spot
abbrev pub AreAlone : (Spot → Bool) → View → List MsgId → Type 0
AreAlone t v ids = (j : MsgId) → 1 ≤ times j ids → (i : MsgId) (s : Spot) → t s ≡ false → 1 ≤ standing v i s → id_eq j i ≡ false

-- the front of a list that hasn't the message
front_stays : (id : MsgId) (ids : List MsgId) → ((i : MsgId) → 1 ≤ times i ids → id_eq id i ≡ false) → without_front id ids ≡ ids
front_stays id ids h = grind (arith, nat_tests, times_self)

-- the view behind a dropped message
pub record DropKeeps (v w : View) : Type 0 where
  pub acting : w.acting ≡ v.acting
  pub ring : (m : ℕ) → w.ring m ≡ v.ring m
  pub known : (m : ℕ) (p : Pid) → w.known m p ≡ v.known m p
  pub told : (i : MsgId) → w.told i ≡ v.told i
  pub preds : (m : ℕ) (p : Pid) → w.preds m p ≡ v.preds m p
  pub topic : w.topic ≡ v.topic

drop_keeps : (v : View) (id : MsgId) (o : Option Pid) → DropKeeps v (dropped_for (handled v id) id o)
drop_keeps v id None = record { acting = refl; ring = λ m. refl; known = λ m p. refl; told = λ i. refl; preds = λ m p. refl; topic = refl }
drop_keeps v id (Some p) = record { acting = refl; ring = λ m. refl; known = λ m p. refl; told = λ i. refl; preds = λ m p. refl; topic = refl }

view_dropped : (m : ℕ) (t : Spot → Bool) (p : Pid) (v : View) (id : MsgId) (o : Option Pid) → o ≡ Some p → v.acting ≡ m → ((n : ℕ) (q : Pid) → t (Queue n q) ≡ false → ((m == n) && pid_eq p q) ≡ false) → without_front id (v.inbox v.acting) ≡ v.inbox v.acting
    → ViewLeaves m t p v (dropped_for (handled v id) id o)
view_dropped m t p v id o e at covers same =
    subst (λ (z : Option Pid). ViewLeaves m t p v (dropped_for (handled v id) id z)) (sym e)
    (view_leaves_on m t p v (handled v id) (dropped_for (handled v id) id (Some p)) (view_not_handled m t p v id same) (view_queue m t p (handled v id) (without_front id (v.queue v.acting p)) at covers))

-- a message that leaves the bag
pub gone_none : (c : Bool) (o : Option Message) → o ≡ None → (if c then None else o) ≡ None
gone_none true o e = refl
gone_none false o e = e

-- all of them, behind the end of process p
pub record Drops (m : ℕ) (t : Spot → Bool) (p : Pid) (pt : Point) (l : Placed) (ids : List MsgId) : Type 0 where
  pub next : Point
  pub after : after pt (drop_lines ids) ≡ Some next
  pub placed : Placed
  pub mirrors : Mirrors next.kernel next.view next.addresses placed
  pub leaves : Leaves m t p pt l next placed
  pub process : next.kernel.processes p ≡ pt.kernel.processes p
  pub ring : next.view.ring m ≡ pt.view.ring m
  pub known : next.view.known m p ≡ pt.view.known m p
  pub preds : next.view.preds m p ≡ pt.view.preds m p
  pub topic : next.view.topic ≡ pt.view.topic
  -- nothing comes into the bag
  pub fewer : (i : MsgId) → l.bag i ≡ None → placed.bag i ≡ None

pub drops_still : (ids : List MsgId) → are_still (drop_lines ids) ≡ true
drops_still [] = refl
drops_still (i ∷ is) = drops_still is

pub drops_stand : (m : ℕ) (t : Spot → Bool) (p : Pid) (y : Why) (ids : List MsgId) (pt : Point) (l : Placed) → ((n : ℕ) (q : Pid) → t (Queue n q) ≡ false → ((m == n) && pid_eq p q) ≡ false) → ((n : ℕ) → t (Inbox n) ≡ false) → Mirrors pt.kernel pt.view pt.addresses l → pt.view.acting ≡ m
    → pt.kernel.processes p ≡ Some (Ended y) → Droppable pt.kernel p ids → AreAlone t pt.view ids → ((i : MsgId) → 1 ≤ times i ids → receiver_of (pt.view.told i) ≡ Some p) → Drops m t p pt l ids
drops_stand m t p y [] pt l covers boxes mirrors at ended drop alone told =
    record { next = pt; after = refl; placed = l; mirrors = mirrors; leaves = record { view = view_same m t p pt.view; kernel = kernel_same p pt.kernel; placed_ = placed_same t p pt.view l }; process = refl; ring = refl; known = refl; preds = refl; topic = refl; fewer = λ i e. e }
drops_stand m t p y (i ∷ is) pt l covers boxes mirrors at ended drop alone told =
    let s = pt.kernel in
    let x = drop.0.x in
    let u = service.without_message s i in
    let step = dropped_is s i x y drop.0.there (ap s.processes drop.0.to ∙ ended) (user_dropped x.what drop.0.user) in
    let mid = moved pt (Line.Label (Label.Dropped i)) u in
    let lm = without_message l i in
    let o = receiver_of (pt.view.told i) in
    let keeps = drop_keeps pt.view i o in
    let first : 1 ≤ times i (i ∷ is) = times_self i is in
    let view_ : ViewLeaves m t p pt.view mid.view =
    view_dropped m t p pt.view i o (told i first) at covers (front_stays i (pt.view.inbox pt.view.acting) (λ j least. alone i first j (Inbox pt.view.acting) (boxes pt.view.acting) least)) in
    let leaves : Leaves m t p pt l mid lm = record { view = view_; kernel = kernel_out p s i; placed_ = placed_out t p pt.view l i (not_own_there s l i x mirrors.plain drop.0.there) (alone i first) } in
    let later : (j : MsgId) → 1 ≤ times j is → 1 ≤ times j (i ∷ is) = λ j least. let more = times_more j i is in omega (arith, least, more) in
    let rest = drops_stand m t p y is mid lm covers boxes (label_mirrors pt l lm m (Label.Dropped i) u mirrors at tt step refl) (keeps.acting ∙ at) ended
    (droppable_on s u p is (λ j least. out_off s i j (apart j least (id_eq i j) refl)) drop.2)
    (λ j least k spot off there. alone j (later j least) k spot off (subst (λ (n : ℕ). 1 ≤ n) (ap (times k) (view_.lists spot off)) there))
    (λ j least. ap receiver_of (keeps.told j) ∙ told j (later j least)) in
    search (
      after_label pt (Label.Dropped i) u (drop_lines is) rest.next step rest.after,
      leaves_on m t p pt mid rest.next l lm rest.placed leaves rest.leaves,
      rest.ring ∙ keeps.ring m,
      rest.known ∙ keeps.known m p,
      rest.preds ∙ keeps.preds m p,
      rest.topic ∙ keeps.topic,
      λ (j : MsgId) (e : l.bag j ≡ None). rest.fewer j (gone_none (id_eq i j) (l.bag j) e),
    )
  where
    apart : (j : MsgId) → 1 ≤ times j is → (c : Bool) → id_eq i j ≡ c → id_eq i j ≡ false
    apart j least false e = e
    apart j least true e = absurd (let k : times j is ≡ 0 = sym (ap (λ v. times v is) (id_eq-is i j e)) ∙ drop.1 in omega (arith, least, k))
