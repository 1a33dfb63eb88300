-- What labels about one process leave of view, kernel and kernel with places, and when a machine's kernel stands for the point
-- behind them.
use Rattle.dm_law_mirror.proofs.Names.{◌≡◌, ◌≢◌, ℕ, ◌≤◌, ◌==◌, ◌&&◌, not, Bool, true, false, List, [], ◌∷◌, map, refl, ap, ◌∙◌, sym, subst, inl, inr, arith, is_some, if◌then◌else◌, slice_get, Option, None, Some, cases_Bool, nat_tests, Pid}
use Rattle.dm_law_mirror.proofs.Names.{pid_eq, Message, MsgId, plain_message, Taken, with_released, Record, Boot, Life, OneKernel, KernelState, room_of, pid_eq-is, Point, Room, taken_at, taken_by, takes_room, blocks_of, Spot, Queue, Held}
use Rattle.dm_law_mirror.proofs.Names.{Inbox, times, ids_at, standing, View, Known, Unknown, Here, Frozen, Incoming, Forward, is_away, is_server, Placed, MadeStands, AreMessages, KnownStands, KernelStands, RoomStands, resident_at, ◌/◌, length, Resident}
use Rattle.dm_law_mirror.proofs.Names.{Process, Why, Alive, plain_process, with_queue, id_eq, PlainMessage, Label, bind, id_eq-is, pid_eq-same, Line, moved, after, at_machine, at_record, without, without_front, moved_back, StandsNowhere}
use Rattle.dm_law_mirror.proofs.Names.{StandsOutside, StandsRight, serving, handled, is_kernels, Mirrors, MirrorsKernel, placed_step, StepNeeds, mirrors_view, moves_label, placed_follows, ended, HereStands, CanBeCarried, IsSuch, nobody}
pub use Rattle.dm_law_always.proofs.Goes.Turns.{times_self, times_more}
pub use Rattle.dm_law_rule.proofs.Lines.{eq_self}
pub use Rattle.std.proofs.lemmas.Bool.{and_left as left_off, cond-false as off_if, cond-true as on_if}
pub use Rattle.dm_law_rule.proofs.Trails.Spares.{not_is}
pub use Rattle.dm_law_rule.proofs.Phases.Pieces.{and_false as right_off}
use Rattle.dm_law_places.specs.PlacedStep.{with_message, with_process, with_sent, without_message}
use Rattle.dm_onekernel.specs.Step as kernel
use Rattle.dm_kernel.specs.State as machine
use Rattle.dm_law_rule.specs.View as view
use Rattle.dm_onekernel.specs.Kernel as kernels
use Rattle.dm_onekernel.specs.Service as service
use Rattle.dm_law_mirror.proofs.Turning.{Elsewhere, is_elsewhere, has_process}
use Rattle.dm_law_mirror.proofs.Rooms.{taken_same, taken_changed}
pub use Rattle.dm_law_mirror.proofs.End.Servers.{off as eq_apart}
use Rattle.dm_resident.specs.Residents as residents
use Rattle.dm_law_mirror.proofs.Cargoes.{cargo_same}
use Rattle.dm_law_mirror.proofs.Residents.{SameSystem, carried_same, here_process, resident_same, same_manager}

-- the queue of process p on machine m
abbrev pub is_queue_of : ℕ → Pid → Spot → Bool
is_queue_of m p (Queue n q) = (m == n) && pid_eq p q
is_queue_of m p _ = false

-- labels about process p on machine m change at most the spots at which t is true, what machine m knows of p and of its predecessors, and
-- its ring
pub record ViewLeaves (m : ℕ) (t : Spot → Bool) (p : Pid) (v w : View) : Type 0 where
  pub acting : w.acting ≡ v.acting
  pub groups : w.groups ≡ v.groups
  pub pair : (a c : ℕ) → w.pair a c ≡ v.pair a c
  pub lists : (s : Spot) → t s ≡ false → ids_at w s ≡ ids_at v s
  pub ring : (n : ℕ) → n ≢ m → w.ring n ≡ v.ring n
  pub known : (n : ℕ) (q : Pid) → ((m == n) && pid_eq p q) ≡ false → w.known n q ≡ v.known n q
  pub held : (n : ℕ) (q : Pid) → w.held n q ≡ v.held n q
  pub preds : (n : ℕ) (q : Pid) → ((m == n) && pid_eq p q) ≡ false → w.preds n q ≡ v.preds n q
  pub count : (n : ℕ) → w.count n ≡ v.count n
  pub told : w.told ≡ v.told

-- of the kernel without machines they change p and the bag
pub record KernelLeaves (p : Pid) (s u : OneKernel) : Type 0 where
  pub machines : u.machines ≡ s.machines
  pub made : (n : ℕ) → u.made n ≡ s.made n
  pub life : (q : Pid) → pid_eq p q ≡ false → u.processes q ≡ s.processes q

-- of the kernel with places they change p, and messages with a plain meaning that stand at those spots or nowhere
pub record PlacedLeaves (t : Spot → Bool) (p : Pid) (v : View) (l placed : Placed) : Type 0 where
  pub process : (q : Pid) → pid_eq p q ≡ false → placed.processes q ≡ l.processes q
  pub notes : (q : Pid) → placed.notes q ≡ l.notes q
  pub bag : (i : MsgId) (s : Spot) → t s ≡ false → 1 ≤ standing v i s → placed.bag i ≡ l.bag i
  pub own : (i : MsgId) (x : Message) → plain_message x ≡ None → l.bag i ≡ Some x → placed.bag i ≡ Some x
  pub own_back : (i : MsgId) (x : Message) → plain_message x ≡ None → placed.bag i ≡ Some x → l.bag i ≡ Some x
  pub board : placed.board ≡ l.board
  pub manager : placed.manager ≡ l.manager

pub record Leaves (m : ℕ) (t : Spot → Bool) (p : Pid) (pt : Point) (l : Placed) (next : Point) (placed : Placed) : Type 0 where
  pub view : ViewLeaves m t p pt.view next.view
  pub kernel : KernelLeaves p pt.kernel next.kernel
  pub placed_ : PlacedLeaves t p pt.view l placed

-- one after the other
pub view_leaves_on : (m : ℕ) (t : Spot → Bool) (p : Pid) (u v w : View) → ViewLeaves m t p u v → ViewLeaves m t p v w → ViewLeaves m t p u w
view_leaves_on m t p u v w g h = record {
  acting = h.acting ∙ g.acting;
  groups = h.groups ∙ g.groups;
  pair = λ a c. h.pair a c ∙ g.pair a c;
  lists = λ s off. h.lists s off ∙ g.lists s off;
  ring = λ n apart. h.ring n apart ∙ g.ring n apart;
  known = λ n q off. h.known n q off ∙ g.known n q off;
  held = λ n q. h.held n q ∙ g.held n q;
  preds = λ n q off. h.preds n q off ∙ g.preds n q off;
  count = λ n. h.count n ∙ g.count n;
  told = h.told ∙ g.told;
}

pub kernel_leaves_on : (p : Pid) (s t u : OneKernel) → KernelLeaves p s t → KernelLeaves p t u → KernelLeaves p s u
kernel_leaves_on p s t u g h = record { machines = h.machines ∙ g.machines; made = λ n. h.made n ∙ g.made n; life = λ q off. h.life q off ∙ g.life q off }

pub placed_leaves_on : (t : Spot → Bool) (p : Pid) (v : View) (k l n : Placed) → PlacedLeaves t p v k l → PlacedLeaves t p v l n → PlacedLeaves t p v k n
placed_leaves_on t p v k l n g h = record {
  process = λ q off. h.process q off ∙ g.process q off;
  notes = λ q. h.notes q ∙ g.notes q;
  bag = λ i s off least. h.bag i s off least ∙ g.bag i s off least;
  own = λ i x none there. h.own i x none (g.own i x none there);
  own_back = λ i x none there. g.own_back i x none (h.own_back i x none there);
  board = h.board ∙ g.board;
  manager = h.manager ∙ g.manager;
}

placed_leaves_from : (m : ℕ) (t : Spot → Bool) (p : Pid) (v w : View) (l n : Placed) → ViewLeaves m t p v w → PlacedLeaves t p w l n → PlacedLeaves t p v l n
placed_leaves_from m t p v w l n g h = search (h.process, h.notes, h.bag, g.lists, h.own, h.own_back, h.board, h.manager)

pub leaves_on : (m : ℕ) (t : Spot → Bool) (p : Pid) (a b c : Point) (k l n : Placed) → Leaves m t p a k b l → Leaves m t p b l c n → Leaves m t p a k c n
leaves_on m t p a b c k l n g h = search (
  view_leaves_on m t p a.view b.view c.view g.view h.view,
  kernel_leaves_on p a.kernel b.kernel c.kernel g.kernel h.kernel,
  placed_leaves_on t p a.view k l n g.placed_ (placed_leaves_from m t p a.view b.view l n g.view h.placed_),
)

-- what stays of the others
pub leaves_resident : (t : Spot → Bool) (p : Pid) (v : View) (l placed : Placed) → PlacedLeaves t p v l placed → (q : Pid) → pid_eq p q ≡ false → resident_at placed q ≡ resident_at l q
leaves_resident t p v l placed h q off = resident_same l placed q (h.process q off) h.board h.manager

-- a process that rests on machine m is away from the others
abbrev pub IsAway : View → ℕ → Pid → Type 0
IsAway v m p = (n : ℕ) → n ≢ m → is_away (v.known n p) ≡ true

pub away_process : (k : Known) → is_away k ≡ true → has_process k ≡ true → ⊥
away_process k a e = grind (arith, nat_tests)

pub elsewhere_of : (m : ℕ) (t : Spot → Bool) (p : Pid) (pt next : Point) (l placed : Placed) → IsAway pt.view m p → pt.view.acting ≡ m → ((s : Spot) → is_elsewhere m s ≡ true → t s ≡ false) → Leaves m t p pt l next placed
    → Elsewhere m pt l next placed
elsewhere_of m t p pt next l placed away at off h = record {
  acting = h.view.acting ∙ at;
  groups = h.view.groups;
  pair = h.view.pair;
  inbox = λ n apart. h.view.lists (Inbox n) (off (Inbox n) (ap not (eq_apart n m (λ e. apart (sym e)))));
  ring = h.view.ring;
  known = λ n q apart. h.view.known n q (left_off (m == n) (pid_eq p q) (eq_apart m n apart));
  queue = λ n q apart. h.view.lists (Queue n q) (off (Queue n q) (ap not (eq_apart n m (λ e. apart (sym e)))));
  held = λ n q apart. h.view.held n q;
  preds = λ n q apart. h.view.preds n q (left_off (m == n) (pid_eq p q) (eq_apart m n apart));
  count = h.view.count;
  told = h.view.told;
  machines = h.kernel.machines;
  made = λ n apart. h.kernel.made n;
  resident = λ n q apart has. leaves_resident t p pt.view l placed h.placed_ q (others n q apart (λ a. away_process (pt.view.known n q) a has));
  notes = λ n q apart has. h.placed_.notes q;
  life = λ n q apart has. h.kernel.life q (others n q apart (λ a. away_process (pt.view.known n q) a has));
  bag = λ i s away least. h.placed_.bag i s (off s away) least;
  system = same_manager l placed h.placed_.manager;
}
  where
    others : (n : ℕ) (q : Pid) → n ≢ m → (is_away (pt.view.known n q) ≡ true → ⊥) → pid_eq p q ≡ false
    others n q apart h = elim (cases_Bool (pid_eq p q)) [
      | inl same ↦ absurd (h (subst (λ (z : Pid). is_away (pt.view.known n z) ≡ true) (pid_eq-is p q same) (away n apart)))
      | inr off ↦ off
    ]

pub queue_not_elsewhere : (m : ℕ) (p : Pid) (s : Spot) → is_elsewhere m s ≡ true → is_queue_of m p s ≡ false
queue_not_elsewhere m p s e = grind (arith, nat_tests, not_is, left_off)

pub queue_of_others : (m : ℕ) (p q : Pid) → pid_eq p q ≡ false → is_queue_of m p (Queue m q) ≡ false
queue_of_others m p q off = right_off (m == m) (pid_eq p q) off

pub map_same : (f g : MsgId → Option Message) (ids : List MsgId) → ((i : MsgId) → 1 ≤ times i ids → g i ≡ f i) → map g ids ≡ map f ids
map_same f g [] h = refl
map_same f g (i ∷ is) h = λ j. h i (times_self i is) j ∷ (map_same f g is (λ k least. h k (let m = times_more k i is in omega (arith, least, m)))) j

pub messages_on : (f g : MsgId → Option Message) (ids : List MsgId) (ms : List Message) → ((i : MsgId) → 1 ≤ times i ids → g i ≡ f i) → AreMessages f ids ms → AreMessages g ids ms
messages_on f g ids ms same h = map_same f g ids same ∙ h

such_carried : (l placed : Placed) (cap : ℕ) (o : Option Resident) → SameSystem l placed → IsSuch (CanBeCarried cap l.manager.machines l.manager.images) o → IsSuch (CanBeCarried cap placed.manager.machines placed.manager.images) o
such_carried l placed cap None same h = h
such_carried l placed cap (Some r) same h = carried_same l placed cap r same h

-- a process or a server stays with its messages, and what is known of it
module _ (l placed : Placed) (p : Pid) (ids js : List MsgId) (system : SameSystem l placed) (queue : (i : MsgId) → 1 ≤ times i ids → placed.bag i ≡ l.bag i) (held : (i : MsgId) → 1 ≤ times i js → placed.bag i ≡ l.bag i) where
  pub here_stays : (x : Resident) → resident_at placed p ≡ resident_at l p → HereStands l p ids x → HereStands placed p ids x
  here_stays x resident h = ((h.0.0, resident ∙ h.0.1), messages_on l.bag placed.bag ids (residents.queue_of x) queue h.1)

  pub known_same : (k : Known) (r : Option machine.KernelKnown) → (has_process k ≡ true → resident_at placed p ≡ resident_at l p) → (has_process k ≡ true → placed.notes p ≡ l.notes p)
      → KnownStands l p ids js k r → KnownStands placed p ids js k r
  known_same Unknown None resident notes h = tt
  known_same Here (Some (Record.Here x)) resident notes h = here_stays x (resident refl) h
  known_same (Frozen to) (Some (Record.Frozen d)) resident notes h =
      record { to = h.to; cargo = cargo_same l placed p (resident refl) (notes refl) ∙ h.cargo; here = here_stays d.resident (resident refl) h.here; held = messages_on l.bag placed.bag js d.held held h.held; whole = h.whole }
  known_same (Incoming from) (Some (Record.Incoming a)) resident notes h =
      let whole = such_carried l placed a.cap (resident_at placed p) system (subst (IsSuch (CanBeCarried a.cap l.manager.machines l.manager.images)) (sym (resident refl)) h.whole) in
      record { source = h.source; cargo = h.cargo; there = cargo_same l placed p (resident refl) (notes refl) ∙ h.there; whole = whole; pieces = h.pieces; held = messages_on l.bag placed.bag js a.held held h.held }
  known_same (Forward at_ moves) (Some (Record.Forward to n)) resident notes h = h
  known_same k r resident notes h = h

-- what a machine knows of what stays
pub known_at : (l placed : Placed) (q : Pid) (ids held_ : List MsgId) (w : Known) (r : Option machine.KernelKnown) → SameSystem l placed → resident_at placed q ≡ resident_at l q → placed.notes q ≡ l.notes q
    → ((i : MsgId) → 1 ≤ times i ids → placed.bag i ≡ l.bag i) → ((i : MsgId) → 1 ≤ times i held_ → placed.bag i ≡ l.bag i) → KnownStands l q ids held_ w r → KnownStands placed q ids held_ w r
known_at l placed q ids held_ w r s p n b c h = known_same l placed q ids held_ s b c w r (λ is. p) (λ is. n) h

-- what a machine keeps where process p changes
pub record Stays (k n : KernelState) (p : Pid) : Type 0 where
  pub here : n.here ≡ k.here
  pub records : (q : Pid) → pid_eq p q ≡ false → n.records q ≡ k.records q
  pub made : n.made ≡ k.made
  pub preds : (q : Pid) → pid_eq p q ≡ false → n.preds q ≡ k.preds q

-- process p of the machine is set: where what is known of p, the ring, the inbox and the room stand, the kernel stands
pub set_stands : (b : Boot) (m : ℕ) (t : Spot → Bool) (p : Pid) (pt next : Point) (l placed : Placed) (k n : KernelState) → Leaves m t p pt l next placed → Stays k n p → ((q : Pid) → pid_eq p q ≡ false → t (Queue m q) ≡ false) → ((q : Pid) → t (Held m q) ≡ false)
    → KnownStands placed p (next.view.queue m p) (next.view.held m p) (next.view.known m p) (n.records p) → n.preds p ≡ next.view.preds m p → ((j : ℕ) → length b.machines ≤ j → n.preds p j ≡ false) → n.ring ≡ next.view.ring m → AreMessages placed.bag (next.view.inbox m) n.inbox
    → RoomStands n.room (room_of (slice_get b.machines m)) (taken_at next m next.kernel.machines) → KernelStands b pt l m k → KernelStands b next placed m n
set_stands b m t p pt next l placed k n g s queues helds known mine within ring inbox room h = record {
  here = s.here ∙ h.here;
  known = λ q. elim (cases_Bool (pid_eq p q)) [
    | inl same ↦ subst (λ (z : Pid). KnownStands placed z (next.view.queue m z) (next.view.held m z) (next.view.known m z) (n.records z)) (pid_eq-is p q same) known
    | inr apart ↦
        let w : KnownStands placed q (pt.view.queue m q) (pt.view.held m q) (pt.view.known m q) (k.records q) =
        known_at l placed q (pt.view.queue m q) (pt.view.held m q) (pt.view.known m q) (k.records q) (same_manager l placed g.placed_.manager) (leaves_resident t p pt.view l placed g.placed_ q apart) (g.placed_.notes q)
        (λ i least. g.placed_.bag i (Queue m q) (queues q apart) least) (λ i least. g.placed_.bag i (Held m q) (helds q) least) (h.known q) in
        let ids : next.view.queue m q ≡ pt.view.queue m q = g.view.lists (Queue m q) (queues q apart) in
        let same : next.view.known m q ≡ pt.view.known m q = g.view.known m q (right_off (m == m) (pid_eq p q) apart) in
        subst (λ (r : Option machine.KernelKnown). KnownStands placed q (next.view.queue m q) (next.view.held m q) (next.view.known m q) r) (sym (s.records q apart))
        (subst (λ (z : Known). KnownStands placed q (next.view.queue m q) (next.view.held m q) z (k.records q)) (sym same)
        (subst (λ (z : List MsgId). KnownStands placed q (next.view.queue m q) z (pt.view.known m q) (k.records q)) (sym (g.view.held m q))
        (subst (λ (z : List MsgId). KnownStands placed q z (pt.view.held m q) (pt.view.known m q) (k.records q)) (sym ids) w)))
  ];
  preds = record {
    same = λ q. elim (cases_Bool (pid_eq p q)) [
      | inl same ↦ subst (λ (z : Pid). n.preds z ≡ next.view.preds m z) (pid_eq-is p q same) mine
      | inr apart ↦ s.preds q apart ∙ h.preds.same q ∙ sym (g.view.preds m q (right_off (m == m) (pid_eq p q) apart))
    ];
    within = λ q j far. elim (cases_Bool (pid_eq p q)) [
      | inl same ↦ subst (λ (z : Pid). n.preds z j ≡ false) (pid_eq-is p q same) (within j far)
      | inr apart ↦ ap (λ (f : ℕ → Bool). f j) (s.preds q apart) ∙ h.preds.within q j far
    ];
  };
  ring = ring;
  inbox = inbox;
  made = s.made ∙ h.made ∙ sym (g.kernel.made m);
  room = room;
}

-- the inbox, where it stays
pub inbox_stands : (m : ℕ) (t : Spot → Bool) (p : Pid) (pt next : Point) (l placed : Placed) (ms : List Message) → Leaves m t p pt l next placed → t (Inbox m) ≡ false → AreMessages l.bag (pt.view.inbox m) ms → AreMessages placed.bag (next.view.inbox m) ms
inbox_stands m t p pt next l placed ms g off h = grind (arith, nat_tests, messages_on, placed.bag, g.view.lists, l.bag, pt.view.inbox, g.placed_.bag)

-- the room, where process p takes as much as before
pub takes_as : (pt next : Point) (m : ℕ) (q : Pid) → next.view.known m q ≡ pt.view.known m q → blocks_of (kernel.alive (next.kernel.processes q)) ≡ blocks_of (kernel.alive (pt.kernel.processes q)) → taken_by next m q ≡ taken_by pt m q
takes_as pt next m q e f = λ i. record { slots = takes_room (e i); blocks = if takes_room (e i) == 0 then 0 else f i }

others_take : (m : ℕ) (t : Spot → Bool) (p : Pid) (pt next : Point) (l placed : Placed) → Leaves m t p pt l next placed → (q : Pid) → pid_eq p q ≡ false → taken_by next m q ≡ taken_by pt m q
others_take m t p pt next l placed g q off = takes_as pt next m q (g.view.known m q (right_off (m == m) (pid_eq p q) off)) (ap (λ (o : Option Life). blocks_of (kernel.alive o)) (g.kernel.life q off))

pub room_same : (b : Boot) (m : ℕ) (t : Spot → Bool) (p : Pid) (pt next : Point) (l placed : Placed) (k n : KernelState) → Leaves m t p pt l next placed → n.room ≡ k.room → taken_by next m p ≡ taken_by pt m p
    → RoomStands k.room (room_of (slice_get b.machines m)) (taken_at pt m pt.kernel.machines) → RoomStands n.room (room_of (slice_get b.machines m)) (taken_at next m next.kernel.machines)
room_same b m t p pt next l placed k n g e takes h =
    let all : (q : Pid) → taken_by next m q ≡ taken_by pt m q = λ q. elim (cases_Bool (pid_eq p q)) [
      | inl same ↦ subst (λ (z : Pid). taken_by next m z ≡ taken_by pt m z) (pid_eq-is p q same) takes
      | inr apart ↦ others_take m t p pt next l placed g q apart
    ] in
    let f : taken_at next m next.kernel.machines ≡ taken_at pt m pt.kernel.machines = taken_same pt next m g.kernel.machines g.kernel.made all in
    subst (λ (r : Taken). RoomStands r (room_of (slice_get b.machines m)) (taken_at next m next.kernel.machines)) (sym e) (subst (RoomStands k.room (room_of (slice_get b.machines m))) (sym f) h)

-- the room, where a process that was there takes nothing any more
pub room_released : (b : Boot) (m : ℕ) (t : Spot → Bool) (p : Pid) (pt next : Point) (l placed : Placed) (k n : KernelState) (blocks : ℕ) → Leaves m t p pt l next placed → n.room ≡ with_released k.room blocks
    → taken_by pt m p ≡ record { slots = 1; blocks = blocks } → taken_by next m p ≡ record { slots = 0; blocks = 0 } → is_some (pt.kernel.processes p) ≡ true → MadeStands pt.kernel
    → RoomStands k.room (room_of (slice_get b.machines m)) (taken_at pt m pt.kernel.machines) → RoomStands n.room (room_of (slice_get b.machines m)) (taken_at next m next.kernel.machines)
room_released b m t p pt next l placed k n blocks g e before after there made h =
    let c = taken_changed pt next m p g.kernel.machines g.kernel.made (made.home p there) (made.first p there) (made.below p there) (λ q apart. others_take m t p pt next l placed g q (off q apart)) in
    let before_slots : (taken_by pt m p).slots ≡ 1 = ap (λ (r : Room). r.slots) before in
    let before_blocks : (taken_by pt m p).blocks ≡ blocks = ap (λ (r : Room). r.blocks) before in
    let after_slots : (taken_by next m p).slots ≡ 0 = ap (λ (r : Room). r.slots) after in
    let after_blocks : (taken_by next m p).blocks ≡ 0 = ap (λ (r : Room). r.blocks) after in
    let slots = h.taken_slots in
    subst (λ (r : Taken). RoomStands r (room_of (slice_get b.machines m)) (taken_at next m next.kernel.machines)) (sym e) (record {
      slots = h.slots;
      blocks = h.blocks;
      taken_slots = omega (arith, c.0, before_slots, after_slots, slots);
      taken_blocks = omega (arith, c.1, before_blocks, after_blocks, h.taken_blocks);
    })
  where
    off : (q : Pid) → q ≢ p → pid_eq p q ≡ false
    off q apart = elim (cases_Bool (pid_eq p q)) [ inl same ↦ absurd (apart (sym (pid_eq-is p q same))) | inr away ↦ away ]

-- A process of the machine goes on, or ends: the machine's kernel stands for the point behind the labels.

-- process p is here, alive, as the kernel without machines and the kernel with places have it
pub record LivesHere (m : ℕ) (pt : Point) (l : Placed) (k : KernelState) (p : Pid) (x : Process) : Type 0 where
  pub away : IsAway pt.view m p
  pub server : is_server p ≡ false
  pub alive : pt.kernel.processes p ≡ Some (Alive (plain_process x))
  -- it follows no request to move
  pub free : pt.kernel.notes p ≡ None
  pub record_is : k.records p ≡ Some (Record.Here (Resident.Process x))
  pub known : pt.view.known m p ≡ view.Here
  pub queue : List Message
  pub there : l.processes p ≡ Some (with_queue x queue)
  pub messages : AreMessages l.bag (pt.view.queue m p) x.queue

-- it goes on, with as much memory
pub goes_stands : (b : Boot) (m : ℕ) (t : Spot → Bool) (p : Pid) (pt next : Point) (l placed : Placed) (k n : KernelState) (x y : Process) (queue : List Message) → LivesHere m pt l k p x → Leaves m t p pt l next placed → Stays k n p
    → ((q : Pid) → pid_eq p q ≡ false → t (Queue m q) ≡ false) → ((q : Pid) → t (Held m q) ≡ false) → n.records p ≡ Some (Record.Here (Resident.Process y)) → n.room ≡ k.room → n.ring ≡ next.view.ring m → AreMessages placed.bag (next.view.inbox m) n.inbox → next.view.known m p ≡ pt.view.known m p → next.view.preds m p ≡ pt.view.preds m p → n.preds p ≡ k.preds p
    → next.kernel.processes p ≡ Some (Alive (plain_process y)) → placed.processes p ≡ Some (with_queue y queue) → AreMessages placed.bag (next.view.queue m p) y.queue → length y.memory ≡ length x.memory → KernelStands b pt l m k → KernelStands b next placed m n
goes_stands b m t p pt next l placed k n x y queue at g s queues helds e room ring inbox known said mine alive there messages memory h =
    let blocks_same : (x y : Process) → length y.memory ≡ length x.memory → blocks_of (Some (plain_process y)) ≡ blocks_of (Some (plain_process x)) = λ x y e. ap (λ (n : ℕ). n / 256) e in
    let takes : taken_by next m p ≡ taken_by pt m p = grind (arith, nat_tests, takes_as, blocks_same) in
    -- what is known of it
    let known_here : KnownStands placed p (next.view.queue m p) (next.view.held m p) (next.view.known m p) (n.records p) =
    subst (KnownStands placed p (next.view.queue m p) (next.view.held m p) (next.view.known m p)) (sym e)
    (subst (λ (z : Known). KnownStands placed p (next.view.queue m p) (next.view.held m p) z (Some (Record.Here (Resident.Process y)))) (sym (known ∙ at.known))
    (here_process placed p (next.view.queue m p) y queue at.server there messages)) in
    set_stands b m t p pt next l placed k n g s queues helds known_here (mine ∙ h.preds.same p ∙ sym said) (λ j far. ap (λ (f : ℕ → Bool). f j) mine ∙ h.preds.within p j far) ring inbox (room_same b m t p pt next l placed k n g room takes h.room) h

-- it ends and is forgotten, and its slot and its blocks are free again
pub ends_stands : (b : Boot) (m : ℕ) (t : Spot → Bool) (p : Pid) (pt next : Point) (l placed : Placed) (k n : KernelState) (x y : Process) (because : Why) → LivesHere m pt l k p x → Leaves m t p pt l next placed → Stays k n p
    → ((q : Pid) → pid_eq p q ≡ false → t (Queue m q) ≡ false) → ((q : Pid) → t (Held m q) ≡ false) → n.records p ≡ None → n.preds p ≡ nobody → next.view.preds m p ≡ nobody → n.room ≡ with_released k.room (machine.blocks_of y) → n.ring ≡ next.view.ring m → AreMessages placed.bag (next.view.inbox m) n.inbox
    → next.view.known m p ≡ view.Unknown → next.kernel.processes p ≡ Some (Life.Ended because) → length y.memory ≡ length x.memory → MadeStands pt.kernel → KernelStands b pt l m k → KernelStands b next placed m n
ends_stands b m t p pt next l placed k n x y because at g s queues helds e none said room ring inbox known ended memory made h =
    let after : taken_by next m p ≡ record { slots = 0; blocks = 0 } = grind (arith, nat_tests) in
    let known_ended : KnownStands placed p (next.view.queue m p) (next.view.held m p) (next.view.known m p) (n.records p) = grind (arith, nat_tests, next.view.queue, next.view.held, next.view.known) in
    set_stands b m t p pt next l placed k n g s queues helds known_ended (none ∙ sym said) (λ j far. ap (λ (f : ℕ → Bool). f j) none) ring inbox
    (room_released b m t p pt next l placed k n (machine.blocks_of y) g room (grind (arith, nat_tests)) after (ap is_some at.alive) made h.room) h

-- What each way in which a label changes view, kernel and kernel with places leaves; and a label as a step with places.

-- lists in which nothing changes but at these spots
pub lists_same : (t : Spot → Bool) (v w : View) → ((n : ℕ) (q : Pid) → t (Queue n q) ≡ false → w.queue n q ≡ v.queue n q) → ((n : ℕ) (q : Pid) → w.held n q ≡ v.held n q) → ((n : ℕ) → t (Inbox n) ≡ false → w.inbox n ≡ v.inbox n)
    → ((a c : ℕ) → w.pair a c ≡ v.pair a c) → (s : Spot) → t s ≡ false → ids_at w s ≡ ids_at v s
lists_same t v w queue held inbox pair s off = grind (arith, nat_tests)

pub machine_on : {X : Type 0} (f : ℕ → X) (a m : ℕ) (x : X) → a ≡ m → at_machine f a x m ≡ x
machine_on f a m x e = on_if (a == m) x (f m) (ap (λ (k : ℕ). k == m) e ∙ eq_self m)

pub record_off : {X : Type 0} (f : ℕ → Pid → X) (a m n : ℕ) (p q : Pid) (x : X) → a ≡ m → ((m == n) && pid_eq p q) ≡ false → at_record f a p x n q ≡ f n q
record_off f a m n p q x e off = off_if ((a == n) && pid_eq p q) x (f n q) (ap (λ (k : ℕ). (k == n) && pid_eq p q) e ∙ off)

pub record_on : {X : Type 0} (f : ℕ → Pid → X) (a m : ℕ) (p : Pid) (x : X) → a ≡ m → at_record f a p x m p ≡ x
record_on f a m p x e = on_if ((a == m) && pid_eq p p) x (f m p) (ap (λ (k : ℕ). (k == m) && pid_eq p p) e ∙ ap (λ (c : Bool). c && pid_eq p p) (eq_self m) ∙ pid_eq-same p)

-- the view: nothing, a process is served, it ends, it receives, a message of its queue is dropped
pub view_same : (m : ℕ) (t : Spot → Bool) (p : Pid) (v : View) → ViewLeaves m t p v v
view_same m t p v = record { acting = refl; groups = refl; pair = λ a c. refl; lists = λ s off. refl; ring = λ n apart. refl; known = λ n q off. refl; held = λ n q. refl; preds = λ n q off. refl; count = λ n. refl; told = refl }

pub view_serving : (m : ℕ) (t : Spot → Bool) (p : Pid) (v : View) → v.acting ≡ m → ViewLeaves m t p v (serving v p)
view_serving m t p v at = search (
  lists_same t v (serving v p) (λ n q off. refl) (λ n q. refl) (λ n off. refl) (λ a c. refl),
  λ (n : ℕ) (apart : n ≢ m). off_if (v.acting == n) (moved_back p (v.ring v.acting)) (v.ring n) (ap (λ (k : ℕ). k == n) at ∙ eq_apart m n apart),
)

pub view_ended : (m : ℕ) (t : Spot → Bool) (p : Pid) (v : View) → v.acting ≡ m → ViewLeaves m t p v (ended v p)
view_ended m t p v at = search (
  lists_same t v (ended v p) (λ n q off. refl) (λ n q. refl) (λ n off. refl) (λ a c. refl),
  λ (n : ℕ) (apart : n ≢ m). off_if (v.acting == n) (without p (v.ring v.acting)) (v.ring n) (ap (λ (k : ℕ). k == n) at ∙ eq_apart m n apart),
  λ (n : ℕ) (q : Pid) (off : ((m == n) && pid_eq p q) ≡ false). record_off v.known v.acting m n p q Known.Unknown at off,
  λ (n : ℕ) (q : Pid) (off : ((m == n) && pid_eq p q) ≡ false). record_off v.preds v.acting m n p q nobody at off,
)

-- the queue of the process is set
abbrev pub with_queue_ids : View → Pid → List MsgId → View
with_queue_ids v p ids = record v { queue = at_record v.queue v.acting p ids }

pub view_queue : (m : ℕ) (t : Spot → Bool) (p : Pid) (v : View) (ids : List MsgId) → v.acting ≡ m → ((n : ℕ) (q : Pid) → t (Queue n q) ≡ false → ((m == n) && pid_eq p q) ≡ false) → ViewLeaves m t p v (with_queue_ids v p ids)
view_queue m t p v ids at covers = search
    (lists_same t v (with_queue_ids v p ids) (λ n q off. record_off v.queue v.acting m n p q ids at (covers n q off)) (λ n q. refl) (λ n off. refl) (λ a c. refl))

pub view_not_handled : (m : ℕ) (t : Spot → Bool) (p : Pid) (v : View) (id : MsgId) → without_front id (v.inbox v.acting) ≡ v.inbox v.acting → ViewLeaves m t p v (handled v id)
view_not_handled m t p v id e = search
    (lists_same t v (handled v id) (λ n q off. refl) (λ n q. refl) (λ n off. grind (arith, nat_tests, on_if, off_if)) (λ a c. refl))

-- the kernel without machines: a process is set, a message goes, or one comes
pub kernel_same : (p : Pid) (s : OneKernel) → KernelLeaves p s s
kernel_same p s = record { machines = refl; made = λ n. refl; life = λ q off. refl }

pub kernel_sets : (p : Pid) (s : OneKernel) (life : Life) → KernelLeaves p s (kernels.with_process s p life)
kernel_sets p s life = record { machines = refl; made = λ n. refl; life = λ q off. off_if (pid_eq p q) (Some life) (s.processes q) off }

pub kernel_out : (p : Pid) (s : OneKernel) (id : MsgId) → KernelLeaves p s (service.without_message s id)
kernel_out p s id = record { machines = refl; made = λ n. refl; life = λ q off. refl }

-- a message with a plain meaning, or none
abbrev pub NotOwn : Option Message → Type 0
NotOwn o = (x : Message) → o ≡ Some x → plain_message x ≡ None → ⊥

pub not_own_some : (w : Message) (u : PlainMessage) → plain_message w ≡ Some u → NotOwn (Some w)
not_own_some w u says x e none = let f : w ≡ x = cc in let g : None ≡ Some u = sym none ∙ ap plain_message (sym f) ∙ says in cc

-- what the kernel without machines has isn't a kernel's own
pub not_own_there : (s : OneKernel) (l : Placed) (i : MsgId) (u : PlainMessage) → MirrorsKernel s l → s.bag i ≡ Some u → NotOwn (l.bag i)
not_own_there s l i u h there x e none = let g : None ≡ Some u = sym none ∙ sym (ap (λ (o : Option Message). bind o plain_message) e) ∙ h.bag i ∙ there in cc

-- the kernel with places, the same
pub placed_same : (t : Spot → Bool) (p : Pid) (v : View) (l : Placed) → PlacedLeaves t p v l l
placed_same t p v l = record { process = λ q off. refl; notes = λ q. refl; bag = λ i s off least. refl; own = λ i x none there. there; own_back = λ i x none there. there; board = refl; manager = refl }

pub placed_sets : (t : Spot → Bool) (p : Pid) (v : View) (l : Placed) (y : Option Process) → PlacedLeaves t p v l (with_process l p y)
placed_sets t p v l y = search off_if

pub placed_message : (t : Spot → Bool) (p : Pid) (v : View) (l : Placed) (id : MsgId) (x : Option Message) → NotOwn (l.bag id) → NotOwn x → ((i : MsgId) (s : Spot) → t s ≡ false → 1 ≤ standing v i s → id_eq id i ≡ false) → PlacedLeaves t p v l (with_message l id x)
placed_message t p v l id x was is alone = record {
  process = λ q off. refl;
  notes = λ q. refl;
  bag = λ i s off least. off_if (id_eq id i) x (l.bag i) (alone i s off least);
  own = λ i y none there. elim (cases_Bool (id_eq id i)) [
    | inl same ↦ absurd (was y (ap l.bag (id_eq-is id i same) ∙ there) none)
    | inr apart ↦ off_if (id_eq id i) x (l.bag i) apart ∙ there
  ];
  own_back = λ i y none there. elim (cases_Bool (id_eq id i)) [
    | inl same ↦ absurd (is y (sym (on_if (id_eq id i) x (l.bag i) same) ∙ there) none)
    | inr apart ↦ sym (off_if (id_eq id i) x (l.bag i) apart) ∙ there
  ];
  board = refl;
  manager = refl;
}

pub placed_out : (t : Spot → Bool) (p : Pid) (v : View) (l : Placed) (id : MsgId) → NotOwn (l.bag id) → ((i : MsgId) (s : Spot) → t s ≡ false → 1 ≤ standing v i s → id_eq id i ≡ false) → PlacedLeaves t p v l (without_message l id)
placed_out t p v l id was alone = let not_own_none : NotOwn None = λ x e none. cc in placed_message t p v l id None was not_own_none alone

pub placed_puts : (t : Spot → Bool) (p : Pid) (v : View) (l : Placed) (x : Message) (u : PlainMessage) → NotOwn (l.bag x.id) → plain_message x ≡ Some u → ((i : MsgId) (s : Spot) → t s ≡ false → 1 ≤ standing v i s → id_eq x.id i ≡ false)
    → PlacedLeaves t p v l (with_sent l (Some x))
placed_puts t p v l x u was says alone = placed_message t p v l x.id (Some x) was (not_own_some x u says) alone

-- a message that is no kernel's own and isn't in the bag stands nowhere
nowhere_of : (id : MsgId) (o : Option PlainMessage) (f : Spot → ℕ) → is_kernels id ≡ false → o ≡ None → StandsRight id o f → StandsNowhere f
nowhere_of id (Some x) f off e h = cc
nowhere_of id None f off e h = subst (λ (c : Bool). StandsOutside c f) off h

pub nowhere_alone : (v : View) (id : MsgId) (o : Option PlainMessage) → is_kernels id ≡ false → o ≡ None → StandsRight id o (standing v id) → (t : Spot → Bool) (i : MsgId) (s : Spot) → t s ≡ false → 1 ≤ standing v i s → id_eq id i ≡ false
nowhere_alone v id o own e h t i s off least = elim (cases_Bool (id_eq id i)) [
  | inl same ↦
      let z : standing v i s ≡ 0 = ap (λ (j : MsgId). standing v j s) (sym (id_eq-is id i same)) ∙ (nowhere_of id o (standing v id) own e h) s in
      absurd (omega (arith, least, z))
  | inr apart ↦ apart
]

-- a label as a step with places, and what follows it
pub label_mirrors : (pt : Point) (l placed : Placed) (m : ℕ) (e : Label) (t : OneKernel) → Mirrors pt.kernel pt.view pt.addresses l → pt.view.acting ≡ m → StepNeeds pt.kernel pt.view e → kernel.step pt.kernel e ≡ Some t
    → placed_step m pt.kernel.format pt.kernel.images l e ≡ Some placed → Mirrors (moved pt (Line.Label e) t).kernel (moved pt (Line.Label e) t).view (moved pt (Line.Label e) t).addresses placed
label_mirrors pt l placed m e t h at needs step is =
    let (n, first, mirrors) = placed_follows pt.kernel t pt.view pt.addresses l m e h at needs step in
    let f : Some n ≡ Some placed = sym first ∙ is in
    let next = moved pt (Line.Label e) t in
    mirrors_view t pt.view next.view next.addresses placed (moves_label pt.view e) (subst (Mirrors t pt.view next.addresses) (cc) mirrors)

pub after_label : (pt : Point) (e : Label) (t : OneKernel) (ls : List Line) (next : Point) → kernel.step pt.kernel e ≡ Some t → after (moved pt (Line.Label e) t) ls ≡ Some next → after pt (Line.Label e ∷ ls) ≡ Some next
after_label pt e t ls next step rest = ap (λ (o : Option OneKernel). bind (bind o (λ (s : OneKernel). Some (moved pt (Line.Label e) s))) (λ (n : Point). after n ls)) step ∙ rest
