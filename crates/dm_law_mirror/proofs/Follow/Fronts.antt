-- The kernel of a machine still stands where the message at its front is held, goes on or makes links follow.
use Rattle.dm_law_mirror.proofs.Names.{◌≡◌, ℕ, ◌≤◌, ◌<◌, ◌==◌, Bool, true, false, List, [], ◌∷◌, map, refl, ap, ◌∙◌, sym, subst, Option, None, Some, false≢true, Pid, pid_eq, MsgId, Message, What, MessageKind, kind_of, plain_kind, PlainMessage}
use Rattle.dm_law_mirror.proofs.Names.{PlainWhat, plain_message, plain_what, with_what, Boot, bind, KernelState, is_between, Point, Inbox, times, standing, About, Told, OwnTold, own_sort, Run, Placed}
use Rattle.dm_law_mirror.proofs.Names.{Mirrors, parts, AllOwnStand, told_of, AreMessages, KernelStands, AllRecords, TokensStand, told_there, ◌≢◌, ◌+◌, inl, inr, arith, if◌then◌else◌, cases_Bool, nat_tests, id_eq, id_eq-is, id_eq-same}
use Rattle.dm_law_mirror.proofs.Names.{at_machine, without_front, Spot, Held, StandsOnce, StandsOutside, StandsRight, Known, is_kernels, stands_right, once_at, KnownStands, with_record, handles, Turned, pid_eq-same, process_told, comes_to, not}
use Rattle.dm_law_mirror.proofs.Names.{slice_get, incoming_of, Taken, Wanted, Arrival, room_of, turns, pid_eq-is, Line, Addresses, after, after_line, taken_at, Queue, Of, View, handled, OwnStands, RoomStands, resident_at, Carries, Wants}
use Rattle.dm_law_mirror.proofs.Names.{destination_of, Part, Cargo, ◌⊎◌, cargo_at, sort_of, is_due_piece, pulls_piece, hears, kernel_hears, PredsStand}
pub use Rattle.dm_law_always.proofs.Goes.Turns.{times_self, times_more}
pub use Rattle.dm_law_rule.proofs.Lines.{eq_self, at_machine_at as machine_self}
pub use Rattle.dm_law_always.proofs.Goes.Always.{queue_apart}
pub use Rattle.dm_law_mirror.proofs.Names.{append-nil as append_none}
use Rattle.dm_law_rule.specs.Rule.{process_handles}
use Rattle.dm_kernel.specs.State as machine
use Rattle.dm_kernel.specs.Handle as machine_handle
use Rattle.dm_law_rule.specs.Parts as rule
use Rattle.dm_kernel.specs.declared.part.Part as machine_part
use Rattle.dm_law_rule.specs.Rule as outcomes
pub use Rattle.dm_law_mirror.proofs.Kernel.Sets.{known_at as known_on, map_same}
use Rattle.dm_law_mirror.proofs.Handle.Taking.{not_it, held_apart, machine_off, stands_set}
pub use Rattle.dm_law_mirror.proofs.End.Servers.{off as eq_off}
use Rattle.dm_law_mirror.proofs.Turning.{NoneEnds, Elsewhere, Nothing, Route, TurnsAt, AllMayPut, begun, has_process, is_elsewhere, owns, part_of, rule_part_of}
use Rattle.dm_law_mirror.proofs.Cargoes.{cargo_same}
use Rattle.dm_law_mirror.proofs.LeftOver.{known_due, left_keeps, left_told, one_keeps}
use Rattle.dm_law_mirror.proofs.Handle.Taking.{to_known, rule_to_known}
use Rattle.dm_law_mirror.proofs.Residents.{SameSystem}

-- a message that stands somewhere stands there once, and nowhere else
outside_once : (c : Bool) (f : Spot → ℕ) (x : Spot) → StandsOutside c f → 1 ≤ f x → StandsOnce f
outside_once true f x h least = grind (arith, nat_tests)
outside_once false f x h least = absurd (let z : f x ≡ 0 = h x in omega (arith, least, z))

right_once : (i : MsgId) (o : Option PlainMessage) (f : Spot → ℕ) (x : Spot) → StandsRight i o f → 1 ≤ f x → StandsOnce f
right_once i None f x h least = outside_once (is_kernels i) f x h least
right_once i (Some m) f x h least = h

pub stands_once : (b : Boot) (pt : Point) (i : MsgId) (x : Spot) → Run b pt → 1 ≤ standing pt.view i x → (standing pt.view i x ≡ 1) × ((y : Spot) → y ≢ x → standing pt.view i y ≡ 0)
stands_once b pt i x run least =
    once_at (standing pt.view i) x (right_once i (pt.kernel.bag i) (standing pt.view i) x (stands_right pt i run.based.phased.state (pt.kernel.bag i) refl) least) least

-- machine m has message y at its front, and was told so
pub record Fronts (b : Boot) (m : ℕ) (pt : Point) (l : Placed) (records : AllRecords) (k : KernelState) (y : Message) : Type 0 where
  pub below : m < pt.kernel.machines
  pub run : Run b pt
  pub own_told : OwnTold pt
  pub mirrors : Mirrors pt.kernel pt.view pt.addresses l
  pub stands : KernelStands b pt l m k
  pub own : AllOwnStand pt.view l
  pub tokens : TokensStand pt.view l records
  pub mine : records m ≡ k.records
  -- the kernel has counted its own messages as the lines have
  pub counted : k.sent ≡ pt.view.count m
  pub there : l.bag y.id ≡ Some y
  -- the messages behind it
  pub ids : List MsgId
  pub box : pt.view.inbox m ≡ y.id ∷ ids
  pub rest : List Message
  pub inbox : k.inbox ≡ y ∷ rest
  pub others : AreMessages l.bag ids rest
  pub told : Told
  pub told_is : pt.view.told y.id ≡ Some told
  pub kind : told.kind ≡ kind_of y.what
  pub receiver : told.receiver ≡ y.to.pid

pub at_front : (b : Boot) (m : ℕ) (pt : Point) (l : Placed) (records : AllRecords) (k : KernelState) (y : Message) (c : Fronts b m pt l records k y) → 1 ≤ standing pt.view y.id (Inbox m)
at_front b m pt l records k y c = subst (λ (z : List MsgId). 1 ≤ times y.id z) (sym c.box) (times_self y.id c.ids)

pub apart_at : (b : Boot) (m : ℕ) (pt : Point) (l : Placed) (records : AllRecords) (k : KernelState) (y : Message) (c : Fronts b m pt l records k y) (s : Spot) (j : MsgId) → s ≢ Inbox m → 1 ≤ standing pt.view j s → id_eq y.id j ≡ false
apart_at b m pt l records k y c s j off least =
    not_it y.id j (λ (i : MsgId). standing pt.view i s) ((stands_once b pt y.id (Inbox m) c.run (at_front b m pt l records k y c)).1 s off) least

pub apart_behind : (b : Boot) (m : ℕ) (pt : Point) (l : Placed) (records : AllRecords) (k : KernelState) (y : Message) (c : Fronts b m pt l records k y) (j : MsgId) → 1 ≤ times j c.ids → id_eq y.id j ≡ false
apart_behind b m pt l records k y c j least =
    let is : times y.id (y.id ∷ c.ids) ≡ 1 = ap (times y.id) (sym c.box) ∙ (stands_once b pt y.id (Inbox m) c.run (at_front b m pt l records k y c)).0 in
    not_it y.id j (λ (i : MsgId). times i c.ids) (omega (arith, is, (ap (λ (d : Bool). (if d then 1 else 0) + times y.id c.ids) (id_eq-same y.id)))) least

-- the inbox behind its front
pub front_gone : (i : MsgId) (is xs : List MsgId) → xs ≡ i ∷ is → without_front i xs ≡ is
front_gone i is xs e = ap (without_front i) e ∙ ap (λ (c : Bool). if c then is else i ∷ is) (id_eq-same i)

-- The message at the front of an inbox: what it is, and what was told of it.

pub plain_kinds : (w : What) (o : PlainWhat) → plain_what w ≡ Some o → plain_kind o ≡ kind_of w
plain_kinds w o e = grind (arith, nat_tests)

-- nor is a kernel's own message for a process or a server
own_still : (k : MessageKind) (q : Pid) (a : About) → own_sort k q a ≡ true → (q.num == 0) ≡ false → is_between k ≡ false
own_still k q a e num = grind (arith, nat_tests)

-- what the bag without places has of it
pub plain_there : (b : Boot) (m : ℕ) (pt : Point) (l : Placed) (records : AllRecords) (k : KernelState) (y : Message) (c : Fronts b m pt l records k y) → pt.kernel.bag y.id ≡ plain_message y
plain_there b m pt l records k y c = sym (c.mirrors.plain.bag y.id) ∙ ap (λ (o : Option Message). bind o plain_message) c.there

still_by : (b : Boot) (m : ℕ) (pt : Point) (l : Placed) (records : AllRecords) (k : KernelState) (y : Message) (c : Fronts b m pt l records k y) (o : Option PlainWhat) → plain_what y.what ≡ o → (y.to.pid.num == 0) ≡ false → is_between (kind_of y.what) ≡ false
still_by b m pt l records k y c (Some w) e num = grind (arith, nat_tests)
still_by b m pt l records k y c None e num =
    let sort = c.own_told.own y.id c.told c.told_is (c.own y.id y c.there (ap (with_what y) e)).mine in
    sym (ap is_between c.kind) ∙ own_still c.told.kind c.told.receiver c.told.about sort (ap (λ (p : Pid). p.num == 0) c.receiver ∙ num)

pub front_still : (b : Boot) (m : ℕ) (pt : Point) (l : Placed) (records : AllRecords) (k : KernelState) (y : Message) (c : Fronts b m pt l records k y) → (y.to.pid.num == 0) ≡ false → is_between (kind_of y.what) ≡ false
front_still b m pt l records k y c num = still_by b m pt l records k y c (plain_what y.what) refl num

-- what was told of a message that stands here
record WasTold (pt : Point) (y : Message) : Type 0 where
  told : Told
  is : pt.view.told y.id ≡ Some told
  kind : told.kind ≡ kind_of y.what
  receiver : told.receiver ≡ y.to.pid

was_told : (b : Boot) (m : ℕ) (pt : Point) (l : Placed) (y : Message) (o : Option PlainMessage) → Run b pt → Mirrors pt.kernel pt.view pt.addresses l → AllOwnStand pt.view l → l.bag y.id ≡ Some y → 1 ≤ standing pt.view y.id (Inbox m) → plain_message y ≡ o → WasTold pt y
was_told b m pt l y None run mirrors own there least e = let w = own y.id y there e in record { told = told_of y; is = w.told; kind = refl; receiver = refl }
was_told b m pt l y (Some x) run mirrors own there least e =
    let (t, is) = told_there (pt.view.told y.id) (run.found.told y.id (Inbox m) least) in
    let bag : pt.kernel.bag y.id ≡ Some x = sym (mirrors.plain.bag y.id) ∙ ap (λ (z : Option Message). bind z plain_message) there ∙ e in
    let right = run.based.phased.sane.tells in
    let p = parts y x e in
    search (right.kind y.id x t bag is ∙ plain_kinds y.what x.what p.what, right.receiver y.id x t bag is ∙ sym p.to)

-- whatever is at the front
pub record Fronted (b : Boot) (m : ℕ) (pt : Point) (l : Placed) (records : AllRecords) (k : KernelState) : Type 0 where
  pub message : Message
  pub fronts : Fronts b m pt l records k message

fronted_by : (b : Boot) (m : ℕ) (pt : Point) (l : Placed) (records : AllRecords) (k : KernelState) (i : MsgId) (is : List MsgId) (ms : List Message) → m < pt.kernel.machines → Run b pt → OwnTold pt → Mirrors pt.kernel pt.view pt.addresses l
    → KernelStands b pt l m k → AllOwnStand pt.view l → TokensStand pt.view l records → records m ≡ k.records → k.sent ≡ pt.view.count m → pt.view.inbox m ≡ i ∷ is → k.inbox ≡ ms → AreMessages l.bag (i ∷ is) ms → Fronted b m pt l records k
fronted_by b m pt l records k i is [] below run own_told mirrors stands own tokens mine counted box inbox e = cc
fronted_by b m pt l records k i is (y ∷ rest) below run own_told mirrors stands own tokens mine counted box inbox e =
    let there : l.bag i ≡ Some y = cc in
    let name : y.id ≡ i = (mirrors.places.message i y there).id in
    let there_ : l.bag y.id ≡ Some y = ap l.bag name ∙ there in
    let box_ : pt.view.inbox m ≡ y.id ∷ is = box ∙ ap (λ (j : MsgId). j ∷ is) (sym name) in
    let t = was_told b m pt l y (plain_message y) run mirrors own there_ (subst (λ (z : List MsgId). 1 ≤ times y.id z) (sym box_) (times_self y.id is)) refl in
    record {
      message = y;
      fronts = record {
        below = below;
        run = run;
        own_told = own_told;
        mirrors = mirrors;
        stands = stands;
        own = own;
        tokens = tokens;
        mine = mine;
        counted = counted;
        there = there_;
        ids = is;
        box = box_;
        rest = rest;
        inbox = inbox;
        others = (let f : map l.bag is ≡ map Some rest = cc in f);
        told = t.told;
        told_is = t.is;
        kind = t.kind;
        receiver = t.receiver;
      };
    }

pub fronted : (b : Boot) (m : ℕ) (pt : Point) (l : Placed) (records : AllRecords) (k : KernelState) (i : MsgId) (is : List MsgId) → m < pt.kernel.machines → Run b pt → OwnTold pt → Mirrors pt.kernel pt.view pt.addresses l
    → KernelStands b pt l m k → AllOwnStand pt.view l → TokensStand pt.view l records → records m ≡ k.records → k.sent ≡ pt.view.count m → pt.view.inbox m ≡ i ∷ is → Fronted b m pt l records k
fronted b m pt l records k i is below run own_told mirrors stands own tokens mine counted box =
    fronted_by b m pt l records k i is k.inbox below run own_told mirrors stands own tokens mine counted box refl (subst (λ (z : List MsgId). AreMessages l.bag z k.inbox) box stands.inbox)

-- What a machine and the rule do with a message for a process or a server, by what they know of it.

-- the machine does what it knows of it, and so does the rule
pub machine_process : (b : Boot) (s : KernelState) (y : Message) (r : Option machine.KernelKnown) (o : Option Turned) → (y.to.pid.num == 0) ≡ false → s.records y.to.pid ≡ r → machine_handle.process_handles s y r ≡ o → handles b s y ≡ o
machine_process b s y r o num e h = to_known b s y r num e ∙ h

bag_process : (b : Boot) (pt : Point) (m : ℕ) (id : MsgId) (x : PlainMessage) (k : Known) (o : Option (List rule.Part)) → (x.to.num == 0) ≡ false → pt.view.known m x.to ≡ k → process_handles pt m id x k ≡ o → outcomes.handles b pt m id x ≡ o
bag_process b pt m id x k o num e h = rule_to_known b pt m id x k num e ∙ h

-- a message of the bag, or a kernel's own
pub rule_process : (b : Boot) (m : ℕ) (pt : Point) (l : Placed) (records : AllRecords) (k : KernelState) (y : Message) (c : Fronts b m pt l records k y) (w : Known) (o : Option (List rule.Part)) (z : Option PlainMessage) → (y.to.pid.num == 0) ≡ false → pt.view.known m y.to.pid ≡ w → plain_message y ≡ z
    → ((x : PlainMessage) → z ≡ Some x → process_handles pt m y.id x w ≡ o) → (z ≡ None → process_told pt m y.id c.told w ≡ o) → comes_to b pt m y.id (pt.kernel.bag y.id) ≡ o
rule_process b m pt l records k y c w o None is e plain bag own =
    let num : (c.told.receiver.num == 0) ≡ false = ap (λ (p : Pid). p.num == 0) c.receiver ∙ is in
    ap (comes_to b pt m y.id) (plain_there b m pt l records k y c ∙ plain) ∙ ap (hears b pt m y.id) c.told_is ∙ ap (λ (d : Bool). if d then kernel_hears b pt m y.id c.told.kind c.told.about else process_told pt m y.id c.told (pt.view.known m c.told.receiver)) num
    ∙ ap (process_told pt m y.id c.told) (ap (pt.view.known m) c.receiver ∙ e) ∙ own refl
rule_process b m pt l records k y c w o (Some x) is e plain bag own =
    let to : y.to.pid ≡ x.to = (parts y x plain).to in
    ap (comes_to b pt m y.id) (plain_there b m pt l records k y c ∙ plain) ∙ bag_process b pt m y.id x w o (ap (λ (p : Pid). p.num == 0) (sym to) ∙ is) (ap (pt.view.known m) (sym to) ∙ e) (bag x refl)

-- the record of a process is set
pub set_self : (records : Pid → Option machine.KernelKnown) (p : Pid) (r : machine.KernelKnown) → with_record records p r p ≡ Some r
set_self records p r = ap (λ (c : Bool). if c then Some r else records p) (pid_eq-same p)

pub set_other : (records : Pid → Option machine.KernelKnown) (p : Pid) (r : machine.KernelKnown) (q : Pid) → pid_eq p q ≡ false → with_record records p r q ≡ records q
set_other records p r q off = ap (λ (c : Bool). if c then Some r else records q) off

-- A row of a turn that says one line of the message at its front, and puts messages on: it leads to what a turn owes.

-- what is asked for stays, so what a message carries does
pub carries_on : (p : Pid) (x : Cargo) (n : ℕ) (a c : Option Arrival) (w : What) → ((u : Wanted) → Wants a u → Wants c u) → Carries p x n a w → Carries p x n c w
carries_on p x n a c (What.Ask pid blocks moves size asker) same h = h
carries_on p x n a c (What.Refuse pid slots blocks) same h = h
carries_on p x n a c (What.PullState pid chunk) same h = (h.0, h.1, same (Wanted.Chunk chunk) h.2)
carries_on p x n a c (What.State pid chunk last bytes) same h = (h.0, h.1, same (Wanted.Chunk chunk) h.2)
carries_on p x n a c (What.PullBlock pid block) same h = (h.0, h.1, same (Wanted.Block block) h.2)
carries_on p x n a c (What.Memory pid block bytes) same h = (h.0, h.1, same (Wanted.Block block) h.2)
carries_on p x n a c (What.AllTaken pid) same h = (h.0, same Wanted.Nothing h.1)
carries_on p x n a c (What.Restart pid) same h = (h.0, same Wanted.Nothing h.1)
carries_on p x n a c (What.CallOff pid) same h = h
carries_on p x n a c _ same h = absurd h

-- the message is handled, held lists may have grown, and addresses may have changed
abbrev pub handled_view : Point → ℕ → MsgId → (ℕ → Pid → List MsgId) → About → View
handled_view pt m i held topic = record (handled (begun pt m).view i) { held = held; topic = topic }

abbrev pub handled_point : Point → ℕ → MsgId → (ℕ → Pid → List MsgId) → About → Addresses → Point
handled_point pt m i held topic a = record { kernel = pt.kernel; view = handled_view pt m i held topic; addresses = a }

-- what such a row leaves of what is held, of the kernel with places and of the machine, but for the process that it is for
pub record FollowLeaves (m : ℕ) (pt : Point) (l : Placed) (k : KernelState) (rest : List Message) (i : MsgId) (process : Pid) (held : ℕ → Pid → List MsgId) (placed : Placed) (state : KernelState) : Type 0 where
  -- what is held
  pub held_off : (n : ℕ) (q : Pid) → n ≢ m → held n q ≡ pt.view.held n q
  pub held_others : (q : Pid) → pid_eq process q ≡ false → held m q ≡ pt.view.held m q
  pub held_from : (n : ℕ) (q : Pid) (j : MsgId) → id_eq i j ≡ false → times j (held n q) ≡ times j (pt.view.held n q)
  -- the kernel with places
  pub residents : (q : Pid) → pid_eq process q ≡ false → resident_at placed q ≡ resident_at l q
  pub system : SameSystem l placed
  pub notes : (q : Pid) → placed.notes q ≡ l.notes q
  pub elsewhere : (n : ℕ) → n ≢ m → has_process (pt.view.known n process) ≡ true → resident_at placed process ≡ resident_at l process
  pub moving : (j : MsgId) (t : Told) (z : Spot) → pt.view.told j ≡ Some t → is_between t.kind ≡ true → t.about ≡ Of process → 1 ≤ standing pt.view j z → is_due_piece pt.view process j t ≡ true ⊎ pulls_piece (sort_of t.kind) ≡ true → resident_at placed process ≡ resident_at l process
  pub bag : (j : MsgId) → id_eq i j ≡ false → placed.bag j ≡ l.bag j
  -- the machine
  pub here : state.here ≡ k.here
  pub records_ : (q : Pid) → pid_eq process q ≡ false → state.records q ≡ k.records q
  pub ring : state.ring ≡ k.ring
  pub inbox : state.inbox ≡ rest
  pub made : state.made ≡ k.made
  pub preds : state.preds ≡ k.preds
  pub room : state.room ≡ k.room
  pub over : state.over ≡ k.over
  pub wants : (u : Wanted) → Wants (incoming_of (k.records process)) u → Wants (incoming_of (state.records process)) u

pub record Follows (b : Boot) (m : ℕ) (pt : Point) (l : Placed) (records : AllRecords) (k : KernelState) (y : Message) (c : Fronts b m pt l records k y) : Type 0 where
  pub state : KernelState
  pub said : Line
  pub routes : List Route
  pub held : ℕ → Pid → List MsgId
  pub topic : About
  pub addresses : Addresses
  pub placed : Placed
  -- the process that it is for
  pub process : Pid
  pub turn : handles b (record k { inbox = c.rest }) y ≡ Some (record { state = state; parts = Part.Says said ∷ map part_of routes })
  pub outcome : comes_to b pt m y.id (pt.kernel.bag y.id) ≡ Some (rule.Says said ∷ map rule_part_of routes)
  pub after : after_line (begun pt m) said ≡ Some (handled_point pt m y.id held topic addresses)
  pub mirrors : Mirrors pt.kernel (handled_view pt m y.id held topic) addresses placed
  pub own_front : (z : Message) → placed.bag y.id ≡ Some z → plain_message z ≡ None → OwnStands pt.view y.id z
  pub sent : state.sent ≡ k.sent + owns routes
  pub known : KnownStands placed process (pt.view.queue m process) (held m process) (pt.view.known m process) (state.records process)
  -- it is no message of a migration under way
  pub still : is_between (kind_of y.what) ≡ false
  pub may : AllMayPut (handled_point pt m y.id held topic addresses) placed (at_machine records m state.records) 0 routes
  pub leaves : FollowLeaves m pt l k c.rest y.id process held placed state

pub elsewhere_apart : (m : ℕ) (s : Spot) → is_elsewhere m s ≡ true → s ≢ Inbox m
elsewhere_apart m s is e = false≢true (sym (ap not (eq_self m)) ∙ ap (is_elsewhere m) (sym e) ∙ is)

-- the message that stands in the inbox isn't one under way
token_apart : (b : Boot) (m : ℕ) (pt : Point) (l : Placed) (records : AllRecords) (k : KernelState) (y : Message) (c : Fronts b m pt l records k y) (i : MsgId) (t : Told) → is_between (kind_of y.what) ≡ false → pt.view.told i ≡ Some t → is_between t.kind ≡ true → id_eq y.id i ≡ false
token_apart b m pt l records k y c i t still told between = elim (cases_Bool (id_eq y.id i)) [
  | inl same ↦
      let f : Some c.told ≡ Some t = sym c.told_is ∙ ap pt.view.told (id_eq-is y.id i same) ∙ told in
      let g : c.told ≡ t = cc in
      absurd (false≢true (sym still ∙ ap is_between (sym c.kind ∙ ap (λ (u : Told). u.kind) g) ∙ between))
  | inr off ↦ off
]

-- where another message stands behind it stood before
inbox_from : (m n : ℕ) (pt : Point) (y i : MsgId) (ids : List MsgId) (e : Bool) → (m == n) ≡ e → pt.view.inbox m ≡ y ∷ ids → 1 ≤ times i (if e then without_front y (pt.view.inbox m) else pt.view.inbox n) → 1 ≤ times i (pt.view.inbox n)
inbox_from m n pt y i ids e is box least = grind (arith, nat_tests, front_gone, times_more)

stood : (b : Boot) (m : ℕ) (pt : Point) (l : Placed) (records : AllRecords) (k : KernelState) (y : Message) (c : Fronts b m pt l records k y) (h : Follows b m pt l records k y c) (i : MsgId) (z : Spot) → id_eq y.id i ≡ false
    → 1 ≤ standing (handled_view pt m y.id h.held h.topic) i z → 1 ≤ standing pt.view i z
stood b m pt l records k y c h i (Held n q) off least = subst (λ (j : ℕ). 1 ≤ j) (h.leaves.held_from n q i off) least
stood b m pt l records k y c h i (Inbox n) off least = inbox_from m n pt y.id i c.ids (m == n) refl c.box least
stood b m pt l records k y c h i _ off least = least

-- what a message under way is about stays
process_stays : (b : Boot) (m : ℕ) (pt : Point) (l : Placed) (records : AllRecords) (k : KernelState) (y : Message) (c : Fronts b m pt l records k y) (h : Follows b m pt l records k y c) (p : Pid) (i : MsgId) (t : Told) (z : Spot)
    → pt.view.told i ≡ Some t → is_between t.kind ≡ true → t.about ≡ Of p → 1 ≤ standing pt.view i z → is_due_piece pt.view p i t ≡ true ⊎ pulls_piece (sort_of t.kind) ≡ true → resident_at h.placed p ≡ resident_at l p
process_stays b m pt l records k y c h p i t z told between about least reads = elim (cases_Bool (pid_eq h.process p)) [
  | inl same ↦
      let e : h.process ≡ p = pid_eq-is h.process p same in
      subst (λ (q : Pid). resident_at h.placed q ≡ resident_at l q) e (h.leaves.moving i t z told between (about ∙ ap Of (sym e)) least (subst (λ (q : Pid). is_due_piece pt.view q i t ≡ true ⊎ pulls_piece (sort_of t.kind) ≡ true) (sym e) reads))
  | inr off ↦ h.leaves.residents p off
]

record_wants : (b : Boot) (m : ℕ) (pt : Point) (l : Placed) (records : AllRecords) (k : KernelState) (y : Message) (c : Fronts b m pt l records k y) (h : Follows b m pt l records k y c) (p : Pid) (u : Wanted) → Wants (incoming_of (k.records p)) u → Wants (incoming_of (h.state.records p)) u
record_wants b m pt l records k y c h p u w = elim (cases_Bool (pid_eq h.process p)) [
  | inl same ↦
      let e : p ≡ h.process = sym (pid_eq-is h.process p same) in
      subst (λ (q : Pid). Wants (incoming_of (h.state.records q)) u) (sym e) (h.leaves.wants u (subst (λ (q : Pid). Wants (incoming_of (k.records q)) u) e w))
  | inr off ↦ subst (λ (o : Option machine.KernelKnown). Wants (incoming_of o) u) (sym (h.leaves.records_ p off)) w
]

all_wants : (b : Boot) (m : ℕ) (pt : Point) (l : Placed) (records : AllRecords) (k : KernelState) (y : Message) (c : Fronts b m pt l records k y) (h : Follows b m pt l records k y c) (p : Pid) (n : ℕ) (u : Wanted) (e : Bool) → (m == n) ≡ e
    → Wants (incoming_of (records n p)) u → Wants (incoming_of ((if e then h.state.records else records n) p)) u
all_wants b m pt l records k y c h p n u true is w =
    let same : n ≡ m = grind (arith, nat_tests) in
    record_wants b m pt l records k y c h p u (subst (λ (f : Pid → Option machine.KernelKnown). Wants (incoming_of (f p)) u) (ap records same ∙ c.mine) w)
all_wants b m pt l records k y c h p n u false is w = w

tokens_follow : (b : Boot) (m : ℕ) (pt : Point) (l : Placed) (records : AllRecords) (k : KernelState) (y : Message) (c : Fronts b m pt l records k y) (h : Follows b m pt l records k y c)
    → TokensStand (handled_view pt m y.id h.held h.topic) h.placed (at_machine records m h.state.records)
tokens_follow b m pt l records k y c h p i t z told between about least =
    let off = token_apart b m pt l records k y c i t h.still told between in
    let before = stood b m pt l records k y c h i z off least in
    let v = handled_view pt m y.id h.held h.topic in
    let after = at_machine records m h.state.records in
    let cargo : is_due_piece pt.view p i t ≡ true ⊎ pulls_piece (sort_of t.kind) ≡ true → cargo_at h.placed p ≡ cargo_at l p =
    λ reads. cargo_same l h.placed p (process_stays b m pt l records k y c h p i t z told between about before reads) (h.leaves.notes p) in
    one_keeps pt.view v l h.placed records after p i t (known_due pt.view v p i t (λ n. refl))
    (λ due one. record {
      cargo = one.cargo;
      there = cargo (inl due) ∙ one.there;
      message = one.message;
      is = h.leaves.bag i off ∙ one.is;
      sender = one.sender;
      carries = carries_on p one.cargo (pt.view.asked p) (incoming_of (records (destination_of i t) p)) (incoming_of (after (destination_of i t) p)) one.message.what
          (λ u w. all_wants b m pt l records k y c h p (destination_of i t) u (m == destination_of i t) refl w) one.carries;
    })
    (λ over one. left_keeps l h.placed p i one
    (λ asks. cargo (inr (ap (λ (u : Told). pulls_piece (sort_of u.kind)) (left_told pt.view l p i t one c.own told) ∙ asks))) (h.leaves.bag i off ∙ one.is))
    (c.tokens p i t z told between about before)

own_follows : (b : Boot) (m : ℕ) (pt : Point) (l : Placed) (records : AllRecords) (k : KernelState) (y : Message) (c : Fronts b m pt l records k y) (h : Follows b m pt l records k y c) → AllOwnStand (handled_view pt m y.id h.held h.topic) h.placed
own_follows b m pt l records k y c h i x there plain = elim (cases_Bool (id_eq y.id i)) [
  | inl same ↦
      let e : y.id ≡ i = id_eq-is y.id i same in
      let o : OwnStands pt.view i x = subst (λ (j : MsgId). OwnStands pt.view j x) e (h.own_front x (ap h.placed.bag e ∙ there) plain) in
      record { told = o.told; mine = o.mine; sender = o.sender }
  | inr off ↦
      let o = c.own i x (sym (h.leaves.bag i off) ∙ there) plain in
      record { told = o.told; mine = o.mine; sender = o.sender }
]

-- a message that stands elsewhere, or behind it, stays
kept_at : (b : Boot) (m : ℕ) (pt : Point) (l : Placed) (records : AllRecords) (k : KernelState) (y : Message) (c : Fronts b m pt l records k y) (h : Follows b m pt l records k y c) (s : Spot) (j : MsgId) → s ≢ Inbox m → 1 ≤ standing pt.view j s → h.placed.bag j ≡ l.bag j
kept_at b m pt l records k y c h s j off least = h.leaves.bag j (apart_at b m pt l records k y c s j off least)

kernel_follows : (b : Boot) (m : ℕ) (pt : Point) (l : Placed) (records : AllRecords) (k : KernelState) (y : Message) (c : Fronts b m pt l records k y) (h : Follows b m pt l records k y c)
    → KernelStands b (handled_point pt m y.id h.held h.topic h.addresses) h.placed m h.state
kernel_follows b m pt l records k y c h =
    let stands = c.stands in
    let waits : (q : Pid) (j : MsgId) → 1 ≤ times j (pt.view.queue m q) → h.placed.bag j ≡ l.bag j = λ q j least. kept_at b m pt l records k y c h (Queue m q) j (queue_apart m m q) least in
    let holds : (q : Pid) (j : MsgId) → 1 ≤ times j (pt.view.held m q) → h.placed.bag j ≡ l.bag j = λ q j least. kept_at b m pt l records k y c h (Held m q) j (held_apart m m q) least in
    stands_set b pt (handled_point pt m y.id h.held h.topic h.addresses) l h.placed m k h.state h.process
    (search (h.leaves.here, h.leaves.records_, h.leaves.held_others, h.leaves.residents, h.leaves.system, h.leaves.notes, waits, holds, h.known)) stands
    (h.leaves.ring ∙ stands.ring)
    (ap (map h.placed.bag) (machine_self pt.view.inbox m (without_front y.id (pt.view.inbox m)) ∙ front_gone y.id c.ids (pt.view.inbox m) c.box)
    ∙ map_same l.bag h.placed.bag c.ids (λ j least. h.leaves.bag j (apart_behind b m pt l records k y c j least)) ∙ c.others ∙ ap (map Some) (sym h.leaves.inbox))
    (h.leaves.made ∙ stands.made)
    (subst (λ (t : Taken). RoomStands t (room_of (slice_get b.machines m)) (taken_at pt m pt.kernel.machines)) (sym h.leaves.room) stands.room) (subst (PredsStand b (pt.view.preds m)) (sym h.leaves.preds) stands.preds)

elsewhere_follows : (b : Boot) (m : ℕ) (pt : Point) (l : Placed) (records : AllRecords) (k : KernelState) (y : Message) (c : Fronts b m pt l records k y) (h : Follows b m pt l records k y c)
    → Elsewhere m (begun pt m) l (handled_point pt m y.id h.held h.topic h.addresses) h.placed
elsewhere_follows b m pt l records k y c h = search (
  machine_off,
  h.leaves.held_off,
  h.leaves.notes,
  h.leaves.system,
  others,
  λ (i : MsgId) (s : Spot) (is : is_elsewhere m s ≡ true) (least : 1 ≤ standing (begun pt m).view i s). kept_at b m pt l records k y c h s i (elsewhere_apart m s is) (standing_begun s i least),
)
  where
    others : (n : ℕ) (p : Pid) → n ≢ m → has_process (pt.view.known n p) ≡ true → resident_at h.placed p ≡ resident_at l p
    others n p off has = elim (cases_Bool (pid_eq h.process p)) [
      | inl same ↦
          let e : h.process ≡ p = pid_eq-is h.process p same in
          subst (λ (q : Pid). resident_at h.placed q ≡ resident_at l q) e (h.leaves.elsewhere n off (ap (λ (q : Pid). has_process (pt.view.known n q)) e ∙ has))
      | inr apart ↦ h.leaves.residents p apart
    ]

    standing_begun : (s : Spot) (i : MsgId) → 1 ≤ standing (begun pt m).view i s → 1 ≤ standing pt.view i s
    standing_begun (Queue n p) i least = least
    standing_begun _ i least = least

pub turns_follow : (b : Boot) (m : ℕ) (pt : Point) (l : Placed) (records : AllRecords) (k : KernelState) (y : Message) (c : Fronts b m pt l records k y) → Follows b m pt l records k y c → TurnsAt b m pt l records k
turns_follow b m pt l records k y c h =
    let next = handled_point pt m y.id h.held h.topic h.addresses in
    record {
      state = h.state;
      says = h.said ∷ [];
      routes = h.routes;
      late = Nothing;
      turn = ap (turns b k) c.inbox ∙ h.turn ∙ ap (λ (ps : List machine_part.Part). Some (record { state = h.state; parts = Part.Says h.said ∷ ps })) (sym (append_none (map part_of h.routes)));
      outcome = ap (outcomes.turns b pt m) c.box ∙ h.outcome ∙ ap (λ (ps : List rule.Part). Some (rule.Says h.said ∷ ps)) (sym (append_none (map rule_part_of h.routes)));
      next = next;
      after = ap (λ (o : Option Point). bind o (λ (n : Point). after n [])) h.after;
      placed = h.placed;
      mirrors = h.mirrors;
      kernel = kernel_follows b m pt l records k y c h;
      sent = λ e. h.sent ∙ (let f : k.sent + owns h.routes ≡ pt.view.count m + (owns h.routes + 0) = omega (arith, e) in f);
      elsewhere = elsewhere_follows b m pt l records k y c h;
      may = h.may;
      late_may = tt;
      over = NoneEnds h.leaves.over (λ q. refl);
      topic = tt;
      own = own_follows b m pt l records k y c h;
      tokens = tokens_follow b m pt l records k y c h;
    }
