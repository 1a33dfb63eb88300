-- A message for a process or a server that has gone on follows it, and its sender may be told.
use Rattle.dm_law_mirror.proofs.Names.{◌≡◌, ℕ, ◌+◌, Bool, true, false, List, [], ◌∷◌, map, refl, ap, ◌∙◌, sym, subst, is_some, arith, if◌then◌else◌, Option, None, Some, false≢true, Pid, pid_of, place_of, update_of, Message, MsgId, nat_tests}
use Rattle.dm_law_mirror.proofs.Names.{Record, Line, MessageKind, id_eq, id_of, kind_of, plain_kind, PlainMessage, plain_message, plain_what, with_what, incoming_of, sent_on, Boot, manager, forwards_and, KernelState, id_eq-same, id_eq-swap}
use Rattle.dm_law_mirror.proofs.Names.{Addresses, Receiver, Sender, is_told_back, unmoved, forwards_on, process_told, Point, moved, at_machine, Queue, Held, About, Known, Forward, forward_about, forwarded_for, handled, own_id, receiver_of}
use Rattle.dm_law_mirror.proofs.Names.{is_fixed, Run, Placed, Mirrors, free_off, plain_sent_on, forwarded_mirrors, moves_forwarded, update_gets, parts, mirrors_view, AllOwnStand, OwnStands, KnownStands, AllRecords, Wants, ◌++◌, Wanted, Arrival}
use Rattle.dm_law_mirror.proofs.Names.{with_known, pid_eq-is, at_record, times, Frozen, Incoming, Part, with_sent}
use Rattle.dm_law_rule.specs.Rule.{process_handles}
use Rattle.dm_law_places.specs.PlacedStep.{with_message}
use Rattle.dm_law_rule.specs.View.{held_for}
pub use Rattle.dm_law_rule.proofs.Lines.{at_record_at as record_self}
use Rattle.dm_kernel.specs.State as machine
use Rattle.dm_law_rule.specs.Parts as rule
use Rattle.dm_migrate.specs.Arrival as arrival
use Rattle.dm_migrate.specs.Departure as departure
use Rattle.dm_kernel.specs.Handle as machine_handle
use Rattle.dm_law_mirror.proofs.Recorded.{recorded}
use Rattle.dm_law_mirror.proofs.Follow.Fronts.{front_still, plain_kinds, Fronts, apart_at, known_on, queue_apart, machine_process, rule_process, set_self, set_other, handled_point, handled_view}
use Rattle.dm_law_mirror.proofs.Follow.Fronts.{turns_follow}
use Rattle.dm_law_mirror.proofs.Deliver.Moves.{messages_push}
use Rattle.dm_law_mirror.proofs.Turning.{own_first, AllMayPut, MayOwn, MayPut, On, Own, Route, TurnsAt, begun, owns, part_of, rule_part_of}
use Rattle.dm_law_mirror.proofs.Handle.Taking.{held_apart, record_off, record_others}
use Rattle.dm_law_mirror.proofs.Residents.{same_manager, same_system}
use Rattle.dm_law_mirror.proofs.Names.{◌==◌}

pub next_untold : (b : Boot) (m : ℕ) (pt : Point) → Run b pt → pt.view.told (id_of (pid_of m 0) (pt.view.count m)) ≡ None
next_untold b m pt run = run.based.phased.state.numbered m (pt.view.count m) (omega arith)

free_by : (b : Boot) (pt : Point) (l : Placed) (i : MsgId) (o : Option Message) → Run b pt → Mirrors pt.kernel pt.view pt.addresses l → AllOwnStand pt.view l → l.bag i ≡ o → pt.view.told i ≡ None → o ≡ None
free_by b pt l i None run mirrors own is none = refl
free_by b pt l i (Some x) run mirrors own is none = absurd (bad (plain_message x) refl)
  where
    bad : (p : Option PlainMessage) → plain_message x ≡ p → ⊥
    bad None plain = let f : None ≡ Some _ = sym none ∙ (own i x is plain).told in cc
    bad (Some w) plain =
        grind (arith, nat_tests, is_some)

pub next_free : (b : Boot) (m : ℕ) (pt : Point) (l : Placed) → Run b pt → Mirrors pt.kernel pt.view pt.addresses l → AllOwnStand pt.view l → l.bag (id_of (pid_of m 0) (pt.view.count m)) ≡ None
next_free b m pt l run mirrors own = let i = id_of (pid_of m 0) (pt.view.count m) in free_by b pt l i (l.bag i) run mirrors own refl (next_untold b m pt run)

own_free : (b : Boot) (m : ℕ) (pt : Point) (l : Placed) (records : AllRecords) (k : KernelState) (y : Message) (c : Fronts b m pt l records k y) → l.bag (own_id (begun pt m).view) ≡ None
own_free b m pt l records k y c = next_free b m pt l c.run c.mirrors c.own

-- where the line leads
abbrev forwarded : Point → ℕ → Message → ℕ → Point
forwarded pt m y at = moved (begun pt m) (Line.Forwarded y.id at) pt.kernel

-- the sender, as the rule names it
-- of the kernels' own messages only requests to move a process are told back
sender_is : (b : Boot) (m : ℕ) (pt : Point) (l : Placed) (records : AllRecords) (k : KernelState) (y : Message) (c : Fronts b m pt l records k y) → plain_what y.what ≡ None → is_told_back (kind_of y.what) ≡ true → manager ≡ y.sender.pid
sender_is b m pt l records k y c none back = sym ((c.own y.id y c.there (ap (with_what y) none)).sender (let e_ : kind_of y.what ≡ MessageKind.Migrate = grind (arith, nat_tests) in e_))

none_of : (y : Message) → plain_message y ≡ None → plain_what y.what ≡ None
none_of y e = grind (arith, nat_tests)

-- what goes on, and what tells its sender
abbrev routes_of : Message → MsgId → ℕ → ℕ → ℕ → Bool → List Route
routes_of y id here at moves true = On (sent_on at moves y) ∷ Own (update_of y id here at moves) ∷ []
routes_of y id here at moves false = On (sent_on at moves y) ∷ []

abbrev sent_by : KernelState → Bool → KernelState
sent_by s true = with_sent s
sent_by s false = s

machine_forwards : (s : KernelState) (y : Message) (at moves : ℕ) (back : Bool) → forwards_and s y at moves back ≡ Some (record { state = sent_by s back; parts = Part.Says (Line.Forwarded y.id at) ∷ map part_of (routes_of y (machine.own_id s) s.here at moves back) })
machine_forwards s y at moves back = grind (arith, nat_tests)

rule_forwards : (a : Addresses) (y : Message) (k : MessageKind) (sender : Pid) (id : MsgId) (here at moves : ℕ) (back : Bool) → is_told_back k ≡ back → (back ≡ true → sender ≡ y.sender.pid) → a (Sender y.id) ≡ place_of y.sender
    → forwards_on a y.id k sender at ≡ rule.Says (Line.Forwarded y.id at) ∷ map rule_part_of (routes_of y id here at moves back)
rule_forwards a y k sender id here at moves back is who place = grind (arith, nat_tests)

outcome_forwards : (b : Boot) (m : ℕ) (pt : Point) (l : Placed) (records : AllRecords) (k : KernelState) (y : Message) (c : Fronts b m pt l records k y) (id : MsgId) (here at moves : ℕ) (back : Bool) (z : Option PlainMessage) → plain_message y ≡ z → is_told_back (kind_of y.what) ≡ back
    → ((x : PlainMessage) → z ≡ Some x → process_handles pt m y.id x (Forward at moves) ≡ Some (rule.Says (Line.Forwarded y.id at) ∷ map rule_part_of (routes_of y id here at moves back)))
    × (z ≡ None → process_told pt m y.id c.told (Forward at moves) ≡ Some (rule.Says (Line.Forwarded y.id at) ∷ map rule_part_of (routes_of y id here at moves back)))
outcome_forwards b m pt l records k y c id here at moves back z plain has =
    let place = (c.mirrors.places.message y.id y c.there).sender in (
      λ x is. (let w = parts y x (plain ∙ is) in
          ap Some (rule_forwards pt.addresses y (plain_kind x.what) x.sender id here at moves back (ap is_told_back (plain_kinds y.what x.what w.what) ∙ has) (λ e. sym w.sender) place)),
      λ own. ap Some (rule_forwards pt.addresses y c.told.kind manager id here at moves back (ap is_told_back c.kind ∙ has) (λ e. sender_is b m pt l records k y c (none_of y (plain ∙ own)) (has ∙ e)) place),
    )

-- the update may be put
-- both name it alike
update_may : (b : Boot) (m : ℕ) (pt : Point) (l : Placed) (records all : AllRecords) (k : KernelState) (y : Message) (c : Fronts b m pt l records k y) (at moves : ℕ) → pt.view.known m y.to.pid ≡ Forward at moves → is_told_back (kind_of y.what) ≡ true
    → MayOwn (handled_point pt m y.id pt.view.held (About.Place y.to.pid at moves) (forwarded pt m y at).addresses) (with_message l y.id (Some (sent_on at moves y))) all 0 (update_of y (machine.own_id k) k.here at moves)
update_may b m pt l records all k y c at moves knows has =
    let start = mirrors_view pt.kernel pt.view (begun pt m).view pt.addresses l refl c.mirrors in
    let own = own_id (begun pt m).view in
    let named : machine.own_id k ≡ own_id (begun pt m).view = λ i. record { from = pid_of (c.stands.here i) 0; n = c.counted i; answer = false } in
    let free = own_free b m pt l records k y c in
    let places = update_gets (begun pt m) l y.id y c.told at at moves start c.there c.told_is (ap (pt.view.known m) c.receiver ∙ knows) free (ap is_told_back c.kind ∙ has) in
    let off : id_eq y.id own ≡ false = id_eq-swap y.id own ∙ free_off l own y.id y free c.there in
    record {
      id = named ∙ own_first (begun pt m).view;
      plain = refl;
      encloses = refl;
      bag = ap (with_message l y.id (Some (sent_on at moves y))).bag named ∙ ap (λ (t : Bool). if t then Some (sent_on at moves y) else l.bag own) off ∙ free;
      untold = ap pt.view.told named ∙ next_untold b m pt c.run;
      receiver = ap (λ (i : MsgId). (forwarded pt m y at).addresses (Receiver i)) named ∙ places.0;
      sender = ap (λ (i : MsgId). (forwarded pt m y at).addresses (Sender i)) named ∙ places.1 ∙ ap unmoved (sym c.stands.here);
      about = refl;
      asker = λ e. cc;
      carried = λ e p is. absurd (false≢true e);
    }

-- the message that goes on may be put
on_may : (b : Boot) (m : ℕ) (pt : Point) (l : Placed) (records all : AllRecords) (k : KernelState) (y : Message) (c : Fronts b m pt l records k y) (at moves : ℕ) → (y.to.pid.num == 0) ≡ false
    → MayPut (handled_point pt m y.id pt.view.held (About.Place y.to.pid at moves) (forwarded pt m y at).addresses) (with_message l y.id (Some (sent_on at moves y))) all 0 (On (sent_on at moves y))
on_may b m pt l records all k y c at moves is = search (id_eq-same, front_still, y.id, c.told_is, c.kind, c.receiver)

all_may : (b : Boot) (m : ℕ) (pt : Point) (l : Placed) (records all : AllRecords) (k : KernelState) (y : Message) (c : Fronts b m pt l records k y) (at moves : ℕ) (back : Bool) → (y.to.pid.num == 0) ≡ false → pt.view.known m y.to.pid ≡ Forward at moves → is_told_back (kind_of y.what) ≡ back
    → AllMayPut (handled_point pt m y.id pt.view.held (About.Place y.to.pid at moves) (forwarded pt m y at).addresses) (with_message l y.id (Some (sent_on at moves y))) all 0 (routes_of y (machine.own_id k) k.here at moves back)
all_may b m pt l records all k y c at moves true is knows has = (on_may b m pt l records all k y c at moves is, (update_may b m pt l records all k y c at moves knows has, tt))
all_may b m pt l records all k y c at moves false is knows has = (on_may b m pt l records all k y c at moves is, tt)

record Sent (k s : KernelState) (routes : List Route) : Type 0 where
  here : s.here ≡ k.here
  records : s.records ≡ k.records
  ring : s.ring ≡ k.ring
  made : s.made ≡ k.made
  room : s.room ≡ k.room
  preds : s.preds ≡ k.preds
  over : s.over ≡ k.over
  sent : s.sent ≡ k.sent + owns routes

sent_is : (k : KernelState) (rest : List Message) (y : Message) (id : MsgId) (here at moves : ℕ) (back : Bool) → Sent k (sent_by (record k { inbox = rest }) back) (routes_of y id here at moves back)
sent_is k rest y id here at moves true = record { here = refl; records = refl; ring = refl; made = refl; room = refl; preds = refl; over = refl; sent = (let e : k.sent + 1 ≡ k.sent + (0 + (1 + 0)) = omega arith in e) }
sent_is k rest y id here at moves false = record { here = refl; records = refl; ring = refl; made = refl; room = refl; preds = refl; over = refl; sent = (let e : k.sent ≡ k.sent + (0 + 0) = omega arith in e) }

forward_row : (b : Boot) (m : ℕ) (pt : Point) (l : Placed) (records : AllRecords) (k : KernelState) (y : Message) (c : Fronts b m pt l records k y) (at moves : ℕ) (back : Bool) → (y.to.pid.num == 0) ≡ false → pt.view.known m y.to.pid ≡ Forward at moves → is_told_back (kind_of y.what) ≡ back → TurnsAt b m pt l records k
forward_row b m pt l records k y c at moves back is knows has =
    let p = y.to.pid in
    let s = record k { inbox = c.rest } in
    let state = sent_by s back in
    let routes = routes_of y (machine.own_id k) k.here at moves back in
    let topic = About.Place p at moves in
    let next = forwarded pt m y at in
    let placed = with_message l y.id (Some (sent_on at moves y)) in
    let r = recorded b pt l m k p (Forward at moves) c.stands knows in
    let out = outcome_forwards b m pt l records k y c (machine.own_id k) k.here at moves back (plain_message y) refl has in
    let start = mirrors_view pt.kernel pt.view (begun pt m).view pt.addresses l refl c.mirrors in
    let gone = forwarded_mirrors (begun pt m) l y.id y c.told at at moves start c.there c.told_is (ap (pt.view.known m) c.receiver ∙ knows) (own_free b m pt l records k y c) in
    let same = sent_is k c.rest y (machine.own_id k) k.here at moves back in
    let bag_off = λ (j : MsgId) (off : id_eq y.id j ≡ false). ap (λ (t : Bool). if t then Some (sent_on at moves y) else l.bag j) off in
    let kept : (q : Pid) → state.records q ≡ k.records q = λ q. ap (λ (f : Pid → Option machine.KernelKnown). f q) same.records in
    let wants : (u : Wanted) → Wants (incoming_of (k.records p)) u → Wants (incoming_of (state.records p)) u = λ u h. subst (λ (f : Pid → Option machine.KernelKnown). Wants (incoming_of (f p)) u) (sym same.records) h in
    turns_follow b m pt l records k y c (record {
      state = state;
      said = Line.Forwarded y.id at;
      routes = routes;
      held = pt.view.held;
      topic = topic;
      addresses = next.addresses;
      placed = placed;
      process = p;
      turn = machine_process b s y (Some (Record.Forward at moves)) (Some (record { state = state; parts = Part.Says (Line.Forwarded y.id at) ∷ map part_of routes })) is r (ap (forwards_and s y at moves) has ∙ machine_forwards s y at moves back);
      outcome = rule_process b m pt l records k y c (Forward at moves) (Some (rule.Says (Line.Forwarded y.id at) ∷ map rule_part_of routes)) (plain_message y) is knows refl out.0 out.1;
      after = ap (λ (o : Option Pid). Some (record { kernel = pt.kernel; view = forwarded_for (handled (begun pt m).view y.id) o; addresses = next.addresses })) (ap receiver_of c.told_is ∙ ap Some c.receiver)
          ∙ ap (λ (j : Known). Some (handled_point pt m y.id pt.view.held (forward_about p j) next.addresses)) knows;
      mirrors = mirrors_view pt.kernel next.view (handled_view pt m y.id pt.view.held topic) next.addresses placed (sym (moves_forwarded (handled (begun pt m).view y.id) (receiver_of (pt.view.told y.id)))) gone;
      own_front = λ z e plain. (let w : sent_on at moves y ≡ z = grind (arith, nat_tests, id_eq-same) in
          let o = c.own y.id y c.there (sym (plain_sent_on at moves y) ∙ ap plain_message w ∙ plain) in
          subst (OwnStands pt.view y.id) w (record { told = o.told; mine = o.mine; sender = o.sender }));
      sent = same.sent;
      known = subst (KnownStands placed p (pt.view.queue m p) (pt.view.held m p) (pt.view.known m p)) (ap (λ (f : Pid → Option machine.KernelKnown). f p) (sym same.records))
          (known_on l placed p (pt.view.queue m p) (pt.view.held m p) (pt.view.known m p) (k.records p) (same_manager l placed refl) refl refl
          (λ j least. bag_off j (apart_at b m pt l records k y c (Queue m p) j (queue_apart m m p) least)) (λ j least. bag_off j (apart_at b m pt l records k y c (Held m p) j (held_apart m m p) least)) (c.stands.known p));
      still = front_still b m pt l records k y c is;
      may = all_may b m pt l records (at_machine records m state.records) k y c at moves back is knows has;
      leaves = search (bag_off, same.here, kept, same.ring, (let e_ : (sent_by (record k { inbox = c.rest }) back).inbox ≡ c.rest = grind (arith, nat_tests) in e_), same.made, same.room, same.preds, same_manager l placed refl, same.over, wants);
    })

-- where it has gone on
pub forwards_turn : (b : Boot) (m : ℕ) (pt : Point) (l : Placed) (records : AllRecords) (k : KernelState) (y : Message) (c : Fronts b m pt l records k y) (at moves : ℕ) → is_fixed y.to.pid ≡ false → pt.view.known m y.to.pid ≡ Forward at moves → TurnsAt b m pt l records k
forwards_turn b m pt l records k y c at moves fixed knows = forward_row b m pt l records k y c at moves (is_told_back (kind_of y.what)) fixed knows refl

-- A message for what leaves a machine or comes to it is held there.

times_other : (i j : MsgId) (is : List MsgId) → id_eq i j ≡ false → times i (is ++ j ∷ []) ≡ times i is
times_other i j [] off = ap (λ (c : Bool). (if c then 1 else 0) + 0) off
times_other i j (n ∷ is) off = ap (λ (k : ℕ). (if id_eq i n then 1 else 0) + k) (times_other i j is off)

grown : (f : ℕ → Pid → List MsgId) (m : ℕ) (p : Pid) (n : ℕ) (q : Pid) (i j : MsgId) → id_eq i j ≡ false → times i (at_record f m p (f m p ++ j ∷ []) n q) ≡ times i (f n q)
grown f m p n q i j off = grind (arith, nat_tests, times_other, pid_eq-is)

-- one message more is held
abbrev held_list : Point → ℕ → Pid → MsgId → ℕ → Pid → List MsgId
held_list pt m p i = at_record pt.view.held m p (pt.view.held m p ++ i ∷ [])

held_row : (b : Boot) (m : ℕ) (pt : Point) (l : Placed) (records : AllRecords) (k : KernelState) (y : Message) (c : Fronts b m pt l records k y) (w : Known) (r new : machine.KernelKnown) → (y.to.pid.num == 0) ≡ false → pt.view.known m y.to.pid ≡ w → k.records y.to.pid ≡ Some r
    → machine_handle.process_handles (record k { inbox = c.rest }) y (Some r) ≡ Some (record { state = with_known (record k { inbox = c.rest }) y.to.pid new; parts = Part.Says (Line.Held y.id) ∷ [] })
    → ((x : PlainMessage) → process_handles pt m y.id x w ≡ Some (rule.Says (Line.Held y.id) ∷ [])) → process_told pt m y.id c.told w ≡ Some (rule.Says (Line.Held y.id) ∷ [])
    → KnownStands l y.to.pid (pt.view.queue m y.to.pid) (pt.view.held m y.to.pid ++ y.id ∷ []) w (Some new)
    → ((u : Wanted) → Wants (incoming_of (Some r)) u → Wants (incoming_of (Some new)) u) → TurnsAt b m pt l records k
held_row b m pt l records k y c w r new is knows there turn bag own known wants =
    let p = y.to.pid in
    let held = held_list pt m p y.id in
    let topic = (begun pt m).view.topic in
    let state = with_known (record k { inbox = c.rest }) p new in
    let more : (n : ℕ) (q : Pid) (i : MsgId) → id_eq y.id i ≡ false → times i (held n q) ≡ times i (pt.view.held n q) = λ n q i off. grown pt.view.held m p n q i y.id (id_eq-swap i y.id ∙ off) in
    let asked : (u : Wanted) → Wants (incoming_of (k.records p)) u → Wants (incoming_of (state.records p)) u = grind (arith, nat_tests, set_self) in
    turns_follow b m pt l records k y c (record {
      state = state;
      said = Line.Held y.id;
      routes = [];
      held = held;
      topic = topic;
      addresses = pt.addresses;
      placed = l;
      process = p;
      turn = machine_process b (record k { inbox = c.rest }) y (Some r) (Some (record { state = state; parts = Part.Says (Line.Held y.id) ∷ [] })) is there turn;
      outcome = rule_process b m pt l records k y c w (Some (rule.Says (Line.Held y.id) ∷ [])) (plain_message y) is knows refl (λ x e. bag x) (λ e. own);
      after = ap (λ (o : Option Pid). Some (record { kernel = pt.kernel; view = held_for (handled (begun pt m).view y.id) y.id o; addresses = pt.addresses })) (ap receiver_of c.told_is ∙ ap Some c.receiver);
      mirrors = mirrors_view pt.kernel pt.view (handled_view pt m y.id held topic) pt.addresses l refl c.mirrors;
      own_front = λ z e plain. c.own y.id z e plain;
      sent = (let e : k.sent ≡ k.sent + 0 = omega arith in e);
      known = subst (KnownStands l p (pt.view.queue m p) (held m p) (pt.view.known m p)) (sym (set_self k.records p new))
          (subst (λ (j : Known). KnownStands l p (pt.view.queue m p) (held m p) j (Some new)) (sym knows)
          (subst (λ (h : List MsgId). KnownStands l p (pt.view.queue m p) h w (Some new)) (sym (record_self pt.view.held m p (pt.view.held m p ++ y.id ∷ []))) known));
      still = front_still b m pt l records k y c is;
      may = tt;
      leaves = search (record_off, record_others, more, set_other, same_system l, asked);
    })

-- held where it leaves
pub held_leaving : (b : Boot) (m : ℕ) (pt : Point) (l : Placed) (records : AllRecords) (k : KernelState) (y : Message) (c : Fronts b m pt l records k y) (to : ℕ) → is_fixed y.to.pid ≡ false → pt.view.known m y.to.pid ≡ Frozen to → TurnsAt b m pt l records k
held_leaving b m pt l records k y c to fixed knows =
    let p = y.to.pid in
    let is = fixed in
    let (d, there, s) = recorded b pt l m k p (Frozen to) c.stands knows in
    held_row b m pt l records k y c (Frozen to) (Record.Frozen d) (Record.Frozen (departure.with_held d y)) is knows there refl (λ x. refl) refl
    (record { to = s.to; cargo = s.cargo; here = s.here; held = messages_push l.bag (pt.view.held m p) d.held y.id y s.held c.there; whole = s.whole }) (λ u h. h)

-- held where it comes
pub held_coming : (b : Boot) (m : ℕ) (pt : Point) (l : Placed) (records : AllRecords) (k : KernelState) (y : Message) (c : Fronts b m pt l records k y) (from : ℕ) → is_fixed y.to.pid ≡ false → pt.view.known m y.to.pid ≡ Incoming from → TurnsAt b m pt l records k
held_coming b m pt l records k y c from fixed knows =
    let p = y.to.pid in
    let is = fixed in
    let (a, there, s) = recorded b pt l m k p (Incoming from) c.stands knows in
    held_row b m pt l records k y c (Incoming from) (Record.Incoming a) (Record.Incoming (arrival.with_held a y)) is knows there refl (λ x. refl) refl
    (record { source = s.source; cargo = s.cargo; there = s.there; whole = s.whole; pieces = ap (λ (z : Arrival). arrival.with_held z y) s.pieces; held = messages_push l.bag (pt.view.held m p) a.held y.id y s.held c.there }) (λ u h. h)
