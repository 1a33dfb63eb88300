-- A process is told to move: to where it is, or it is frozen, and the other machine is asked.
use Rattle.dm_law_mirror.proofs.Names.{turns, ◌≡◌, ◌≢◌, ℕ, ◌+◌, ◌≤◌, ◌==◌, ◌&&◌, Bool, true, false, not, List, [], ◌∷◌, map, refl, ap, ◌∙◌, sym, subst, inl, inr, arith, if◌then◌else◌, None, Some, eqb_tells, Pid, pid_eq, kernel_at, Message}
use Rattle.dm_law_mirror.proofs.Names.{nat_tests, MsgId, What, MessageKind, Record, Line, Stage, Resident, resident_at, CanMove, ask_of, frozen, Taken, Boot, FreezesReceiverWhole, KnownIsWhole, freezes, with_frozen, KernelState, own}
use Rattle.dm_law_mirror.proofs.Names.{turned, pid_eq-is, pid_eq-same, to_kernel, Point, moved, Room, taken_by, takes_room, at_machine, at_record, without, without_front, times, Here, Frozen, Known, Of, own_id, target_of}
use Rattle.dm_law_mirror.proofs.Names.{has_nothing_held, is_fixed, Placed, mirrors_view, told_of, KnownStands, LeavesStand, RoomStands, AllRecords, eq_not, option_map, Option, Addr, pid_of, kind_of, plain_what, with_what}
use Rattle.dm_law_mirror.proofs.Names.{frozen_of, incoming_of, Departure, block_of, chunk_of, state_of, OneKernel, bind, gives_piece, kernel_handles, Addresses, Receiver, Sender, gets, own_given, unmoved, told_step, is_between}
use Rattle.dm_law_mirror.proofs.Names.{tells_onward, fits, free_room, kernel_hears, Inbox, standing, Told, View, after_proto, handled, enclosed, about_of, Carries, destination_of, false≢true, ◌++◌, turn, outcome, after, Step}
use Rattle.dm_law_mirror.proofs.Names.{plain_message, HereStands, Mirrors, AreMessages, Spot, Queue, Held, spot_cases, Asker, leaves_for, here_free, Part, sort_of, drop, slice_get, option_and_then, Cargo, cargo_at, cargo_of, ◌⊎◌, ◌||◌}
use Rattle.dm_law_mirror.proofs.Names.{cases_Bool, receiver_in, LeftCarries, is_due_piece, is_piece, brings_piece, pulls_piece, is_waited_from, with_sent, buried, tells_end, is_stale}
use Rattle.dm_law_mirror.proofs.Recorded.{Recorded, recorded}
use Rattle.dm_law_mirror.proofs.Residents.{SameSystem, cargo_queue, here_is, resident_same, same_manager}
use Rattle.dm_law_mirror.proofs.Sized.{here_sized, size_at}
use Rattle.dm_resident.specs.Residents as residents
use Rattle.dm_law_rule.specs.Migrating.{Size, size_of}
use Rattle.dm_kernel.specs.Departing as departing_
use Rattle.dm_kernel.specs.Handle as handle
use Rattle.dm_law_mirror.proofs.Rooms.{taken_same}
use Rattle.dm_law_mirror.proofs.Leave.Fronts.{FrontGone, Hearing, Present, rests_over, outcome_hears, stood, turn_hears, Leaving, leaving, stands_first, absent_next, may_between, own_is, records_as, to_process, here_hears}
use Rattle.dm_law_mirror.proofs.Leave.Fronts.{untold_next, to_kernel_hears, own_stays, tokens_one, front_rest}
use Rattle.dm_law_mirror.proofs.Turning.{NoneEnds, own_first, own_behind, Nothing, Own, TurnsAt, begun, has_process, is_elsewhere, late_parts, late_rule_parts, part_of, rule_part_of}
use Rattle.dm_law_mirror.proofs.Handle.Taking.{eq_self, machine_self, machine_off, record_self, record_off, record_others, some_same, stands_set, held_apart, map_same, queue_apart}
use Rattle.dm_law_mirror.proofs.Handle.Rows.{Elsewhere, here_left, standing_begun}
use Rattle.dm_law_mirror.proofs.Follow.Fronts.{front_gone as front_off, elsewhere_apart}
use Rattle.dm_onekernel.specs.Step as kernel
use Rattle.dm_law_rule.specs.Parts as rule
use Rattle.dm_kernel.specs.State as machine
use Rattle.dm_law_rule.specs.Migrating as migrating
use Rattle.dm_law_rule.specs.View as view
use Rattle.dm_law_mirror.proofs.Leave.Fronts as owns
use Rattle.dm_law_mirror.proofs.Cargoes.{same_cargo}
use Rattle.dm_law_mirror.proofs.LeftOver.{PulledHere, left_asks, over_of, piece_over, pulled_here, record_apart, record_kept, still_over, tokens_less}
use Rattle.dm_law_mirror.proofs.Turning.{IsCarried, IsLeftOver}

-- the room is the same where machine m has the same of each process
pub room_stays : (room given : Taken) (r s : Room) → s ≡ r → RoomStands room given r → RoomStands room given s
room_stays room given r s e h = subst (RoomStands room given) (sym e) h

-- what is told to move is no kernel
migrates_loose : (b : Boot) (m : ℕ) (pt : Point) (l : Placed) (records : AllRecords) (k : KernelState) (y : Message) (machine : ℕ) → Hearing b m pt l records k (record y { what = What.Migrate machine }) → is_fixed y.to.pid ≡ false
migrates_loose b m pt l records k y machine h = grind (arith, nat_tests, h.sorts.own y.id (told_of (record y { what = What.Migrate machine })) h.told h.mine)

-- whoever it is
resident_migrates : (s : KernelState) (y : Message) (machine : ℕ) (r : Resident) → handle.resident_handles s (record y { what = What.Migrate machine }) r ≡ departing_.migrates s (record y { what = What.Migrate machine }) r machine
resident_migrates s y machine (Resident.Process x) = refl
resident_migrates s y machine (Resident.Board v) = refl
resident_migrates s y machine (Resident.Manager v) = refl

-- to where it is
here_already : (b : Boot) (m : ℕ) (pt : Point) (l : Placed) (records : AllRecords) (k : KernelState) (y : Message) (machine : ℕ) → Hearing b m pt l records k (record y { what = What.Migrate machine }) → pt.view.known m y.to.pid ≡ Here → m ≡ machine → TurnsAt b m pt l records k
here_already b m pt l records k y machine h at_m is =
    let z : Message = record y { what = What.Migrate machine } in
    let p = y.to.pid in
    let s : KernelState = record k { inbox = h.rest } in
    let loose = migrates_loose b m pt l records k y machine h in
    let (x, is_here, stands) = recorded b pt l m k p Here h.stands at_m in
    let next : Point = moved (begun pt m) (Line.Here y.id) pt.kernel in
    let box : next.view.inbox m ≡ h.ids = machine_self pt.view.inbox m (without_front y.id (pt.view.inbox m)) ∙ front_off y.id h.ids (pt.view.inbox m) h.box in
    let gone : FrontGone m h.ids pt.view next.view = search (front_rest m h.ids pt.view next.view box, machine_off) in
    let taken = taken_same pt next m refl (λ n. refl) (λ q. refl) in
    let to_here : (machine == k.here) ≡ true = ap (λ (n : ℕ). n == k.here) (sym is ∙ sym h.stands.here) ∙ eq_self k.here in
    let same : (m == machine) ≡ true = ap (λ (n : ℕ). m == n) (sym is) ∙ eq_self m in
    record {
      state = s;
      says = Line.Here y.id ∷ [];
      routes = [];
      late = Nothing;
      turn = turn_hears b m pt l records k z h (turned s (Part.Says (Line.Here y.id) ∷ []))
          (to_process b s z (Some (Record.Here x)) loose is_here ∙ resident_migrates s y machine x ∙ ap (λ (c : Bool). if c then turned s (Part.Says (Line.Here y.id) ∷ []) else freezes s p x machine) to_here);
      outcome = outcome_hears b m pt l records k z h (Some (rule.Says (Line.Here y.id) ∷ [])) (here_hears b pt m y.id (told_of z) loose at_m
          ∙ ap (λ (c : Bool). Some (if c then rule.Says (Line.Here y.id) ∷ [] else rule.Says (Line.Migration Stage.Frozen p) ∷ rule.Says (Line.Migration Stage.Asked p) ∷ to_kernel MessageKind.Ask machine ∷ [])) same);
      next = next;
      after = refl;
      placed = l;
      mirrors = mirrors_view pt.kernel pt.view next.view pt.addresses l refl h.mirrors;
      kernel = search (h.stands.known, ap (map l.bag) box ∙ h.others, room_stays k.room _ _ _ taken h.stands.room);
      sent = λ e. e ∙ (let f : (n : ℕ) → n ≡ n + 0 = λ n. omega arith in f (pt.view.count m));
      elsewhere = search;
      may = tt;
      late_may = tt;
      over = NoneEnds refl (λ q. refl);
      topic = tt;
      own = own_stays pt.view next.view l refl h.own;
      tokens = tokens_less pt.view next.view l records (at_machine records m k.records) (λ i. refl) (λ q. refl) (λ n q. refl) (λ n q. records_as records m n k.records k.records q h.records_here refl)
          (λ i t spot told between least. let g = stood m y.id h.ids pt.view next.view i spot h.box gone least in (g.spot, g.stands)) h.tokens;
    }

pub taken_at_record : (pt next : Point) (m : ℕ) (p q : Pid) (n : Known) → next.kernel.processes q ≡ pt.kernel.processes q
    → next.view.known m q ≡ at_record pt.view.known m p n m q → takes_room n ≡ takes_room (pt.view.known m p) → taken_by next m q ≡ taken_by pt m q
taken_at_record pt next m p q n lives known same = grind (arith, nat_tests, pid_eq-is, record_self, pid_eq-same, record_others)

-- where it has been frozen, and the other machine asked
abbrev pub off_view : Point → ℕ → Pid → List MsgId → ℕ → View
off_view pt m p box to = view.frozen_for (record (begun pt m).view { inbox = at_machine pt.view.inbox m box }) p to

abbrev pub off_state : KernelState → List Message → Pid → Resident → ℕ → Option Asker → KernelState
off_state k rest p x machine asker = with_sent (with_frozen (record k { inbox = rest }) p x machine asker)

abbrev pub off_ask : KernelState → ℕ → Resident → Option Asker → Message
off_ask k machine x asker = own k (kernel_at machine) (ask_of x asker)

-- both kernels stay but for the message that goes, and for who waits to hear
pub record Spared (s t : OneKernel) (l on : Placed) : Type 0 where
  pub lives : (q : Pid) → t.processes q ≡ s.processes q
  pub made : (n : ℕ) → t.made n ≡ s.made n
  pub machines : t.machines ≡ s.machines
  pub processes : (q : Pid) → on.processes q ≡ l.processes q
  pub board : on.board ≡ l.board
  pub manager : on.manager ≡ l.manager

-- a process or a server that is here is frozen, and another machine is asked: told to move or asked to, and after these lines
pub record SetsOff (b : Boot) (m : ℕ) (pt : Point) (l : Placed) (records : AllRecords) (k : KernelState) (p : Pid) (machine : ℕ) (asker : Option Asker) (says : List Line) (t : OneKernel) (a : Addresses) (box : List MsgId)
    (to : ℕ) (on : Placed) : Type 0 where
  pub before : Present b m pt l records k
  pub open before use *
  pub resident : Resident
  pub is : k.records p ≡ Some (Record.Here resident)
  pub here : HereStands l p (pt.view.queue m p) resident
  pub whole : CanMove resident
  pub at_m : pt.view.known m p ≡ Here
  pub to_is : to ≡ machine
  -- the message at the front has gone from the inbox
  pub front : MsgId
  pub ids : List MsgId
  pub first : pt.view.inbox m ≡ front ∷ ids
  pub gone : box ≡ ids
  pub rest : List Message
  pub others : AreMessages l.bag ids rest
  -- what the machine does, and what the lines come to
  pub turn : turns b k k.inbox ≡ Some (record { state = off_state k rest p resident machine asker; parts = map Part.Says says ++ map part_of (Own (off_ask k machine resident asker) ∷ []) ++ late_parts Nothing })
  pub outcome : outcome b pt (Step.Turn m) ≡ Some (map rule.Says says ++ map rule_part_of (Own (off_ask k machine resident asker) ∷ []) ++ late_rule_parts Nothing)
  pub after : after (begun pt m) says ≡ Some (record { kernel = t; view = off_view pt m p box to; addresses = a })
  pub on_mirrors : Mirrors t (off_view pt m p box to) a on
  pub spared : Spared pt.kernel t l on
  pub open spared use *
  pub note : on.notes p ≡ asker
  pub notes : (q : Pid) → pid_eq p q ≡ false → on.notes q ≡ l.notes q
  pub kept : (z : Spot) (j : MsgId) → z ≢ Inbox m → 1 ≤ standing pt.view j z → on.bag j ≡ l.bag j
  pub behind : (j : MsgId) → 1 ≤ times j ids → on.bag j ≡ l.bag j
  pub absent : (j : MsgId) → l.bag j ≡ None → on.bag j ≡ None
  pub back : (j : MsgId) (x : Message) → plain_message x ≡ None → on.bag j ≡ Some x → l.bag j ≡ Some x

pub sets_off : (b : Boot) (m : ℕ) (pt : Point) (l : Placed) (records : AllRecords) (k : KernelState) (p : Pid) (machine : ℕ) (asker : Option Asker) (says : List Line) (t : OneKernel) (a : Addresses) (box : List MsgId) (to : ℕ) (on : Placed)
    → SetsOff b m pt l records k p machine asker says t a box to on → TurnsAt b m pt l records k
sets_off b m pt l records k p machine asker says t a box to on h =
    let v = pt.view in
    let x = h.resident in
    let x_is : residents.name_of x ≡ p = (here_is pt.kernel v pt.addresses l p (v.queue m p) x h.mirrors h.here).name in
    let stays : (q : Pid) → resident_at on q ≡ resident_at l q = λ q. resident_same l on q (h.processes q) h.board h.manager in
    let state : KernelState = off_state k h.rest p x machine asker in
    let ask : Message = off_ask k machine x asker in
    let next : Point = record { kernel = t; view = off_view pt m p box to; addresses = a } in
    let after_records : AllRecords = at_machine records m state.records in
    let box_is : next.view.inbox m ≡ h.ids = machine_self v.inbox m box ∙ h.gone in
    let gone : FrontGone m h.ids v next.view = search (front_rest m h.ids v next.view box_is, machine_off) in
    let none_held : v.held m p ≡ [] = h.run.based.lists.held m p (ap has_nothing_held h.at_m) in
    let frozen_known : next.view.known m p ≡ Frozen machine = record_self v.known m p (Frozen to) (pid_eq-same p) ∙ ap Frozen h.to_is in
    let frozen_record : state.records p ≡ Some (Record.Frozen (frozen x machine asker)) =
    ap (λ (c : Bool). if c then Some (Record.Frozen (frozen x machine asker)) else k.records p) (pid_eq-same p) in
    let queued : HereStands on p (v.queue m p) x =
    ((h.here.0.0, stays p ∙ h.here.0.1), map_same l.bag on.bag (v.queue m p) (λ j least. h.kept (Queue m p) j (queue_apart m m p) least) ∙ h.here.1) in
    let cargo : cargo_at on p ≡ Some (cargo_of x asker) = (λ i. option_map (λ (z : Resident). cargo_of z (h.note i)) (queued.0.1 i)) ∙ ap Some (cargo_queue queued.0.0 x asker) in
    let leaves : LeavesStand on p (v.queue m p) (v.held m p) machine (frozen x machine asker) =
    search (cargo, queued, ap (map on.bag) none_held, h.whole) in
    let mine : KnownStands on p (v.queue m p) (v.held m p) (next.view.known m p) (state.records p) =
    subst (KnownStands on p (v.queue m p) (v.held m p) (next.view.known m p)) (sym frozen_record)
    (subst (λ (n : Known). KnownStands on p (v.queue m p) (v.held m p) n (Some (Record.Frozen (frozen x machine asker)))) (sym frozen_known) leaves) in
    let taken = taken_same pt next m h.machines h.made (λ q. taken_at_record pt next m p q (Frozen to) (h.lives q) refl (sym (ap takes_room h.at_m))) in
    let id_is : ask.id ≡ own_id next.view = λ i. record { from = record { home = h.stands.here i; num = 0 }; n = h.sent i; answer = false } in
    let id_first : ask.id ≡ own_behind next.view 0 = id_is ∙ own_first next.view in
    let sets : (q : Pid) → pid_eq p q ≡ false → state.records q ≡ k.records q =
    λ q off. ap (λ (c : Bool). if c then Some (Record.Frozen (frozen x machine asker)) else k.records q) off in
    let queues : (q : Pid) (j : MsgId) → pid_eq p q ≡ false → 1 ≤ times j (v.queue m q) → on.bag j ≡ l.bag j =
    λ q j off least. h.kept (Queue m q) j (queue_apart m m q) least in
    let holds : (q : Pid) (j : MsgId) → pid_eq p q ≡ false → 1 ≤ times j (v.held m q) → on.bag j ≡ l.bag j =
    λ q j off least. h.kept (Held m q) j (held_apart m m q) least in
    let asks : IsCarried on (v.asked p) after_records p ask = record { cargo = cargo_of x asker; there = cargo; sender = refl; carries = refl } in
    let asked_as : IsCarried on (next.view.asked p) after_records p ask ⊎ IsLeftOver next.view on p ask = inl asks in
    let same : (i : MsgId) (z : Spot) → 1 ≤ standing next.view i z → on.bag i ≡ l.bag i = λ i z least. (
    let e = stood m h.front h.ids v next.view i z h.first gone least in
    elim (spot_cases e.spot (Inbox m)) [ inl is ↦ h.behind i (e.behind is) | inr off ↦ h.kept e.spot i off e.stands ]) in
    let kept : (n from : ℕ) → is_waited_from from (next.view.known n p) ≡ true → is_waited_from from (v.known n p) ≡ true = λ n from waits. record_kept v.known m p p (Frozen to) (λ c. refl) n from waits in
    let others : (q : Pid) → pid_eq p q ≡ false → resident_at on q ≡ resident_at l q = λ q off. stays q in
    let system : SameSystem l on = same_manager l on h.manager in
    record {
      state = state;
      says = says;
      routes = Own ask ∷ [];
      late = Nothing;
      turn = h.turn;
      outcome = h.outcome;
      next = next;
      after = h.after;
      placed = on;
      mirrors = h.on_mirrors;
      kernel = stands_set b pt next l on m k state p (search (sets, record_others, others, system, h.notes, queues, holds, mine)) h.stands
          (ap (without p) h.stands.ring ∙ sym (machine_self v.ring m (without p (v.ring m))))
          (ap (map on.bag) box_is ∙ map_same l.bag on.bag h.ids h.behind ∙ h.others) (h.stands.made ∙ sym (h.made m))
          (room_stays k.room _ _ _ taken h.stands.room) h.stands.preds;
      sent = λ e. ap (λ (n : ℕ). n + 1) e;
      elsewhere = search (
        machine_off,
        record_off,
        h.made,
        stays,
        system,
        h.lives,
        λ (n : ℕ) (q : Pid) (off : n ≢ m) (has : has_process (pt.view.known n q) ≡ true). h.notes q (here_left pt m p q h.run.based.phased.phases h.at_m (Elsewhere n off has)),
        λ (j : MsgId) (z : Spot) (is : is_elsewhere m z ≡ true) (least : 1 ≤ standing (begun pt m).view j z). h.kept z j (elsewhere_apart m z is) (subst (λ (n : ℕ). 1 ≤ n) (standing_begun pt m j z) least),
      );
      may = (
        may_between next on after_records m machine p 0 ask (search
            (ap kernel_at h.stands.here, h.absent ask.id (ap l.bag id_is ∙ absent_next b pt l m h.run h.mirrors h.own), ap v.told id_is ∙ untold_next b pt m h.run, ap Of x_is, asked_as)),
        tt,
      );
      late_may = tt;
      over = NoneEnds refl (λ q. ap kernel.why_ended (h.lives q));
      topic = tt;
      own = λ j w there none. (let g = h.own j w (h.back j w none there) none in record { told = g.told; mine = g.mine; sender = g.sender });
      tokens = tokens_one v next.view l on records after_records p
          (record {
            stays = record {
              told = refl;
              asked = λ q off. refl;
              residents = others;
              notes = h.notes;
              records = λ n q off. records_as records m n k.records state.records q h.records_here (sets q off);
              known = λ n q off. record_apart v.known m n p q (Frozen to) off;
            };
            came = λ i u z told between least. (let e = stood m h.front h.ids v next.view i z h.first gone least in ((e.spot, e.stands), same i z least));
            left = λ i u z told between about least. (
                let e = stood m h.front h.ids v next.view i z h.first gone least in
                let off = rests_over b pt m p i u e.spot h.run h.at_m told between about e.stands in
                let was = (h.tokens p i u e.spot told between about e.stands).1 off in
                (still_over v next.view p i u off kept, left_asks l on p i was (stays p) (same i z least ∙ was.is)));
          }) h.tokens;
    }

-- to another machine
-- nobody waits to hear of what is here
asks_other : (b : Boot) (m : ℕ) (pt : Point) (l : Placed) (records : AllRecords) (k : KernelState) (y : Message) (machine : ℕ)
    → Hearing b m pt l records k (record y { what = What.Migrate machine }) → pt.view.known m y.to.pid ≡ Here → m ≢ machine
    → ((x : Resident) → k.records y.to.pid ≡ Some (Record.Here x) → CanMove x) → TurnsAt b m pt l records k
asks_other b m pt l records k y machine h at_m apart whole =
    let z : Message = record y { what = What.Migrate machine } in
    let v = pt.view in
    let p = y.to.pid in
    let s : KernelState = record k { inbox = h.rest } in
    let loose = migrates_loose b m pt l records k y machine h in
    let (x, is_here, stands) = recorded b pt l m k p Here h.stands at_m in
    let to : ℕ = target_of (option_and_then v.told (slice_get (v.inbox m) 0)) in
    let next : Point = moved (moved (begun pt m) (Line.Migration Stage.Frozen p) pt.kernel) (Line.Migration Stage.Asked p) pt.kernel in
    let off_here : (machine == k.here) ≡ false = ap (λ (n : ℕ). machine == n) h.stands.here ∙ eq_not machine m (λ e. apart (sym e)) in
    let off_rule : (m == machine) ≡ false = eq_not m machine apart in
    sets_off b m pt l records k p machine None (Line.Migration Stage.Frozen p ∷ Line.Migration Stage.Asked p ∷ []) pt.kernel pt.addresses (drop 1 (v.inbox m)) to l (record {
      before = h.present;
      resident = x;
      is = is_here;
      here = stands;
      whole = whole x is_here;
      at_m = at_m;
      to_is = ap (λ (ids : List MsgId). target_of (option_and_then v.told (slice_get ids 0))) h.box ∙ ap target_of h.told;
      front = y.id;
      ids = h.ids;
      first = h.box;
      gone = ap (drop 1) h.box;
      rest = h.rest;
      others = h.others;
      turn = turn_hears b m pt l records k z h (freezes s p x machine)
          (to_process b s z (Some (Record.Here x)) loose is_here ∙ resident_migrates s y machine x ∙ ap (λ (c : Bool). if c then turned s (Part.Says (Line.Here y.id) ∷ []) else freezes s p x machine) off_here);
      outcome = outcome_hears b m pt l records k z h (Some (leaves_for p machine))
          (here_hears b pt m y.id (told_of z) loose at_m ∙ ap (λ (c : Bool). Some (if c then rule.Says (Line.Here y.id) ∷ [] else leaves_for p machine)) off_rule);
      after = refl;
      on_mirrors = mirrors_view pt.kernel v next.view pt.addresses l refl h.mirrors;
      spared = record { lives = λ q. refl; made = λ n. refl; machines = refl; processes = λ q. refl; board = refl; manager = refl };
      note = grind (arith, nat_tests, h.mirrors.plain.notes p ∙ here_free pt.kernel pt.view m p h.run.based.noted at_m);
      notes = λ q off. refl;
      kept = λ spot j off least. refl;
      behind = λ j least. refl;
      absent = λ j none. none;
      back = λ j w none there. there;
    })

-- it can be carried whole, where it is sent off
whole_here : (b : Boot) (m : ℕ) (k : KernelState) (y : Message) (machine : ℕ) (x : Resident) → is_fixed y.to.pid ≡ false → k.here ≡ m → m ≢ machine → FreezesReceiverWhole k (record y { what = What.Migrate machine }) → k.records y.to.pid ≡ Some (Record.Here x) → CanMove x
whole_here b m k y machine x loose at_m apart whole is =
    subst (KnownIsWhole k.here (What.Migrate machine)) is (whole loose) (λ e. apart (sym (e ∙ at_m)))

pub hears_migrate : (b : Boot) (m : ℕ) (pt : Point) (l : Placed) (records : AllRecords) (k : KernelState) (y : Message) (machine : ℕ) → Hearing b m pt l records k y → y.what ≡ What.Migrate machine → pt.view.known m y.to.pid ≡ Here → FreezesReceiverWhole k y → TurnsAt b m pt l records k
hears_migrate b m pt l records k y machine h is at_m whole =
    let same : y ≡ record y { what = What.Migrate machine } = ap (λ (w : What). record y { what = w }) is in
    let g : Hearing b m pt l records k (record y { what = What.Migrate machine }) = subst (Hearing b m pt l records k) same h in
    elim (eqb_tells m machine) [
      | inl e ↦ here_already b m pt l records k y machine g at_m e.1
      | inr e ↦
          asks_other b m pt l records k y machine g at_m e.1
          (λ x there. whole_here b m k y machine x (migrates_loose b m pt l records k y machine g) h.stands.here e.1 (subst (FreezesReceiverWhole k) same whole) there)
    ]

-- A piece of what leaves goes to the machine that asks for it.

-- the record of what leaves
pub departing : (b : Boot) (m : ℕ) (pt : Point) (l : Placed) (records : AllRecords) (k : KernelState) (y : Message) (p : Pid) → Hearing b m pt l records k y → (g : Leaving m pt y p)
    → Recorded l p (pt.view.queue m p) (pt.view.held m p) (Frozen g.to) (k.records p)
departing b m pt l records k y p h g = recorded b pt l m k p (Frozen g.to) h.stands g.known

-- what is heard carries what it was sent with
pub record Carried (pt : Point) (l : Placed) (records : AllRecords) (p : Pid) (y : Message) : Type 0 where
  pub cargo : Cargo
  pub there : cargo_at l p ≡ Some cargo
  pub sender : y.sender ≡ kernel_at y.id.from.home
  pub carries : Carries p cargo (pt.view.asked p) (incoming_of (records (destination_of y.id (told_of y)) p)) y.what

pub carried : (b : Boot) (m : ℕ) (pt : Point) (l : Placed) (records : AllRecords) (k : KernelState) (y : Message) (p : Pid) → Hearing b m pt l records k y → is_between (kind_of y.what) ≡ true → about_of y.what ≡ Of p → is_due_piece pt.view p y.id (told_of y) ≡ true → Carried pt l records p y
carried b m pt l records k y p h between about due =
    let t = (h.tokens p y.id (told_of y) (Inbox m) h.told between about (stands_first b m pt l records k y h)).0 due in
    let same : t.message ≡ y = some_same t.message y (sym t.is ∙ h.there) in
    search (
      ap (λ (x : Message). x.sender) (sym same) ∙ t.sender,
      subst (λ (x : Message). Carries p t.cargo (pt.view.asked p) (incoming_of (records (destination_of y.id (told_of y)) p)) x.what) same t.carries,
    )

pub kernel_number : (m : ℕ) (p : Pid) → p ≡ pid_of m 0 → (p.num == 0) ≡ true
kernel_number m p e = ap (λ (q : Pid). q.num == 0) e

-- what the piece is: a message of the source about it
pub record IsPiece (p : Pid) (w : What) : Type 0 where
  pub about : about_of w ≡ Of p
  pub plain : plain_what w ≡ None
  pub encloses : enclosed w ≡ []
  pub gives : (s : OneKernel) (v : View) (a : Addresses) (i : MsgId) (q : Pid) → own_given s v a i q (sort_of (kind_of w)) ≡ gets (Receiver i) (unmoved q.home) ∷ gets (Sender i) (unmoved v.acting) ∷ []
  pub of_source : tells_onward (sort_of (kind_of w)) ≡ true

gives : (b : Boot) (m : ℕ) (pt : Point) (l : Placed) (records : AllRecords) (k : KernelState) (y : Message) (p : Pid) (w : What) (h : Hearing b m pt l records k y) → y.to.pid ≡ pid_of m 0 → y.sender ≡ kernel_at y.id.from.home → IsPiece p w
    → kernel_handles b (record k { inbox = h.rest }) y y.what ≡ gives_piece (record k { inbox = h.rest }) y w
    → kernel_hears b pt m y.id (kind_of y.what) (about_of y.what) ≡ Some (migrating.gives_piece y.id (kind_of w))
    → after_proto (handled (begun pt m).view y.id) (Some (told_of y)) ≡ view.about (handled (begun pt m).view y.id) (Of p)
    → IsCarried l (pt.view.asked p) (at_machine records m k.records) p (own (record k { inbox = h.rest }) y.sender w) ⊎ IsLeftOver pt.view l p (own (record k { inbox = h.rest }) y.sender w) → TurnsAt b m pt l records k
gives b m pt l records k y p w h receiver sender piece turn hears proto carries =
    let v = pt.view in
    let s : KernelState = record k { inbox = h.rest } in
    let state : KernelState = with_sent s in
    let message : Message = own s y.sender w in
    let num = kernel_number m y.to.pid receiver in
    let next : Point = record { kernel = pt.kernel; view = view.about (handled (begun pt m).view y.id) (Of p); addresses = pt.addresses } in
    let after_records : AllRecords = at_machine records m state.records in
    let box : next.view.inbox m ≡ h.ids = machine_self v.inbox m (without_front y.id (v.inbox m)) ∙ front_off y.id h.ids (v.inbox m) h.box in
    let gone : FrontGone m h.ids v next.view = search (front_rest m h.ids v next.view box, machine_off) in
    let taken = taken_same pt next m refl (λ n. refl) (λ q. refl) in
    let id_is : message.id ≡ own_id next.view = own_is b m pt l records k y h in
    let id_first : message.id ≡ own_behind next.view 0 = id_is ∙ own_first next.view in
    let carries_on : IsCarried l (next.view.asked p) after_records p message ⊎ IsLeftOver next.view l p message = elim carries [ inl c ↦ inl c | inr c ↦ inr (record { over = c.over; sender = c.sender; carries = c.carries }) ] in
    record {
      state = state;
      says = Line.Proto y.id ∷ [];
      routes = Own message ∷ [];
      late = Nothing;
      turn = turn_hears b m pt l records k y h (gives_piece s y w) (owns.to_kernel b s y num ∙ turn);
      outcome = outcome_hears b m pt l records k y h (Some (rule.Says (Line.Proto y.id) ∷ rule.Owns (kind_of w) y.sender.pid y.sender.at ∷ []))
          (to_kernel_hears b pt m y.id (told_of y) num ∙ hears ∙ ap (λ (a : Addr). Some (rule.Says (Line.Proto y.id) ∷ rule.Owns (kind_of w) a.pid a.at ∷ [])) (sym sender));
      next = next;
      after = ap (λ (o : Option Told). Some (record { kernel = pt.kernel; view = after_proto (handled (begun pt m).view y.id) o; addresses = pt.addresses })) h.told
          ∙ ap (λ (u : View). Some (record { kernel = pt.kernel; view = u; addresses = pt.addresses })) proto;
      placed = l;
      mirrors = mirrors_view pt.kernel v next.view pt.addresses l refl h.mirrors;
      kernel = search (h.stands.known, ap (map l.bag) box ∙ h.others, room_stays k.room _ _ _ taken h.stands.room);
      sent = λ e. ap (λ (n : ℕ). n + 1) e;
      elsewhere = search;
      may = (
        may_between next l after_records m y.id.from.home p 0 message (search (
          ap (with_what message) piece.plain,
          piece.gives next.kernel next.view next.addresses message.id message.to.pid,
          ap kernel_at h.stands.here,
          ap l.bag id_is ∙ absent_next b pt l m h.run h.mirrors h.own,
          ap v.told id_is ∙ untold_next b pt m h.run,
          carries_on,
          sender,
          piece.about,
        )),
        tt,
      );
      late_may = tt;
      over = NoneEnds refl (λ q. refl);
      topic = tt;
      own = own_stays v next.view l refl h.own;
      tokens = tokens_less v next.view l records after_records (λ i. refl) (λ q. refl) (λ n q. refl) (λ n q. records_as records m n k.records state.records q h.records_here refl)
          (λ i t spot told between least. let d = stood m y.id h.ids v next.view i spot h.box gone least in (d.spot, d.stands)) h.tokens;
    }

pub no_piece : (k : MessageKind) → is_piece (sort_of k) ≡ false → brings_piece (sort_of k) ≡ false
no_piece k e = or_second (pulls_piece (sort_of k)) (brings_piece (sort_of k)) e
  where
    or_second : (a c : Bool) → (a || c) ≡ false → c ≡ false
    or_second true c e = absurd (false≢true (sym e))
    or_second false c e = e

-- what is said of a migration tells of no end
pub between_goes_on : (k : MessageKind) → is_between k ≡ true → tells_end (sort_of k) ≡ false
between_goes_on MessageKind.Bury e = absurd (false≢true e)
between_goes_on _ e = refl

pub piece_goes_on : (k : MessageKind) → brings_piece (sort_of k) ≡ true → tells_end (sort_of k) ≡ false
piece_goes_on MessageKind.Bury e = absurd (false≢true e)
piece_goes_on _ e = refl

-- what leaves is there
pub leaves_alive : (b : Boot) (m : ℕ) (pt : Point) (p : Pid) (x : Size) (i : MsgId) (k : MessageKind) (o : Option (List rule.Part)) → size_of pt.kernel p ≡ Some x → tells_end (sort_of k) ≡ false → brings_piece (sort_of k) ≡ false
    → told_step pt m i p (fits (free_room b pt m) x.blocks) x (sort_of k) ≡ o → kernel_hears b pt m i k (Of p) ≡ o
leaves_alive b m pt p x i k o there lives none told =
    let step : Size → Option (List rule.Part) = λ z. told_step pt m i p (fits (free_room b pt m) z.blocks) z (sort_of k) in
    ap (λ (d : Bool). if d then Some (buried pt m i p) else if is_stale pt m i k p then Some (rule.Says (Line.Stale i) ∷ []) else bind (size_of pt.kernel p) step) lives
    ∙ ap (λ (d : Bool). if d && not (is_waited_from i.from.home (pt.view.known m p)) then Some (rule.Says (Line.Stale i) ∷ []) else bind (size_of pt.kernel p) step) none
    ∙ ap (λ (q : Option Size). bind q step) there ∙ told

-- a piece that is due carries what it is to
due_carried : (m : ℕ) (pt : Point) (l : Placed) (records : AllRecords) (k s : KernelState) (y : Message) (p : Pid) (w : What) → records m ≡ k.records → IsPiece p w → (c : Carried pt l records p y) → Carries p c.cargo (pt.view.asked p) (incoming_of (records y.id.from.home p)) w
    → IsCarried l (pt.view.asked p) (at_machine records m k.records) p (own s y.sender w)
due_carried m pt l records k s y p w mine piece c carries =
    let message : Message = own s y.sender w in
    let after_records : AllRecords = at_machine records m k.records in
    let to_is : destination_of message.id (told_of message) ≡ y.id.from.home = ap (λ (d : Bool). if d then y.sender.pid.home else message.id.from.home) piece.of_source ∙ ap (λ (a : Addr). a.pid.home) c.sender in
    let same_there : after_records y.id.from.home p ≡ records y.id.from.home p = records_as records m y.id.from.home k.records k.records p mine refl in
    record {
      cargo = c.cargo;
      there = c.there;
      sender = refl;
      carries = subst (λ (n : ℕ). Carries p c.cargo (pt.view.asked p) (incoming_of (after_records n p)) w) (sym to_is)
          (subst (λ (r : Option machine.KernelKnown). Carries p c.cargo (pt.view.asked p) (incoming_of r) w) (sym same_there) carries);
    }

-- and one that is asked for by what is left over is left over too
left_carried : (m : ℕ) (v : View) (l : Placed) (s : KernelState) (y : Message) (p : Pid) (w : What) (t : Told) → PulledHere v p y.id t m → s.here ≡ m → y.sender ≡ kernel_at y.id.from.home → IsPiece p w → brings_piece (sort_of (kind_of w)) ≡ true → LeftCarries p (cargo_at l p) w
    → IsLeftOver v l p (own s y.sender w)
left_carried m v l s y p w t u here sender piece brings carries =
    let x : Message = own s y.sender w in
    let to : y.sender.pid ≡ pid_of (receiver_in (kind_of w) m u.d) 0 =
    ap (λ (a : Addr). a.pid) sender ∙ ap (λ (q : Pid). pid_of q.home 0) u.from ∙ ap (λ (c : Bool). pid_of (if c then u.d else m) 0) (sym piece.of_source) in
    record {
      over = piece_over v p x.id (told_of x) m u.d brings (λ i. record { kind = kind_of w; receiver = to i; about = piece.about i }) (λ i. pid_of (here i) 0) u.away;
      sender = refl;
      carries = carries;
    }

-- what is left over and asks for a piece
record Remains (b : Boot) (m : ℕ) (pt : Point) (l : Placed) (k : KernelState) (y : Message) (p : Pid) : Type 0 where
  here : PulledHere pt.view p y.id (told_of y) m
  departure : Departure
  is : k.records p ≡ Some (Record.Frozen departure)
  stands : LeavesStand l p (pt.view.queue m p) (pt.view.held m p) here.d departure
  sender : y.sender ≡ kernel_at y.id.from.home

remains : (b : Boot) (m : ℕ) (pt : Point) (l : Placed) (records : AllRecords) (k : KernelState) (y : Message) (p : Pid) → Hearing b m pt l records k y → is_between (kind_of y.what) ≡ true → about_of y.what ≡ Of p → pulls_piece (sort_of (kind_of y.what)) ≡ true → is_due_piece pt.view p y.id (told_of y) ≡ false
    → Remains b m pt l k y p
remains b m pt l records k y p h between about pulls off =
    let v = pt.view in
    let phases = h.run.based.phased.phases in
    let first = stands_first b m pt l records k y h in
    let u = pulled_here v p (phases.of p) y.id (told_of y) m (phases.each p) (over_of v phases p y.id (told_of y) (Inbox m) h.told between about first off) pulls first in
    let (departure, is, stands) = recorded b pt l m k p (Frozen u.d) h.stands u.known in
    let x = (h.tokens p y.id (told_of y) (Inbox m) h.told between about first).1 off in
    record { here = u; departure = departure; is = is; stands = stands; sender = ap (λ (z : Message). z.sender) (sym (some_same x.message y (sym x.is ∙ h.there))) ∙ x.sender }

chunk_piece : (p q : Pid) (state : List ℕ) (n : ℕ) → q ≡ p → IsPiece p (chunk_of q state n)
chunk_piece p q state n e = record { about = ap Of e; plain = refl; encloses = refl; gives = λ o v a i q. refl; of_source = refl }

block_piece : (p q : Pid) (memory : List ℕ) (n : ℕ) → q ≡ p → IsPiece p (block_of q memory n)
block_piece p q memory n e = record { about = ap Of e; plain = refl; encloses = refl; gives = λ o v a i q. refl; of_source = refl }

chunk_due : (b : Boot) (m : ℕ) (pt : Point) (l : Placed) (records : AllRecords) (k : KernelState) (y : Message) (p : Pid) (chunk : ℕ) → Hearing b m pt l records k (record y { what = What.PullState p chunk }) → is_due_piece pt.view p y.id (told_of (record y { what = What.PullState p chunk })) ≡ true
    → TurnsAt b m pt l records k
chunk_due b m pt l records k y p chunk h due =
    let z : Message = record y { what = What.PullState p chunk } in
    let s : KernelState = record k { inbox = h.rest } in
    let g = leaving b m pt l records k z p h refl refl refl refl due in
    let (departure, record_is, stands) = departing b m pt l records k z p h g in
    let c = carried b m pt l records k z p h refl refl due in
    let x = departure.resident in
    let same : cargo_of x departure.asker ≡ c.cargo = same_cargo (cargo_of x departure.asker) c.cargo (sym stands.cargo ∙ c.there) in
    let name : residents.name_of x ≡ p = (here_is pt.kernel pt.view pt.addresses l p (pt.view.queue m p) x h.mirrors stands.here).name in
    let piece = chunk_piece p (residents.name_of x) (state_of x) chunk name in
    gives b m pt l records k z p (chunk_of (residents.name_of x) (state_of x) chunk) h g.receiver c.sender piece
    (ap (λ (r : Option machine.KernelKnown). bind (frozen_of r) (λ (e : Departure). gives_piece s z (chunk_of (residents.name_of e.resident) (state_of e.resident) chunk))) record_is)
    (leaves_alive b m pt p (size_at x) y.id MessageKind.PullState (Some (migrating.gives_piece y.id MessageKind.State)) (here_sized pt.kernel l p (pt.view.queue m p) x h.mirrors.plain stands.here) refl refl refl)
    refl (inl (due_carried m pt l records k s z p (chunk_of (residents.name_of x) (state_of x) chunk) h.records_here piece c (ap (λ (u : Cargo). chunk_of u.pid u.state chunk) same, c.carries.1, c.carries.2)))

chunk_left : (b : Boot) (m : ℕ) (pt : Point) (l : Placed) (records : AllRecords) (k : KernelState) (y : Message) (p : Pid) (chunk : ℕ) → Hearing b m pt l records k (record y { what = What.PullState p chunk }) → is_due_piece pt.view p y.id (told_of (record y { what = What.PullState p chunk })) ≡ false
    → TurnsAt b m pt l records k
chunk_left b m pt l records k y p chunk h off =
    let z : Message = record y { what = What.PullState p chunk } in
    let s : KernelState = record k { inbox = h.rest } in
    let g = remains b m pt l records k z p h refl refl refl off in
    let x = g.departure.resident in
    let name : residents.name_of x ≡ p = (here_is pt.kernel pt.view pt.addresses l p (pt.view.queue m p) x h.mirrors g.stands.here).name in
    let piece = chunk_piece p (residents.name_of x) (state_of x) chunk name in
    gives b m pt l records k z p (chunk_of (residents.name_of x) (state_of x) chunk) h g.here.receiver g.sender piece
    (ap (λ (r : Option machine.KernelKnown). bind (frozen_of r) (λ (e : Departure). gives_piece s z (chunk_of (residents.name_of e.resident) (state_of e.resident) chunk))) g.is)
    (leaves_alive b m pt p (size_at x) y.id MessageKind.PullState (Some (migrating.gives_piece y.id MessageKind.State)) (here_sized pt.kernel l p (pt.view.queue m p) x h.mirrors.plain g.stands.here) refl refl refl)
    refl (inr (left_carried m pt.view l s z p (chunk_of (residents.name_of x) (state_of x) chunk) (told_of z) g.here h.stands.here g.sender piece refl name))

pub gives_chunk : (b : Boot) (m : ℕ) (pt : Point) (l : Placed) (records : AllRecords) (k : KernelState) (y : Message) (p : Pid) (chunk : ℕ) → Hearing b m pt l records k (record y { what = What.PullState p chunk })
    → TurnsAt b m pt l records k
gives_chunk b m pt l records k y p chunk h = elim (cases_Bool (is_due_piece pt.view p y.id (told_of (record y { what = What.PullState p chunk })))) [
  | inl due ↦ chunk_due b m pt l records k y p chunk h due
  | inr off ↦ chunk_left b m pt l records k y p chunk h off
]

block_due : (b : Boot) (m : ℕ) (pt : Point) (l : Placed) (records : AllRecords) (k : KernelState) (y : Message) (p : Pid) (block : ℕ) → Hearing b m pt l records k (record y { what = What.PullBlock p block }) → is_due_piece pt.view p y.id (told_of (record y { what = What.PullBlock p block })) ≡ true
    → TurnsAt b m pt l records k
block_due b m pt l records k y p block h due =
    let z : Message = record y { what = What.PullBlock p block } in
    let s : KernelState = record k { inbox = h.rest } in
    let g = leaving b m pt l records k z p h refl refl refl refl due in
    let (departure, record_is, stands) = departing b m pt l records k z p h g in
    let c = carried b m pt l records k z p h refl refl due in
    let x = departure.resident in
    let same : cargo_of x departure.asker ≡ c.cargo = same_cargo (cargo_of x departure.asker) c.cargo (sym stands.cargo ∙ c.there) in
    let name : residents.name_of x ≡ p = (here_is pt.kernel pt.view pt.addresses l p (pt.view.queue m p) x h.mirrors stands.here).name in
    let piece = block_piece p (residents.name_of x) (residents.memory_of x) block name in
    gives b m pt l records k z p (block_of (residents.name_of x) (residents.memory_of x) block) h g.receiver c.sender piece
    (ap (λ (r : Option machine.KernelKnown). bind (frozen_of r) (λ (e : Departure). gives_piece s z (block_of (residents.name_of e.resident) (residents.memory_of e.resident) block))) record_is)
    (leaves_alive b m pt p (size_at x) y.id MessageKind.PullBlock (Some (migrating.gives_piece y.id MessageKind.Memory)) (here_sized pt.kernel l p (pt.view.queue m p) x h.mirrors.plain stands.here) refl refl refl)
    refl (inl (due_carried m pt l records k s z p (block_of (residents.name_of x) (residents.memory_of x) block) h.records_here piece c (ap (λ (u : Cargo). block_of u.pid u.memory block) same, c.carries.1, c.carries.2)))

block_left : (b : Boot) (m : ℕ) (pt : Point) (l : Placed) (records : AllRecords) (k : KernelState) (y : Message) (p : Pid) (block : ℕ) → Hearing b m pt l records k (record y { what = What.PullBlock p block }) → is_due_piece pt.view p y.id (told_of (record y { what = What.PullBlock p block })) ≡ false
    → TurnsAt b m pt l records k
block_left b m pt l records k y p block h off =
    let z : Message = record y { what = What.PullBlock p block } in
    let s : KernelState = record k { inbox = h.rest } in
    let g = remains b m pt l records k z p h refl refl refl off in
    let x = g.departure.resident in
    let name : residents.name_of x ≡ p = (here_is pt.kernel pt.view pt.addresses l p (pt.view.queue m p) x h.mirrors g.stands.here).name in
    let piece = block_piece p (residents.name_of x) (residents.memory_of x) block name in
    gives b m pt l records k z p (block_of (residents.name_of x) (residents.memory_of x) block) h g.here.receiver g.sender piece
    (ap (λ (r : Option machine.KernelKnown). bind (frozen_of r) (λ (e : Departure). gives_piece s z (block_of (residents.name_of e.resident) (residents.memory_of e.resident) block))) g.is)
    (leaves_alive b m pt p (size_at x) y.id MessageKind.PullBlock (Some (migrating.gives_piece y.id MessageKind.Memory)) (here_sized pt.kernel l p (pt.view.queue m p) x h.mirrors.plain g.stands.here) refl refl refl)
    refl (inr (left_carried m pt.view l s z p (block_of (residents.name_of x) (residents.memory_of x) block) (told_of z) g.here h.stands.here g.sender piece refl name))

pub gives_block : (b : Boot) (m : ℕ) (pt : Point) (l : Placed) (records : AllRecords) (k : KernelState) (y : Message) (p : Pid) (block : ℕ) → Hearing b m pt l records k (record y { what = What.PullBlock p block })
    → TurnsAt b m pt l records k
gives_block b m pt l records k y p block h = elim (cases_Bool (is_due_piece pt.view p y.id (told_of (record y { what = What.PullBlock p block })))) [
  | inl due ↦ block_due b m pt l records k y p block h due
  | inr off ↦ block_left b m pt l records k y p block h off
]
