-- A machine calls off what is on its way to it: what was held for it goes back, and the kernel that it comes from is told; or a line says that there is nothing to call off.
use Rattle.dm_law_mirror.proofs.Names.{◌≡◌, ◌≢◌, ◌⊎◌, ℕ, ◌+◌, ◌/◌, ◌≤◌, ◌==◌, ◌&&◌, Bool, true, false, not, List, [], ◌∷◌, ◌++◌, length, map, refl, ap, ◌∙◌, sym, subst, inl, inr, arith, if◌then◌else◌, option_map, Option, None, Some, cases_Bool}
use Rattle.dm_law_mirror.proofs.Names.{false≢true, nat_tests, Pid, pid_eq, pid_eq-same, kernel_at, Message, MsgId, What, MessageKind, Record, Line, Boot, incoming_of, Arrival, KernelState, own, turned, Step, Cargo}
use Rattle.dm_law_mirror.proofs.Names.{to_kernel, sends_on, Point, moved, taken_at, takes_room, room_of, RoomStands, at_machine, Spot, Queue, Held, Inbox, Untaken, standing, times, Known, Incoming, Forward, Of, own_id, Run}
use Rattle.dm_law_mirror.proofs.Names.{Placed, Mirrors, MirrorsPoint, MadeStands, mirrors_view, sent_all, sent_on, AllOwnStand, ComesStand, KnownStands, KernelStands, AllRecords, Resident, CanBeCarried, IsSuch, at_record, resident_at, slice_get, is_among, among_times, letters, held_plain}
use Rattle.dm_law_mirror.proofs.Names.{StandsAsBag-elsewhere, eq_self, Part, calls_arriving_off, calls_off, is_not_called, turns_back, without_arriving, all_sent_back, is_whole, called_mirrors, goes_back, times-append, is_waited_from}
use Rattle.dm_law_mirror.proofs.Names.{with_sent}
use Rattle.dm_law_mirror.proofs.Cargoes.{is_cargo_of}
use Rattle.dm_law_mirror.proofs.Recorded.{recorded}
use Rattle.dm_law_mirror.proofs.LeftOver.{cargo_named, come_is, record_apart, record_kept, tokens_called, tokens_less}
use Rattle.dm_law_mirror.proofs.Turning.{NoneEnds, own_first, AllMayPut, MayOwn, MayPut, Nothing, On, Own, Route, Turns, IsCarried, IsLeftOver, is_elsewhere, part_of, rule_part_of}
use Rattle.dm_law_mirror.proofs.Leave.Fronts.{Present, absent_next, may_between, own_stays, records_as, untold_next}
use Rattle.dm_law_mirror.proofs.Leave.Goes.{all_may, on_length, on_may, on_rule_parts, own_on, room_left, times_among}
use Rattle.dm_law_mirror.proofs.Handle.Taking.{map_same, record_self, record_off, record_others, stands_set}
use Rattle.dm_migrate.specs.Rooms.{room_without}
use Rattle.dm_resident.specs.Residents as residents
use Rattle.dm_law_mirror.proofs.Residents.{blocks_queue, here_bare, resident_is, same_manager, same_system}
use Rattle.dm_kernel.specs.State as machine
use Rattle.dm_law_rule.specs.Migrating as migrating
use Rattle.dm_law_rule.specs.Parts as rule
use Rattle.dm_law_mirror.proofs.Turning as turning

-- behind the head of the directive
abbrev pub called_point : Point → Pid → ℕ → Point
called_point pt p m = moved pt (Line.Head (Step.CallOff p m)) pt.kernel

-- what machine m's kernel and the rule come to
abbrev pub Calls : Boot → ℕ → Point → Placed → AllRecords → KernelState → Pid → Type 0
Calls b m pt l records k p = Turns b m (Step.CallOff p m) (calls_off k p) pt (called_point pt p m) l records k

-- What comes to a machine bears its process's name, has moved as often and takes its blocks.
pub record ComingFits (pt : Point) (l : Placed) (p : Pid) (a : Arrival) : Type 0 where
  pub resident : Resident
  pub there : resident_at l p ≡ Some resident
  pub pid : a.pid ≡ p
  pub moves : a.moves ≡ pt.view.moves p
  pub blocks : a.blocks ≡ residents.blocks_of resident

pub coming_fits : (pt : Point) (l : Placed) (p : Pid) (from : ℕ) (held : List MsgId) (a : Arrival) → Mirrors pt.kernel pt.view pt.addresses l → ComesStand l p from held a → ComingFits pt l p a
coming_fits pt l p from held a mirrors h =
    let of = is_cargo_of (resident_at l p) (l.notes p) h.cargo h.there in
    let is = resident_is pt.kernel pt.view pt.addresses l p of.resident mirrors of.there in
    record {
      resident = of.resident;
      there = of.there;
      pid = ap (λ (z : Arrival). z.pid) h.pieces ∙ cargo_named pt l p h.cargo mirrors h.there;
      moves = ap (λ (z : Arrival). z.moves) h.pieces ∙ ap (λ (c : Cargo). c.moves) (sym of.is) ∙ is.moves;
      blocks = ap (λ (z : Arrival). z.blocks) h.pieces ∙ ap (λ (c : Cargo). length c.memory / 256) (sym of.is);
    }

-- what a machine has of a process that comes, it is said to expect
pub coming_by : (l : Placed) (p : Pid) (queue held : List MsgId) (n : Known) (a : Arrival) → KnownStands l p queue held n (Some (Record.Incoming a)) → (from : ℕ) × (n ≡ Incoming from) × ComesStand l p from held a
coming_by l p queue held (Incoming from) a h = (from, refl, h)
coming_by l p queue held _ a h = absurd h

abbrev expects : Known → Bool
expects (Incoming from) = true
expects _ = false

-- A line says that there is nothing to call off.
none_called : (b : Boot) (m : ℕ) (pt : Point) (l : Placed) (records : AllRecords) (k : KernelState) (p : Pid) → Present b m pt l records k → calls_off k p ≡ is_not_called k p → migrating.calls_off pt m p (pt.view.known m p) ≡ rule.Says (Line.NoCall p) ∷ [] → Calls b m pt l records k p
none_called b m pt l records k p h turn is =
    let start = called_point pt p m in
    record {
      state = k;
      says = Line.NoCall p ∷ [];
      routes = [];
      late = Nothing;
      turn = turn;
      outcome = ap Some is;
      next = start;
      after = refl;
      placed = l;
      mirrors = mirrors_view pt.kernel pt.view start.view pt.addresses l refl h.mirrors;
      kernel = kernel_begun b m pt l k p h.stands;
      sent = λ e. e ∙ (let f : pt.view.count m ≡ pt.view.count m + (0 + 0) = omega arith in f);
      elsewhere = (let system = same_system l in search);
      may = tt;
      late_may = tt;
      over = NoneEnds refl (λ q. refl);
      topic = tt;
      own = own_stays pt.view start.view l refl h.own;
      tokens = tokens_less pt.view start.view l records (at_machine records m k.records) (λ i. refl) (λ q. refl) (λ n q. refl) (λ n q. records_as records m n k.records k.records q h.records_here refl)
          (λ i t z told between least. (z, (let e_ : 1 ≤ standing pt.view i z = grind (arith, nat_tests) in e_))) h.tokens;
    }
  where
    kernel_begun : (b : Boot) (m : ℕ) (pt : Point) (l : Placed) (k : KernelState) (p : Pid) (h : KernelStands b pt l m k) → KernelStands b (called_point pt p m) l m k
    kernel_begun b m pt l k p h = search h.known

-- What was held goes back.

-- what stands elsewhere stays
bag_kept : (b : Boot) (pt : Point) (m : ℕ) (p : Pid) (l : Placed) (at moves : ℕ) (z : Spot) (j : MsgId) → Run b pt → z ≢ Held m p → 1 ≤ standing pt.view j z → (sent_all l at moves (pt.view.held m p)).bag j ≡ l.bag j
bag_kept b pt m p l at moves z j run off least =
    let v = pt.view in
    let s = run.based.phased.state in
    elim (cases_Bool (is_among j (v.held m p))) [
      | inl on ↦
          (let none = StandsAsBag-elsewhere (letters s.own pt.kernel.bag j) (standing v j) (Held m p) z (times_among j (v.held m p) on) off (s.stands.kept j) in absurd (omega (arith, none, least)))
      | inr out ↦ ap (λ (c : Bool). if c then option_map (sent_on at moves) (l.bag j) else l.bag j) out
    ]

-- each of them may be put again
held_may : (b : Boot) (pt end : Point) (m : ℕ) (p : Pid) (l : Placed) (records : AllRecords) (at moves : ℕ) (i : MsgId) (x : Message) → Run b pt → Mirrors pt.kernel pt.view pt.addresses l → AllOwnStand pt.view l → end.view.told ≡ pt.view.told
    → 1 ≤ times i (pt.view.held m p) → l.bag i ≡ Some x → MayPut end (sent_all l at moves (pt.view.held m p)) records 0 (On (sent_on at moves x))
held_may b pt end m p l records at moves i x run mirrors own e least there =
    let v = pt.view in
    let ids = v.held m p in
    let name : x.id ≡ i = (mirrors.places.message i x there).id in
    let put : (sent_all l at moves ids).bag x.id ≡ Some (sent_on at moves x) = ap (sent_all l at moves ids).bag name
    ∙ ap (λ (c : Bool). if c then option_map (sent_on at moves) (l.bag i) else l.bag i) (among_times i ids least) ∙ ap (option_map (sent_on at moves)) there in
    let more = times-append i (v.queue m p) ids in
    let t = on_may b pt end m p l records at moves i x run mirrors own e (let some : 1 ≤ times i (v.queue m p ++ ids) = omega (arith, more, least) in some) there in
    (put, t.1, t.2)

-- then the machine's kernel tells the other
may_then : (pt : Point) (placed : Placed) (records : AllRecords) (j : ℕ) (ms : List Message) (x : Message) → AllMayPut pt placed records j (map On ms) → MayOwn pt placed records j x → AllMayPut pt placed records j (map On ms ++ Own x ∷ [])
may_then pt placed records j [] x h may = (may, tt)
may_then pt placed records j (m ∷ ms) x h may = (h.0, may_then pt placed records (j + 0) ms x h.1 (let e : j ≡ j + 0 = omega arith in subst (λ (n : ℕ). MayOwn pt placed records n x) e may))

parts_then : (ms : List Message) (x : Message) → map part_of (map On ms ++ Own x ∷ []) ++ [] ≡ map Part.Routes ms ++ Part.Routes x ∷ []
parts_then [] x = refl
parts_then (m ∷ ms) x = ap (λ (ps : List Part). Part.Routes m ∷ ps) (parts_then ms x)

rule_parts_then : (ms : List Message) (x : Message) → map rule_part_of (map On ms ++ Own x ∷ []) ++ [] ≡ map rule_part_of (map On ms) ++ rule_part_of (Own x) ∷ []
rule_parts_then [] x = refl
rule_parts_then (m ∷ ms) x = ap (λ (ps : List rule.Part). rule_part_of (On m) ∷ ps) (rule_parts_then ms x)

owns_then : (ms : List Message) (x : Message) → turning.owns (map On ms ++ Own x ∷ []) ≡ 1
owns_then [] x = refl
owns_then (m ∷ ms) x = (let e = owns_then ms x in omega (arith, e))

-- what stands somewhere then stood there
if_less : (c : Bool) (is : List MsgId) (i : MsgId) → 1 ≤ times i (if c then [] else is) → 1 ≤ times i is
if_less true is i least = absurd (omega (arith, least))
if_less false is i least = least

held_less : (f : ℕ → Pid → List MsgId) (m n : ℕ) (p q : Pid) (i : MsgId) → 1 ≤ times i (at_record f m p [] n q) → 1 ≤ times i (f n q)
held_less f m n p q i least = if_less ((m == n) && pid_eq p q) (f n q) i least

called_was : (pt : Point) (m : ℕ) (p : Pid) (n : ℕ) (i : MsgId) (z : Spot) → 1 ≤ standing (moved (called_point pt p m) (Line.Called p n) pt.kernel).view i z → 1 ≤ standing pt.view i z
called_was pt m p n i (Queue a q) least = least
called_was pt m p n i (Held a q) least = held_less pt.view.held m a p q i least
called_was pt m p n i (Inbox a) least = least
called_was pt m p n i (Untaken a c) least = least

begun_was : (pt : Point) (m : ℕ) (p : Pid) (i : MsgId) (z : Spot) → 1 ≤ standing (called_point pt p m).view i z → 1 ≤ standing pt.view i z
begun_was pt m p i (Queue a q) least = least
begun_was pt m p i (Held a q) least = least
begun_was pt m p i (Inbox a) least = least
begun_was pt m p i (Untaken a c) least = least

abbrev pid_in : Spot → Pid → Pid
pid_in (Held m p) q = p
pid_in _ q = q

-- what is on its way here
record IsComing (pt : Point) (l : Placed) (m : ℕ) (k : KernelState) (p : Pid) : Type 0 where
  from : ℕ
  arrival : Arrival
  known : pt.view.known m p ≡ Incoming from
  is : k.records p ≡ Some (Record.Incoming arrival)
  stands : ComesStand l p from (pt.view.held m p) arrival

called : (b : Boot) (m : ℕ) (pt : Point) (l : Placed) (records : AllRecords) (k : KernelState) (p : Pid) → MadeStands pt.kernel → Present b m pt l records k → (c : IsComing pt l m k p) → is_whole c.arrival.wanted ≡ false → pt.view.come p ≡ false → Calls b m pt l records k p
called b m pt l records k p made h c less come =
    let v = pt.view in
    let a = c.arrival in
    let stands = c.stands in
    let from : ℕ = c.from in
    let fits = coming_fits pt l p from (v.held m p) a h.mirrors stands in
    let x : Resident = fits.resident in
    let ids : List MsgId = v.held m p in
    let phases = h.run.based.phased.phases in
    let on : List Message = all_sent_back a in
    let n : ℕ = length on in
    let state : KernelState = with_sent (without_arriving k p a) in
    let tells : Message = own k (kernel_at a.source) (What.CallOff a.pid) in
    let routes : List Route = map On on ++ Own tells ∷ [] in
    let start : Point = called_point pt p m in
    let next : Point = moved start (Line.Called p n) pt.kernel in
    let placed : Placed = sent_all l a.source a.moves ids in
    let after_records : AllRecords = at_machine records m state.records in
    let forward : Known = goes_back (v.known m p) (v.moves p) in
    let forward_is : forward ≡ Forward from (v.moves p) = ap (λ (r : Known). goes_back r (v.moves p)) c.known in
    let forward_known : next.view.known m p ≡ Forward from (v.moves p) = record_self v.known m p forward (pid_eq-same p) ∙ forward_is in
    let forward_record : state.records p ≡ Some (Record.Forward a.source a.moves) = ap (λ (e : Bool). if e then Some (Record.Forward a.source a.moves) else k.records p) (pid_eq-same p) in
    let mine : KnownStands placed p (next.view.queue m p) (next.view.held m p) (next.view.known m p) (state.records p) =
    subst (KnownStands placed p (next.view.queue m p) (next.view.held m p) (next.view.known m p)) (sym forward_record)
    (subst (λ (r : Known). KnownStands placed p (next.view.queue m p) (next.view.held m p) r (Some (Record.Forward a.source a.moves))) (sym forward_known) (stands.source, fits.moves)) in
    let stays : (z : Spot) (j : MsgId) → z ≢ Held m p → 1 ≤ standing v j z → placed.bag j ≡ l.bag j = λ z j off least. bag_kept b pt m p l a.source a.moves z j h.run off least in
    let others_known : (q : Pid) → pid_eq p q ≡ false → next.view.known m q ≡ v.known m q = λ q off. record_others v.known m p q forward off in
    let whole = subst (IsSuch (CanBeCarried a.cap l.manager.machines l.manager.images)) fits.there stands.whole in
    let room = room_left pt next.view next.addresses m p l [] (residents.with_queue [] x) k.room _ (here_bare l p x fits.there) whole.0.lawful made h.mirrors.plain (ap takes_room c.known) (ap takes_room forward_known) others_known h.stands.room in
    let blocks : residents.blocks_of (residents.with_queue [] x) ≡ a.blocks = blocks_queue [] x ∙ sym fits.blocks in
    let start_mirrors : MirrorsPoint start l = mirrors_view pt.kernel v start.view pt.addresses l refl h.mirrors in
    let next_mirrors : MirrorsPoint next placed =
    subst (λ (r : ℕ). MirrorsPoint next (sent_all l r a.moves ids)) (sym stands.source)
    (subst (λ (r : ℕ). MirrorsPoint next (sent_all l from r ids)) (sym fits.moves) (called_mirrors start l p n from start_mirrors c.known)) in
    let carried : IsCarried placed (next.view.asked p) after_records p tells = record { cargo = stands.cargo; there = stands.there; sender = refl; carries = fits.pid } in
    let carried_as : IsCarried placed (next.view.asked p) after_records p tells ⊎ IsLeftOver next.view placed p tells = inl carried in
    let id_is : tells.id ≡ own_id next.view = λ i. record { from = record { home = h.stands.here i; num = 0 }; n = h.sent i; answer = false } in
    let absent : (o : Option Message) (d : Bool) → o ≡ None → (if d then option_map (sent_on a.source a.moves) o else o) ≡ None = λ o d none. grind (arith, nat_tests, option_map) in
    let sets : (q : Pid) → pid_eq p q ≡ false → state.records q ≡ k.records q = λ q off. ap (λ (d : Bool). if d then Some (Record.Forward a.source a.moves) else k.records q) off in
    let other_held : (q : Pid) → pid_eq p q ≡ false → Held m q ≢ Held m p = λ q off e. false≢true (sym off ∙ ap (pid_eq p) (ap (λ (z : Spot). pid_in z p) e) ∙ pid_eq-same p) in
    let off_here : (z : Spot) → is_elsewhere m z ≡ true → z ≢ Held m p = λ z away e. false≢true (sym (ap not (eq_self m)) ∙ ap (is_elsewhere m) (sym e) ∙ away) in
    let owned : turning.owns routes ≡ 1 = owns_then on tells in
    let long : n ≡ length ids = on_length l.bag a.source a.moves ids a.held stands.held in
    let named : (i : MsgId) (y : Message) → l.bag i ≡ Some y → y.id ≡ i = λ i y e. (h.mirrors.places.message i y e).id in
    let rule_routes : map rule_part_of routes ++ [] ≡ sends_on from ids ++ to_kernel MessageKind.CallOff from ∷ [] =
    rule_parts_then on tells ∙ ap (λ (rs : List rule.Part). rs ++ rule_part_of (Own tells) ∷ []) (on_rule_parts l.bag a.source a.moves ids a.held named stands.held)
    ∙ ap (λ (r : ℕ). sends_on r ids ++ to_kernel MessageKind.CallOff r ∷ []) stands.source in
    record {
      state = state;
      says = Line.Called p n ∷ [];
      routes = routes;
      late = Nothing;
      turn = ap (calls_arriving_off k p) (ap incoming_of c.is) ∙ ap (λ (d : Bool). if d then is_not_called k p else turns_back k p a) less
          ∙ ap (λ (ps : List Part). turned state (Part.Says (Line.Called p n) ∷ ps)) (sym (parts_then on tells));
      outcome = ap Some (ap (migrating.calls_off pt m p) c.known
          ∙ ap (λ (d : Bool). if d then rule.Says (Line.NoCall p) ∷ [] else rule.Says (Line.Called p (length ids)) ∷ sends_on from ids ++ to_kernel MessageKind.CallOff from ∷ []) come
          ∙ ap (λ (r : ℕ). rule.Says (Line.Called p r) ∷ sends_on from ids ++ to_kernel MessageKind.CallOff from ∷ []) (sym long)
          ∙ ap (λ (ps : List rule.Part). rule.Says (Line.Called p n) ∷ ps) (sym rule_routes));
      next = next;
      after = refl;
      placed = placed;
      mirrors = next_mirrors;
      kernel = stands_set b pt next l placed m k state p
          (record {
            here = refl;
            records = sets;
            queue = λ q off. refl;
            held = λ q off. record_others v.held m p q [] off;
            known = others_known;
            residents = λ q off. refl;
            system = same_manager l placed refl;
            notes = λ q off. refl;
            bag = λ q j off least. stays (Queue m q) j (λ e. cc) least;
            holds = λ q j off least. stays (Held m q) j (other_held q off) least;
            mine = mine;
          }) h.stands h.stands.ring (map_same l.bag placed.bag (v.inbox m) (λ j least. stays (Inbox m) j (λ e. cc) least) ∙ h.stands.inbox) h.stands.made
          (subst (λ (n : ℕ). RoomStands (room_without k.room n) (room_of (slice_get b.machines m)) (taken_at next m next.kernel.machines)) blocks room) h.stands.preds;
      sent = λ e. (let f : k.sent + 1 ≡ v.count m + (turning.owns routes + 0) = omega (arith, e, owned) in f);
      over = NoneEnds refl (λ q. refl);
      topic = tt;
      elsewhere = record {
        acting = refl;
        groups = refl;
        pair = λ d e. refl;
        inbox = λ r off. refl;
        ring = λ r off. refl;
        known = λ r q off. record_off v.known m r p q forward off;
        queue = λ r q off. refl;
        held = λ r q off. record_off v.held m r p q [] off;
        preds = λ r q off. refl;
        count = λ r. refl;
        told = refl;
        machines = refl;
        made = λ r off. refl;
        resident = λ r q off has. refl;
        system = same_manager l placed refl;
        notes = λ r q off has. refl;
        life = λ r q off has. refl;
        bag = λ i z away least. stays z i (off_here z away) (begun_was pt m p i z least);
      };
      may = may_then next placed after_records 0 on tells
          (all_may next placed after_records a.source a.moves l.bag ids a.held (λ i y least e. held_may b pt next m p l after_records a.source a.moves i y h.run h.mirrors h.own refl least e) stands.held 0)
          (may_between next placed after_records m a.source p 0 tells (record {
            acting = refl;
            id = id_is ∙ own_first next.view;
            plain = refl;
            encloses = refl;
            gives = refl;
            to = refl;
            sender = ap kernel_at h.stands.here;
            bag = absent (l.bag tells.id) (is_among tells.id ids) (ap l.bag id_is ∙ absent_next b pt l m h.run h.mirrors h.own);
            untold = ap v.told id_is ∙ untold_next b pt m h.run;
            from = h.stands.here;
            about = ap Of fits.pid;
            topic = refl;
            carried = carried_as;
          }));
      late_may = tt;
      own = own_on v next.view l a.source a.moves ids refl h.own;
      tokens = tokens_called pt next.view l placed records after_records p m from phases h.mirrors h.own
          (record {
            comes = c.known;
            less = come;
            forwards = ap (is_waited_from from) forward_known;
            told = refl;
            asked = λ q. refl;
            known = λ r q off. record_apart v.known m r p q forward off;
            kept = λ r d waits. record_kept v.known m p p forward (λ (f : ℕ). ap (is_waited_from f) forward_is) r d waits;
            residents = λ q. refl;
            notes = λ q. refl;
            records = λ r q off. records_as records m r k.records state.records q h.records_here (sets q off);
            stood = λ i z least. called_was pt m p n i z least;
            bag = λ i t z told between least.
                (let st = called_was pt m p n i z least in
                stays z i (λ f. false≢true (sym (held_plain v m p i t phases told (subst (λ (y : Spot). 1 ≤ standing v i y) f st)) ∙ between)) st);
          }) h.tokens;
    }

-- A directive to call a process off, whatever the machine knows of it.

-- what doesn't come isn't expected
not_coming : (l : Placed) (p : Pid) (queue held : List MsgId) (n : Known) (r : Option machine.KernelKnown) → expects n ≡ false → KnownStands l p queue held n r → incoming_of r ≡ None
not_coming l p queue held n (Some (Record.Incoming a)) off h = (let (from, is, stands) = coming_by l p queue held n a h in absurd (false≢true (sym off ∙ ap expects is)))
not_coming l p queue held n _ off h = refl

none_comes : (b : Boot) (pt : Point) (l : Placed) (m : ℕ) (k : KernelState) (p : Pid) → KernelStands b pt l m k → expects (pt.view.known m p) ≡ false → incoming_of (k.records p) ≡ None
none_comes b pt l m k p h off = not_coming l p (pt.view.queue m p) (pt.view.held m p) (pt.view.known m p) (k.records p) off (h.known p)

by_whole : (b : Boot) (m : ℕ) (pt : Point) (l : Placed) (records : AllRecords) (k : KernelState) (p : Pid) (whole : Bool) → MadeStands pt.kernel → Present b m pt l records k → (c : IsComing pt l m k p) → is_whole c.arrival.wanted ≡ whole → pt.view.come p ≡ whole → Calls b m pt l records k p
by_whole b m pt l records k p true made h c whole come =
    none_called b m pt l records k p h (ap (calls_arriving_off k p) (ap incoming_of c.is) ∙ ap (λ (d : Bool). if d then is_not_called k p else turns_back k p c.arrival) whole)
    (ap (migrating.calls_off pt m p) c.known
    ∙ ap (λ (d : Bool). if d then rule.Says (Line.NoCall p) ∷ [] else rule.Says (Line.Called p (length (pt.view.held m p))) ∷ sends_on c.from (pt.view.held m p) ++ to_kernel MessageKind.CallOff c.from ∷ []) come)
by_whole b m pt l records k p false made h c whole come = called b m pt l records k p made h c whole come

by_known : (b : Boot) (m : ℕ) (pt : Point) (l : Placed) (records : AllRecords) (k : KernelState) (p : Pid) (n : Known) → MadeStands pt.kernel → Present b m pt l records k → pt.view.known m p ≡ n → Calls b m pt l records k p
by_known b m pt l records k p (Incoming from) made h is =
    let (a, record_is, stands) = recorded b pt l m k p (Incoming from) h.stands is in
    let come = come_is pt.view h.run.based.phased.phases l records p m from a h.tokens h.own is (ap (λ (f : Pid → Option machine.KernelKnown). f p) h.records_here ∙ record_is) in
    by_whole b m pt l records k p (is_whole a.wanted) made h (record { from = from; arrival = a; known = is; is = record_is; stands = stands }) refl come
by_known b m pt l records k p n made h is =
    none_called b m pt l records k p h (ap (calls_arriving_off k p) (none_comes b pt l m k p h.stands (ap expects is))) (ap (migrating.calls_off pt m p) is)

pub calls_turn : (b : Boot) (m : ℕ) (pt : Point) (l : Placed) (records : AllRecords) (k : KernelState) (p : Pid) → MadeStands pt.kernel → Present b m pt l records k → Calls b m pt l records k p
calls_turn b m pt l records k p made h = by_known b m pt l records k p (pt.view.known m p) made h refl
