-- The messages that follow a process: the queue, then what was held.
use Rattle.dm_law_mirror.proofs.Names.{◌≡◌, ◌≢◌, ℕ, ◌+◌, ◌/◌, ◌≤◌, ◌==◌, Bool, true, false, not, List, [], ◌∷◌, ◌++◌, length, map, is_some, refl, ap, ◌∙◌, sym, subst, inl, arith, if◌then◌else◌, option_map, Option, Some, false≢true, Pid}
use Rattle.dm_law_mirror.proofs.Names.{nat_tests, pid_eq, kernel_at, Message, MsgId, What, MessageKind, Record, Wanted, Line, Stage, Taken, with_released, frozen_of, incoming_of, all_sent_on, Boot, Life, bind, plain_process}
use Rattle.dm_law_mirror.proofs.Names.{PlainProcess, without_leaving, KernelState, own, turned, pid_eq-same, sends_on, to_kernel, Point, moved, Room, blocks_of, taken_at, taken_by, takes_room, at_machine, Spot, Held, Inbox, Queue, standing}
use Rattle.dm_law_mirror.proofs.Names.{times, Forward, Frozen, Known, gone_to, own_id, MirrorsPoint, sent_all, Placed, sent_on_mirrors, mirrors_view, MadeStands, told_of, AreMessages, KnownStands, RoomStands, AllRecords, Wants, ◌||◌, inr, None}
use Rattle.dm_law_mirror.proofs.Names.{cases_Bool, id_eq, IsKindOfPlain, kind_of, PlainMessage, plain_message, plain_what, with_what, sent_on, id_eq-swap, is_between, Told, View, letters, held_plain, queued_plain, StandsAsBag-elsewhere, Run}
use Rattle.dm_law_mirror.proofs.Names.{Mirrors, is_among, among_times, parts, AllOwnStand, told_there, more_front, leaves, is_server, Part, drop, ◌⊎◌, is_waited_from, with_sent}
use Rattle.dm_law_mirror.proofs.Join.{kind_plain}
use Rattle.dm_law_mirror.proofs.Handle.Rows.{standing_begun}
use Rattle.dm_law_mirror.proofs.Rooms.{taken_changed}
use Rattle.dm_law_mirror.proofs.Leave.Fronts.{FrontGone, Hearing, leaving, leaving_left, outcome_hears, stood, turn_hears, absent_next, may_between, own_is, records_as, to_kernel_hears, untold_next, tokens_one}
use Rattle.dm_law_mirror.proofs.Leave.Stays.{messages_append, in_one}
use Rattle.dm_law_mirror.proofs.Turning.{NoneEnds, own_first, own_behind, Leaves, On, TurnsAt, begun, is_elsewhere, part_of, rule_part_of, AllMayPut, MayPut, owns}
use Rattle.dm_law_mirror.proofs.Leave.Asks.{carried, departing, kernel_number, leaves_alive}
use Rattle.dm_law_mirror.proofs.Handle.Taking.{eq_self, machine_self, machine_off, map_same, pid_apart, record_self, record_off, record_others, times_more, times_self, some_same, stands_set}
use Rattle.dm_onekernel.specs.Step as kernel
use Rattle.dm_kernel.specs.State as machine
use Rattle.dm_law_rule.specs.Migrating as migrating
use Rattle.dm_law_rule.specs.Parts as rule
use Rattle.dm_law_mirror.proofs.Leave.Fronts as owns
use Rattle.dm_law_mirror.proofs.Turning as turning
use Rattle.dm_law_mirror.proofs.LeftOver.{record_apart, record_kept}
use Rattle.dm_migrate.specs.Rooms.{room_without}
use Rattle.dm_resident.specs.Lawful.{IsLawfulResident}
use Rattle.dm_resident.specs.Residents as residents
use Rattle.dm_law_mirror.proofs.Residents.{OfBoard, OfManager, OfProcess, board_here, here_is, lawful_blocks, manager_here, process_here, same_system, server_apart, who}
use Rattle.dm_law_mirror.proofs.Sized.{here_sized, size_at}
use Rattle.dm_law_mirror.proofs.Rooms.{taken_but_servers}
use Rattle.dm_law_mirror.proofs.Names.{Resident, Addresses, MirrorsKernel, HereStands, is_server}
use Rattle.dm_law_mirror.proofs.Turning.{IsCarried, IsLeftOver}

pub times_among : (i : MsgId) (ids : List MsgId) → is_among i ids ≡ true → 1 ≤ times i ids
times_among i [] e = absurd (false≢true e)
times_among i (j ∷ js) e = elim (cases_Bool (id_eq j i)) [
  | inl same ↦ (let f : times i (j ∷ js) ≡ 1 + times i js = ap (λ (c : Bool). (if c then 1 else 0) + times i js) (id_eq-swap i j ∙ same) in omega (arith, f))
  | inr apart ↦ omega (arith, times_among i js (sym (ap (λ (c : Bool). c || is_among i js) apart) ∙ e))
]

pub bag_off : (b : Boot) (pt : Point) (m : ℕ) (p : Pid) (l : Placed) (at moves : ℕ) (z : Spot) (j : MsgId) → Run b pt → z ≢ Queue m p → z ≢ Held m p → 1 ≤ standing pt.view j z → (sent_all l at moves (pt.view.queue m p ++ pt.view.held m p)).bag j ≡ l.bag j
bag_off b pt m p l at moves z j run queue held least =
    let v = pt.view in
    let ids = v.queue m p ++ v.held m p in
    let s = run.based.phased.state in
    elim (cases_Bool (is_among j ids)) [
      | inl on ↦ elim (in_one j (v.queue m p) (v.held m p) (times_among j ids on)) [
        | inl kept ↦ (let none = StandsAsBag-elsewhere (letters s.own pt.kernel.bag j) (standing v j) (Held m p) z kept held (s.stands.kept j) in absurd (omega (arith, none, least)))
        | inr waits ↦ (let none = StandsAsBag-elsewhere (letters s.own pt.kernel.bag j) (standing v j) (Queue m p) z waits queue (s.stands.kept j) in absurd (omega (arith, none, least)))
      ]
      | inr off ↦ ap (λ (c : Bool). if c then option_map (sent_on at moves) (l.bag j) else l.bag j) off
    ]

own_if : (v : View) (l : Placed) (at moves : ℕ) (i : MsgId) (x : Message) (o : Option Message) → l.bag i ≡ o → option_map (sent_on at moves) o ≡ Some x → (y : Message) × (l.bag i ≡ Some y) × (sent_on at moves y ≡ x)
own_if v l at moves i x o is e = grind (arith, nat_tests, some_same)

pub own_on : (v w : View) (l : Placed) (at moves : ℕ) (ids : List MsgId) → w.told ≡ v.told → AllOwnStand v l → AllOwnStand w (sent_all l at moves ids)
own_on v w l at moves ids e h i x there none = elim (cases_Bool (is_among i ids)) [
  | inl on ↦
      let (y, was, is) = own_if v l at moves i x (l.bag i) refl (sym (ap (λ (c : Bool). if c then option_map (sent_on at moves) (l.bag i) else l.bag i) on) ∙ there) in
      let plain_none : (plain_what x.what) ≡ None = grind (arith, nat_tests) in
      let g = h i y was (ap (with_what y) (ap (λ (z : Message). plain_what z.what) is ∙ plain_none)) in
      record { told = ap (λ (f : MsgId → Option Told). f i) e ∙ g.told ∙ ap (λ (z : Message). Some (told_of z)) is; mine = g.mine; sender = λ c. sym (ap (λ (z : Message). z.sender.pid) is) ∙ g.sender (ap (λ (z : Message). kind_of z.what) is ∙ c) }
  | inr off ↦
      let g = h i x (sym (ap (λ (c : Bool). if c then option_map (sent_on at moves) (l.bag i) else l.bag i) off) ∙ there) none in
      record { told = ap (λ (f : MsgId → Option Told). f i) e ∙ g.told; mine = g.mine; sender = g.sender }
]

-- as parts of the machine and of the rule
pub on_parts : (ms : List Message) → map part_of (map On ms) ≡ map Part.Routes ms
on_parts [] = refl
on_parts (m ∷ ms) = ap (λ (ps : List Part). Part.Routes m ∷ ps) (on_parts ms)

pub on_owns : (ms : List Message) → owns (map On ms) ≡ 0
on_owns [] = refl
on_owns (m ∷ ms) = let e = on_owns ms in omega (arith, e)

pub on_length : (bag : MsgId → Option Message) (at moves : ℕ) (is : List MsgId) (ms : List Message) → AreMessages bag is ms → length (map (sent_on at moves) ms) ≡ length is
on_length bag at moves [] [] e = refl
on_length bag at moves [] (m ∷ ms) e = cc
on_length bag at moves (i ∷ is) [] e = cc
on_length bag at moves (i ∷ is) (m ∷ ms) e = (let rest : map bag is ≡ map Some ms = cc in let f = on_length bag at moves is ms rest in omega (arith, f))

pub on_rule_parts : (bag : MsgId → Option Message) (at moves : ℕ) (is : List MsgId) (ms : List Message) → ((i : MsgId) (x : Message) → bag i ≡ Some x → x.id ≡ i) → AreMessages bag is ms → map rule_part_of (map On (map (sent_on at moves) ms)) ≡ sends_on at is
on_rule_parts bag at moves [] [] named e = refl
on_rule_parts bag at moves [] (m ∷ ms) named e = cc
on_rule_parts bag at moves (i ∷ is) [] named e = cc
on_rule_parts bag at moves (i ∷ is) (m ∷ ms) named e =
    let first : bag i ≡ Some m = cc in
    let more : map bag is ≡ map Some ms = cc in
    λ c. rule.Again ((named i m first) c) at ∷ (on_rule_parts bag at moves is ms named more) c

pub all_may : (pt : Point) (placed : Placed) (records : AllRecords) (at moves : ℕ) (bag : MsgId → Option Message) (is : List MsgId) (ms : List Message)
    → ((i : MsgId) (x : Message) → 1 ≤ times i is → bag i ≡ Some x → MayPut pt placed records 0 (On (sent_on at moves x))) → AreMessages bag is ms → (j : ℕ) → AllMayPut pt placed records j (map On (map (sent_on at moves) ms))
all_may pt placed records at moves bag [] [] may e j = tt
all_may pt placed records at moves bag [] (m ∷ ms) may e j = cc
all_may pt placed records at moves bag (i ∷ is) [] may e j = cc
all_may pt placed records at moves bag (i ∷ is) (m ∷ ms) may e n =
    let first : bag i ≡ Some m = cc in
    let more : map bag is ≡ map Some ms = cc in
    (may i m (times_self i is) first, all_may pt placed records at moves bag is ms (λ j x least there. may j x (more_front j i is least) there) more (n + 0))

-- what was told of one of them
pub record IsTold (v : View) (i : MsgId) (x : Message) : Type 0 where
  pub told : Told
  pub is : v.told i ≡ Some told
  pub kind : told.kind ≡ kind_of x.what
  pub receiver : told.receiver ≡ x.to.pid

told_by : (b : Boot) (pt : Point) (l : Placed) (i : MsgId) (x : Message) (z : Spot) (o : Option PlainMessage) → Run b pt → Mirrors pt.kernel pt.view pt.addresses l → AllOwnStand pt.view l → 1 ≤ standing pt.view i z → l.bag i ≡ Some x → plain_message x ≡ o → IsTold pt.view i x
told_by b pt l i x z None run mirrors own least there plain = record { told = told_of x; is = (own i x there plain).told; kind = refl; receiver = refl }
told_by b pt l i x z (Some w) run mirrors own least there plain =
    let (t, told) = told_there (pt.view.told i) (run.found.told i z least) in
    let bag : pt.kernel.bag i ≡ Some w = sym (mirrors.plain.bag i) ∙ ap (λ (y : Option Message). bind y plain_message) there ∙ plain in
    let tells = run.based.phased.sane.tells in
    let p = parts x w plain in
    record { told = t; is = told; kind = tells.kind i w t bag told ∙ subst (IsKindOfPlain x.what) p.what (kind_plain x.what); receiver = tells.receiver i w t bag told ∙ sym p.to }

-- each of them may be put again
pub on_may : (b : Boot) (pt end : Point) (m : ℕ) (p : Pid) (l : Placed) (records : AllRecords) (at moves : ℕ) (i : MsgId) (x : Message) → Run b pt → Mirrors pt.kernel pt.view pt.addresses l → AllOwnStand pt.view l → end.view.told ≡ pt.view.told
    → 1 ≤ times i (pt.view.queue m p ++ pt.view.held m p) → l.bag i ≡ Some x → MayPut end (sent_all l at moves (pt.view.queue m p ++ pt.view.held m p)) records 0 (On (sent_on at moves x))
on_may b pt end m p l records at moves i x run mirrors own e least there =
    let v = pt.view in
    let ids = v.queue m p ++ v.held m p in
    let name : x.id ≡ i = (mirrors.places.message i x there).id in
    let phases = run.based.phased.phases in
    let put : (sent_all l at moves ids).bag x.id ≡ Some (sent_on at moves x) = ap (sent_all l at moves ids).bag name
    ∙ ap (λ (c : Bool). if c then option_map (sent_on at moves) (l.bag i) else l.bag i) (among_times i ids least) ∙ ap (option_map (sent_on at moves)) there in
    elim (in_one i (v.queue m p) (v.held m p) least) [
      | inl kept ↦
          let t = told_by b pt l i x (Held m p) (plain_message x) run mirrors own kept there refl in
          (put, (t.told, ap (λ (f : MsgId → Option Told). f x.id) e ∙ ap v.told name ∙ t.is, t.kind, t.receiver), ap is_between (sym t.kind) ∙ held_plain v m p i t.told phases t.is kept)
      | inr waits ↦
          let t = told_by b pt l i x (Queue m p) (plain_message x) run mirrors own waits there refl in
          (put, (t.told, ap (λ (f : MsgId → Option Told). f x.id) e ∙ ap v.told name ∙ t.is, t.kind, t.receiver), ap is_between (sym t.kind) ∙ queued_plain v m p i t.told phases t.is waits)
    ]

-- A process or a server has gone: the messages for it go on, and the other machine may restart it.

pub room_released : (t given : Taken) (o n : Room) (blocks : ℕ) → RoomStands t given o → n.slots + 1 ≡ o.slots + 0 → n.blocks + blocks ≡ o.blocks + 0 → RoomStands (with_released t blocks) given n
room_released t given o n blocks h slots pieces =
    record { slots = h.slots; blocks = h.blocks; taken_slots = omega (arith, h.taken_slots, slots); taken_blocks = omega (arith, h.taken_blocks, pieces) }

pub life_some : (o : Option Life) (x : PlainProcess) → kernel.alive o ≡ Some x → is_some o ≡ true
life_some o x e = grind (arith, nat_tests)

abbrev pid_in : Spot → Pid → Pid
pid_in (Queue m p) q = p
pid_in (Held m p) q = p
pid_in _ q = q

-- the room that it leaves: a process's slot and its blocks; a server has taken none
pub room_left : (pt : Point) (w : View) (a : Addresses) (m : ℕ) (p : Pid) (l : Placed) (queue : List MsgId) (r : Resident) (t given : Taken) → HereStands l p queue r → IsLawfulResident r → MadeStands pt.kernel → MirrorsKernel pt.kernel l
    → takes_room (pt.view.known m p) ≡ 1 → takes_room (w.known m p) ≡ 0 → ((q : Pid) → pid_eq p q ≡ false → w.known m q ≡ pt.view.known m q)
    → RoomStands t given (taken_at pt m pt.kernel.machines) → RoomStands (room_without t (residents.blocks_of r)) given (taken_at (record { kernel = pt.kernel; view = w; addresses = a }) m pt.kernel.machines)
room_left pt w a m p l queue r t given here lawful made h one none others room =
    let end : Point = record { kernel = pt.kernel; view = w; addresses = a } in
    let same : (q : Pid) → pid_eq p q ≡ false → taken_by end m q ≡ taken_by pt m q =
    λ q off. (let e = others q off in (λ i. record { slots = takes_room (e i); blocks = if takes_room (e i) == 0 then 0 else blocks_of (kernel.alive (pt.kernel.processes q)) })) in
    let server : (x : Resident) → is_server p ≡ true → residents.blocks_of x ≡ 0 → r ≡ x → RoomStands (room_without t (residents.blocks_of r)) given (taken_at end m pt.kernel.machines) =
    λ x on zero_ is. subst (λ (n : ℕ). RoomStands (room_without t n) given (taken_at end m pt.kernel.machines)) (sym (ap residents.blocks_of is ∙ zero_))
    (subst (RoomStands t given) (sym (taken_but_servers pt end m refl (λ n. refl) (λ q off. same q (server_apart p q on off)))) room) in
    elim (who p) [
      | OfProcess off ↦
          let c = process_here l p queue r off here in
          let x = c.process in
          let n : ℕ = length x.memory / 256 in
          let alive : kernel.alive (pt.kernel.processes p) ≡ Some (plain_process x) = h.processes p ∙ ap (option_map plain_process) c.there in
          let some = life_some (pt.kernel.processes p) (plain_process x) alive in
          let taken = taken_changed pt end m p refl (λ r. refl) (made.home p some) (made.first p some) (made.below p some) (λ q apart. same q (pid_apart p q apart)) in
          let was : taken_by pt m p ≡ record { slots = 1; blocks = n } =
          (λ i. record { slots = one i; blocks = if one i == 0 then 0 else blocks_of (alive i) }) in
          let is : taken_by end m p ≡ record { slots = 0; blocks = 0 } = (λ i. record { slots = none i; blocks = if none i == 0 then 0 else blocks_of (kernel.alive (pt.kernel.processes p)) }) in
          let now : Room = taken_at end m pt.kernel.machines in
          let before : Room = taken_at pt m pt.kernel.machines in
          let slots : now.slots + 1 ≡ before.slots + 0 = ap (λ (r : Room). now.slots + r.slots) (sym was) ∙ taken.0 ∙ ap (λ (r : Room). before.slots + r.slots) is in
          let blocks : now.blocks + n ≡ before.blocks + 0 = ap (λ (r : Room). now.blocks + r.blocks) (sym was) ∙ taken.1 ∙ ap (λ (r : Room). before.blocks + r.blocks) is in
          let released : room_without t (residents.blocks_of r) ≡ with_released t n =
          ap (λ (z : Resident). room_without t (residents.blocks_of z)) c.is ∙ ap (λ (d : Bool). if d then t else with_released t n) (lawful_blocks x (subst IsLawfulResident c.is lawful)) in
          subst (λ (z : Taken). RoomStands z given now) (sym released) (room_released t given before now n room slots blocks)
      | OfBoard at_board ↦ server (Resident.Board l.board) (ap is_server at_board) refl (board_here l queue r (subst (λ (q : Pid). HereStands l q queue r) at_board here))
      | OfManager at_manager ↦ server (Resident.Manager l.manager) (ap is_server at_manager) refl (manager_here l queue r (subst (λ (q : Pid). HereStands l q queue r) at_manager here))
    ]

pub goes : (b : Boot) (m : ℕ) (pt : Point) (l : Placed) (records : AllRecords) (k : KernelState) (y : Message) (p : Pid) → Hearing b m pt l records k (record y { what = What.AllTaken p }) → MadeStands pt.kernel → TurnsAt b m pt l records k
goes b m pt l records k y p h made =
    let bag_absent : (l : Placed) (at moves : ℕ) (ids : List MsgId) (i : MsgId) → l.bag i ≡ None → (sent_all l at moves ids).bag i ≡ None = λ l at moves ids i none. grind (arith, nat_tests, option_map) in
    let z : Message = record y { what = What.AllTaken p } in
    let v = pt.view in
    let s : KernelState = record k { inbox = h.rest } in
    let g = leaving b m pt l records k z p h refl refl refl refl refl in
    let (departure, record_is, stands) = departing b m pt l records k z p h g in
    let c = carried b m pt l records k z p h refl refl refl in
    let num = kernel_number m y.to.pid g.receiver in
    let x : Resident = departure.resident in
    let to : ℕ = departure.to in
    let moves : ℕ = residents.moves_of x + 1 in
    let known_is : v.known m p ≡ Frozen to = g.known ∙ ap Frozen (sym stands.to) in
    let from_is : y.id.from.home ≡ to = ap (λ (q : Pid). q.home) g.from ∙ sym stands.to in
    let apart : to ≢ m = λ (e : to ≡ m). g.apart (sym stands.to ∙ e) in
    let moves_is : residents.moves_of x ≡ v.moves p = (here_is pt.kernel v pt.addresses l p (v.queue m p) x h.mirrors stands.here).moves in
    let ids : List MsgId = v.queue m p ++ v.held m p in
    let ms : List Message = residents.queue_of x ++ departure.held in
    let lists : AreMessages l.bag ids ms = messages_append l.bag (v.queue m p) (v.held m p) (residents.queue_of x) departure.held stands.here.1 stands.held in
    let on : List Message = all_sent_on departure in
    let n : ℕ = length on in
    let state : KernelState = with_sent (without_leaving s p departure) in
    let restart : Message = own s (kernel_at to) (What.Restart p) in
    let next : Point = moved (begun pt m) (Line.SentOn p n) pt.kernel in
    let end : Point = moved next (Line.Migration Stage.Left p) next.kernel in
    let placed : Placed = sent_all l to moves ids in
    let after_records : AllRecords = at_machine records m state.records in
    let forward : Known = gone_to (v.known m p) (v.moves p + 1) in
    let forward_is : forward ≡ Forward to (v.moves p + 1) = ap (λ (r : Known). gone_to r (v.moves p + 1)) known_is in
    let box : next.view.inbox m ≡ h.ids = machine_self v.inbox m (drop 1 (v.inbox m)) ∙ ap (drop 1) h.box in
    let gone : FrontGone m h.ids v end.view = record {
      inbox = λ j least. inl (subst (λ (is : List MsgId). 1 ≤ times j is) box least);
      others = λ r off. machine_off v.inbox m r (drop 1 (v.inbox m)) off;
      queue = λ r q j least. grind (arith, nat_tests);
      held = λ r q j least. grind (arith, nat_tests);
      pair = λ a e. refl;
    } in
    let forward_known : end.view.known m p ≡ Forward to (v.moves p + 1) = record_self v.known m p forward (pid_eq-same p) ∙ forward_is in
    let forward_record : state.records p ≡ Some (Record.Forward to moves) = ap (λ (e : Bool). if e then Some (Record.Forward to moves) else k.records p) (pid_eq-same p) in
    let mine : KnownStands placed p (end.view.queue m p) (end.view.held m p) (end.view.known m p) (state.records p) =
    subst (KnownStands placed p (end.view.queue m p) (end.view.held m p) (end.view.known m p)) (sym forward_record)
    (subst (λ (r : Known). KnownStands placed p (end.view.queue m p) (end.view.held m p) r (Some (Record.Forward to moves))) (sym forward_known) (refl, ap (λ (r : ℕ). r + 1) moves_is)) in
    let stays : (q : Spot) (j : MsgId) → q ≢ Queue m p → q ≢ Held m p → 1 ≤ standing v j q → placed.bag j ≡ l.bag j = λ q j queue held least. bag_off b pt m p l to moves q j h.run queue held least in
    let behind : (j : MsgId) → 1 ≤ times j h.ids → placed.bag j ≡ l.bag j =
    λ j least. (let more = times_more j y.id h.ids in stays (Inbox m) j (λ e. cc) (λ e. cc) (subst (λ (is : List MsgId). 1 ≤ times j is) (sym h.box) (omega (arith, least, more)))) in
    let others_known : (q : Pid) → pid_eq p q ≡ false → end.view.known m q ≡ v.known m q = λ q off. record_others v.known m p q forward off in
    let start_mirrors : MirrorsPoint (begun pt m) l = mirrors_view pt.kernel v (begun pt m).view pt.addresses l refl h.mirrors in
    let next_mirrors : MirrorsPoint next placed = subst (λ (r : ℕ). MirrorsPoint next (sent_all l to (r + 1) ids)) (sym moves_is) (sent_on_mirrors (begun pt m) l p n to start_mirrors known_is) in
    let restarts : IsCarried placed (end.view.asked p) after_records p restart = record {
      cargo = c.cargo;
      there = c.there;
      sender = refl;
      carries = (
        refl,
        subst (λ (r : Option machine.KernelKnown). Wants (incoming_of r) Wanted.Nothing) (sym (ap (λ (f : Pid → Option machine.KernelKnown). f p) (machine_off records m to state.records apart)))
            (subst (λ (r : ℕ). Wants (incoming_of (records r p)) Wanted.Nothing) from_is c.carries.1),
      );
    } in
    let restarts_as : IsCarried placed (end.view.asked p) after_records p restart ⊎ IsLeftOver end.view placed p restart = inl restarts in
    let kept : (r from : ℕ) → is_waited_from from (end.view.known r p) ≡ true → is_waited_from from (v.known r p) ≡ true =
    λ r from waits. record_kept v.known m p p forward (λ (n : ℕ). ap (is_waited_from n) forward_is) r from waits in
    let same : (i : MsgId) (t : Told) (spot : Spot) → v.told i ≡ Some t → is_between t.kind ≡ true → 1 ≤ standing end.view i spot → placed.bag i ≡ l.bag i = λ i t spot told between least. (
    let e = stood m y.id h.ids v end.view i spot h.box gone least in
    let phases = h.run.based.phased.phases in
    let none : is_between t.kind ≡ false → ⊥ = λ off. false≢true (sym off ∙ between) in
    stays e.spot i (λ f. none (queued_plain v m p i t phases told (subst (λ (y : Spot). 1 ≤ standing v i y) f e.stands)))
    (λ f. none (held_plain v m p i t phases told (subst (λ (y : Spot). 1 ≤ standing v i y) f e.stands))) e.stands) in
    let id_is : restart.id ≡ own_id end.view = own_is b m pt l records k z h in
    let sends : List Part = Part.Says (Line.Migration Stage.Left p) ∷ Part.Routes restart ∷ [] in
    let last : List rule.Part = rule.Says (Line.Migration Stage.Left p) ∷ to_kernel MessageKind.Restart to ∷ [] in
    let owned : turning.owns (map On on) ≡ 0 = on_owns on in
    let id_late : restart.id ≡ own_behind end.view (turning.owns (map On on)) = id_is ∙ own_first end.view ∙ ap (own_behind end.view) (sym owned) in
    let sets : (q : Pid) → pid_eq p q ≡ false → state.records q ≡ k.records q = λ q off. ap (λ (c : Bool). if c then Some (Record.Forward to moves) else k.records q) off in
    let other_queue : (m : ℕ) (p q : Pid) → pid_eq p q ≡ false → Queue m q ≢ Queue m p = λ m p q off e. false≢true (sym off ∙ ap (pid_eq p) (ap (λ (z : Spot). pid_in z p) e) ∙ pid_eq-same p) in
    let waits : (q : Pid) (j : MsgId) → pid_eq p q ≡ false → 1 ≤ times j (v.queue m q) → placed.bag j ≡ l.bag j = λ q j off least. stays (Queue m q) j (other_queue m p q off) (λ e. cc) least in
    let holds : (q : Pid) (j : MsgId) → pid_eq p q ≡ false → 1 ≤ times j (v.held m q) → placed.bag j ≡ l.bag j =
    λ q j off least. stays (Held m q) j (λ e. cc) (λ e. false≢true (sym off ∙ ap (pid_eq p) (ap (λ (z : Spot). pid_in z p) e) ∙ pid_eq-same p)) least in
    -- spots of other machines and of other processes
    let elsewhere_queue : (m : ℕ) (p : Pid) (z : Spot) → is_elsewhere m z ≡ true → z ≢ Queue m p = λ m p z is e. false≢true (sym (ap not (eq_self m)) ∙ ap (is_elsewhere m) (sym e) ∙ is) in
    record {
      state = state;
      says = Line.SentOn p n ∷ [];
      routes = map On on;
      late = Leaves p restart;
      turn = turn_hears b m pt l records k z h (turned state (Part.Says (Line.SentOn p n) ∷ map part_of (map On on) ++ sends))
          (owns.to_kernel b s z num ∙ ap (λ (r : Option machine.KernelKnown). bind (frozen_of r) (leaves s p)) record_is ∙ ap (λ (ps : List Part). turned state (Part.Says (Line.SentOn p n) ∷ ps ++ sends)) (sym (on_parts on)));
      outcome = outcome_hears b m pt l records k z h (Some (rule.Says (Line.SentOn p n) ∷ map rule_part_of (map On on) ++ last))
          (to_kernel_hears b pt m y.id (told_of z) num
          ∙ leaves_alive b m pt p (size_at x) y.id MessageKind.AllTaken (Some (rule.Says (Line.SentOn p n) ∷ map rule_part_of (map On on) ++ last)) (here_sized pt.kernel l p (v.queue m p) x h.mirrors.plain stands.here) refl refl
          (ap (migrating.leaves y.id p ids) known_is
          ∙ ap (λ (r : ℕ). Some (rule.Says (Line.SentOn p (length ids)) ∷ sends_on to ids ++ rule.Says (Line.Migration Stage.Left p) ∷ to_kernel MessageKind.Restart r ∷ [])) from_is
          ∙ ap (λ (r : ℕ). Some (rule.Says (Line.SentOn p r) ∷ sends_on to ids ++ last)) (sym (on_length l.bag to moves ids ms lists))
          ∙ ap (λ (ps : List rule.Part). Some (rule.Says (Line.SentOn p n) ∷ ps ++ last)) (sym (on_rule_parts l.bag to moves ids ms (λ i a e. (h.mirrors.places.message i a e).id) lists))));
      next = next;
      after = refl;
      placed = placed;
      mirrors = next_mirrors;
      kernel = stands_set b pt end l placed m k state p (search (sets, record_others, others_known, same_system l, waits, holds, mine)) h.stands
          h.stands.ring (ap (map placed.bag) box ∙ map_same l.bag placed.bag h.ids behind ∙ h.others)
          h.stands.made (room_left pt end.view end.addresses m p l (v.queue m p) x k.room _ stands.here stands.whole.lawful made h.mirrors.plain (ap takes_room known_is) (ap takes_room forward_known) others_known h.stands.room)
          h.stands.preds;
      sent = λ e. omega (arith, e, owned);
      elsewhere = search (
        record_off,
        same_system l,
        λ (i : MsgId) (spot : Spot) (away : is_elsewhere m spot ≡ true) (least : 1 ≤ standing (begun pt m).view i spot).
            stays spot i (elsewhere_queue m p spot away) (λ e. false≢true (sym (ap not (eq_self m)) ∙ ap (is_elsewhere m) (sym e) ∙ away)) (subst (λ (r : ℕ). 1 ≤ r) (standing_begun pt m i spot) least),
      );
      may = all_may end placed after_records to moves l.bag ids ms (λ i a least e. on_may b pt end m p l after_records to moves i a h.run h.mirrors h.own refl least e) lists 0;
      over = NoneEnds refl (λ q. refl);
      topic = refl;
      late_may = may_between end placed after_records m to p (turning.owns (map On on)) restart (search (
        ap kernel_at h.stands.here,
        bag_absent l to moves ids restart.id (ap l.bag id_is ∙ absent_next b pt l m h.run h.mirrors h.own),
        ap v.told id_is ∙ untold_next b pt m h.run,
        restarts_as,
      ));
      own = own_on v end.view l to moves ids refl h.own;
      tokens = tokens_one v end.view l placed records after_records p
          (record {
            stays = record {
              told = refl;
              asked = λ q off. refl;
              residents = λ q off. refl;
              notes = λ q off. refl;
              records = λ r q off. records_as records m r k.records state.records q h.records_here (sets q off);
              known = λ r q off. record_apart v.known m r p q forward off;
            };
            came = λ i t spot told between least. (let e = stood m y.id h.ids v end.view i spot h.box gone least in ((e.spot, e.stands), same i t spot told between least));
            left = λ i t spot told between about least. leaving_left b m pt l records k z p h g end.view placed gone kept refl i t spot told between about least (same i t spot told between least);
          }) h.tokens;
    }
