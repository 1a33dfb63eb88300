-- A machine hears a kernel's own message at its inbox's front: what holds then, and what stands where once the message is handled.
use Rattle.dm_law_mirror.proofs.Names.{◌≡◌, ◌≢◌, ◌⊎◌, ℕ, ◌+◌, ◌≤◌, ◌==◌, Bool, true, false, List, ◌∷◌, ap, ◌∙◌, sym, subst, inl, inr, arith, if◌then◌else◌, Option, None, Some, eqb_tells, Pid, pid_of, Message, MsgId, kind_of, plain_message}
use Rattle.dm_law_mirror.proofs.Names.{bind, Boot, Step, handles, KernelState, Turned, turns, id_eq-same, is_apart, is_between, tells_onward, is_restart, knows, Moves, Phase, Rests, receiver_in, sender_in, token_in, Point, comes_to, hears}
use Rattle.dm_law_mirror.proofs.Names.{outcome, Spot, Queue, Held, Inbox, Untaken, standing, times, Here, Frozen, Of, Told, View, is_kernels, letters, rests_here, token_at, StandsAsBag-one, StandsAsBag-elsewhere, spot_cases, OwnTold, Run}
use Rattle.dm_law_mirror.proofs.Names.{Placed, Mirrors, AllOwnStand, about_of, told_of, AreMessages, KernelStands, AllRecords, TokensStand, eq_self, source_knows, inbox_is, more_front, holds_is, [], refl, Addr, pid_eq, place_of}
use Rattle.dm_law_mirror.proofs.Names.{nat_tests, kernel_at, id_of, MessageKind, PlainMessage, process_handles, Gets, Receiver, Sender, gets, given, own_given, unmoved, process_told, kernel_hears, at_machine, Known, not_kernels, is_fixed}
use Rattle.dm_law_mirror.proofs.Names.{enclosed, about_same, cases_Bool, pid_eq-is, sort_of, What, false≢true, LeftStands, is_due_piece, is_waited_from, told_here, resident_at}
use Rattle.dm_law_mirror.proofs.Handle.Taking.{front_of, times_self, machine_self, machine_off, some_same}
use Rattle.dm_law_mirror.proofs.Turning.{IsCarried, IsLeftOver, MayOwn, own_behind}
pub use Rattle.dm_law_mirror.proofs.Handle.Taking.{to_kernel}
use Rattle.dm_law_rule.specs.Parts as rule
use Rattle.dm_law_rule.specs.Rule as ruled
use Rattle.dm_kernel.specs.State as machine
use Rattle.dm_law_mirror.proofs.Cargoes.{cargo_same}
use Rattle.dm_law_mirror.proofs.LeftOver.{IsDue, IsOver, OneStands, Which, due_of, known_due, left_asks, left_keeps, one_keeps, still_over, token_same, which}
use Rattle.dm_law_mirror.proofs.Handle.Taking.{to_known}

-- what stands of machine m and its kernel
pub record Present (b : Boot) (m : ℕ) (pt : Point) (l : Placed) (records : AllRecords) (k : KernelState) : Type 0 where
  pub run : Run b pt
  pub mirrors : Mirrors pt.kernel pt.view pt.addresses l
  pub stands : KernelStands b pt l m k
  pub own : AllOwnStand pt.view l
  pub tokens : TokensStand pt.view l records
  pub records_here : records m ≡ k.records
  pub sent : k.sent ≡ pt.view.count m

-- machine m hears message y, which is no message of the kernel without machines
pub record Hearing (b : Boot) (m : ℕ) (pt : Point) (l : Placed) (records : AllRecords) (k : KernelState) (y : Message) : Type 0 where
  pub present : Present b m pt l records k
  pub open present use *
  pub sorts : OwnTold pt
  pub there : l.bag y.id ≡ Some y
  pub told : pt.view.told y.id ≡ Some (told_of y)
  pub mine : is_kernels y.id ≡ true
  pub none : pt.kernel.bag y.id ≡ None
  -- the messages behind it
  pub ids : List MsgId
  pub box : pt.view.inbox m ≡ y.id ∷ ids
  pub rest : List Message
  pub inbox : k.inbox ≡ y ∷ rest
  pub others : AreMessages l.bag ids rest

-- whatever stands at the front and isn't in the bag of the kernel without machines is heard so
pub record Heard (b : Boot) (m : ℕ) (pt : Point) (l : Placed) (records : AllRecords) (k : KernelState) (i : MsgId) : Type 0 where
  pub message : Message
  pub name : message.id ≡ i
  pub plain : plain_message message ≡ None
  pub hearing : Hearing b m pt l records k message

pub heard : (b : Boot) (m : ℕ) (pt : Point) (l : Placed) (records : AllRecords) (k : KernelState) (i : MsgId) (is : List MsgId) → Run b pt → OwnTold pt → Mirrors pt.kernel pt.view pt.addresses l → KernelStands b pt l m k → AllOwnStand pt.view l → TokensStand pt.view l records
    → records m ≡ k.records → k.sent ≡ pt.view.count m → pt.view.inbox m ≡ i ∷ is → pt.kernel.bag i ≡ None → Heard b m pt l records k i
heard b m pt l records k i is run sorts mirrors stands own tokens here sent box none =
    let f = front_of l.bag i is k.inbox (subst (λ (z : List MsgId). AreMessages l.bag z k.inbox) box stands.inbox) in
    let y = f.message in
    let name : y.id ≡ i = (mirrors.places.message i y f.there).id in
    let plain : plain_message y ≡ None = ap (λ (o : Option Message). bind o plain_message) (sym f.there) ∙ mirrors.plain.bag i ∙ none in
    let g = own i y f.there plain in
    search (
      ap l.bag name ∙ f.there,
      ap pt.view.told name ∙ g.told,
      ap is_kernels name ∙ g.mine,
      ap pt.kernel.bag name ∙ none,
      box ∙ ap (λ (j : MsgId). j ∷ is) (sym name),
    )

-- the machine's turn, and the rule's
pub turn_hears : (b : Boot) (m : ℕ) (pt : Point) (l : Placed) (records : AllRecords) (k : KernelState) (y : Message) (h : Hearing b m pt l records k y) (o : Option Turned) → handles b (record k { inbox = h.rest }) y ≡ o → turns b k k.inbox ≡ o
turn_hears b m pt l records k y h o e = ap (turns b k) h.inbox ∙ e

pub outcome_hears : (b : Boot) (m : ℕ) (pt : Point) (l : Placed) (records : AllRecords) (k : KernelState) (y : Message) (h : Hearing b m pt l records k y) (o : Option (List rule.Part)) → hears b pt m y.id (Some (told_of y)) ≡ o → outcome b pt (Step.Turn m) ≡ o
outcome_hears b m pt l records k y h o e = ap (ruled.turns b pt m) h.box ∙ ap (comes_to b pt m y.id) h.none ∙ ap (hears b pt m y.id) h.told ∙ e

-- it stands at the front, and nowhere else
pub stands_first : (b : Boot) (m : ℕ) (pt : Point) (l : Placed) (records : AllRecords) (k : KernelState) (y : Message) → Hearing b m pt l records k y → 1 ≤ standing pt.view y.id (Inbox m)
stands_first b m pt l records k y h = subst (λ (z : List MsgId). 1 ≤ times y.id z) (sym h.box) (times_self y.id h.ids)

pub not_elsewhere : (b : Boot) (m : ℕ) (pt : Point) (l : Placed) (records : AllRecords) (k : KernelState) (y : Message) (h : Hearing b m pt l records k y) (z : Spot) → z ≢ Inbox m → standing pt.view y.id z ≡ 0
not_elsewhere b m pt l records k y h z off =
    let s = h.run.based.phased.state in
    StandsAsBag-elsewhere (letters s.own pt.kernel.bag y.id) (standing pt.view y.id) (Inbox m) z (stands_first b m pt l records k y h) off (s.stands.kept y.id)

pub not_behind : (b : Boot) (m : ℕ) (pt : Point) (l : Placed) (records : AllRecords) (k : KernelState) (y : Message) (h : Hearing b m pt l records k y) → times y.id h.ids ≡ 0
not_behind b m pt l records k y h =
    let s = h.run.based.phased.state in
    let one : standing pt.view y.id (Inbox m) ≡ 1 = StandsAsBag-one (letters s.own pt.kernel.bag y.id) (standing pt.view y.id) (Inbox m) (stands_first b m pt l records k y h) (s.stands.kept y.id) in
    omega (arith, ap (times y.id) (sym h.box) ∙ one, ap (λ (d : Bool). (if d then 1 else 0) + times y.id h.ids) (id_eq-same y.id))

-- the front has gone from machine m's inbox; messages may have come there that were held, and some may stand nowhere
pub record FrontGone (m : ℕ) (is : List MsgId) (v w : View) : Type 0 where
  pub inbox : (j : MsgId) → 1 ≤ times j (w.inbox m) → (1 ≤ times j is) ⊎ ((p : Pid) × (1 ≤ times j (v.held m p)))
  pub others : (n : ℕ) → n ≢ m → w.inbox n ≡ v.inbox n
  pub queue : (n : ℕ) (p : Pid) (j : MsgId) → 1 ≤ times j (w.queue n p) → 1 ≤ times j (v.queue n p)
  pub held : (n : ℕ) (p : Pid) (j : MsgId) → 1 ≤ times j (w.held n p) → 1 ≤ times j (v.held n p)
  pub pair : (a c : ℕ) → w.pair a c ≡ v.pair a c

pub front_rest : (m : ℕ) (is : List MsgId) (v w : View) → w.inbox m ≡ is → (j : MsgId) → 1 ≤ times j (w.inbox m) → (1 ≤ times j is) ⊎ ((p : Pid) × (1 ≤ times j (v.held m p)))
front_rest m is v w box j least = inl (subst (λ (ids : List MsgId). 1 ≤ times j ids) box least)

-- what stands somewhere then stood somewhere, and if that was in this inbox, behind the front
pub record Stood (m : ℕ) (is : List MsgId) (v : View) (j : MsgId) : Type 0 where
  pub spot : Spot
  pub stands : 1 ≤ standing v j spot
  pub behind : spot ≡ Inbox m → 1 ≤ times j is

pub stood : (m : ℕ) (i : MsgId) (is : List MsgId) (v w : View) (j : MsgId) (z : Spot) → v.inbox m ≡ i ∷ is → FrontGone m is v w → 1 ≤ standing w j z → Stood m is v j
stood m i is v w j (Queue n p) box g least = record { spot = Queue n p; stands = g.queue n p j least; behind = λ (e : Queue n p ≡ Inbox m). cc }
stood m i is v w j (Held n p) box g least = record { spot = Held n p; stands = g.held n p j least; behind = λ (e : Held n p ≡ Inbox m). cc }
stood m i is v w j (Untaken a c) box g least = record { spot = Untaken a c; stands = subst (λ (x : View). 1 ≤ standing x j (Untaken a c)) (λ c'. record w { pair = λ d e. g.pair d e c' }) least; behind = λ (e : Untaken a c ≡ Inbox m). cc }
stood m i is v w j (Inbox n) box g least = elim (eqb_tells n m) [
  | inl e ↦
      let at_m : 1 ≤ times j (w.inbox m) = subst (λ (x : ℕ). 1 ≤ times j (w.inbox x)) e.1 least in
      elim (g.inbox j at_m) [
        | inl more ↦ record { spot = Inbox m; stands = subst (λ (x : List MsgId). 1 ≤ times j x) (sym box) (more_front j i is more); behind = λ (f : Inbox m ≡ Inbox m). more }
        | inr held ↦ record { spot = Held m held.0; stands = held.1; behind = λ (f : Held m held.0 ≡ Inbox m). cc }
      ]
  | inr off ↦ record { spot = Inbox n; stands = subst (λ (x : List MsgId). 1 ≤ times j x) (g.others n off.1) least; behind = λ (f : Inbox n ≡ Inbox m). absurd (off.1 (let e : n ≡ m = cc in e)) }
]

-- the front itself stands nowhere
pub front_nowhere : (b : Boot) (m : ℕ) (pt : Point) (l : Placed) (records : AllRecords) (k : KernelState) (y : Message) (h : Hearing b m pt l records k y) (w : View) (z : Spot) → FrontGone m h.ids pt.view w → 1 ≤ standing w y.id z → ⊥
front_nowhere b m pt l records k y h w z g least =
    let s = stood m y.id h.ids pt.view w y.id z h.box g least in
    elim (spot_cases s.spot (Inbox m)) [
      | inl is ↦ (let none = not_behind b m pt l records k y h in let some = s.behind is in absurd (omega (arith, none, some)))
      | inr off ↦ (let none = not_elsewhere b m pt l records k y h s.spot off in let some = s.stands in absurd (omega (arith, none, some)))
    ]

-- while it is here only what is left over of its migrations stands anywhere
over_at : (v : View) (m : ℕ) (p : Pid) (now : Phase) (i : MsgId) (t : Told) → now ≡ Rests m → Which v p now i t → is_due_piece v p i t ≡ false
over_at v m p now i t rests (IsDue d due) = (let f : Rests m ≡ Moves d.kind d.s d.d (Some i) = sym rests ∙ d.phase in cc)
over_at v m p now i t rests (IsOver left off) = off

pub rests_over : (b : Boot) (pt : Point) (m : ℕ) (p : Pid) (i : MsgId) (t : Told) (z : Spot) → Run b pt → pt.view.known m p ≡ Here → pt.view.told i ≡ Some t → is_between t.kind ≡ true → t.about ≡ Of p → 1 ≤ standing pt.view i z → is_due_piece pt.view p i t ≡ false
rests_over b pt m p i t z run at_m told between about least =
    let h = run.based.phased.phases in
    let phase = h.of p in
    over_at pt.view m p phase i t (rests_here phase m (sym (ap (knows phase m) at_m) ∙ (h.each p).known m)) (which pt.view h p i t z told between about least)

-- what the destination says of a migration is heard at the source, where it leaves
pub record Leaving (m : ℕ) (pt : Point) (y : Message) (p : Pid) : Type 0 where
  pub to : ℕ
  pub known : pt.view.known m p ≡ Frozen to
  -- the others about it are left over
  pub others : (i : MsgId) (t : Told) (z : Spot) → pt.view.told i ≡ Some t → is_between t.kind ≡ true → t.about ≡ Of p → 1 ≤ standing pt.view i z → (i ≡ y.id) ⊎ (is_due_piece pt.view p i t ≡ false)
  pub from : y.id.from ≡ pid_of to 0
  pub apart : to ≢ m
  pub receiver : y.to.pid ≡ pid_of m 0
  pub phase : (n : ℕ) → knows (Moves (kind_of y.what) m to (Some y.id)) n (pt.view.known n p) ≡ true

other_of : (v : View) (p : Pid) (now : Phase) (i j : MsgId) (t : Told) → token_in now ≡ Some j → Which v p now i t → (i ≡ j) ⊎ (is_due_piece v p i t ≡ false)
other_of v p now i j t mine (IsDue d due) = inl (some_same i j (sym (ap token_in d.phase) ∙ mine))
other_of v p now i j t mine (IsOver left off) = inr off

pub leaving : (b : Boot) (m : ℕ) (pt : Point) (l : Placed) (records : AllRecords) (k : KernelState) (y : Message) (p : Pid) → Hearing b m pt l records k y → is_between (kind_of y.what) ≡ true → tells_onward (sort_of (kind_of y.what)) ≡ false → is_restart (kind_of y.what) ≡ false → about_of y.what ≡ Of p
    → is_due_piece pt.view p y.id (told_of y) ≡ true → Leaving m pt y p
leaving b m pt l records k y p h between source restart about due =
    let v = pt.view in
    let phases = h.run.based.phased.phases in
    let first = stands_first b m pt l records k y h in
    let u = due_of v phases p y.id (told_of y) (Inbox m) h.told between about first due in
    let j = u.kind in
    let s = u.s in
    let d = u.d in
    let phase : phases.of p ≡ Moves j s d (Some y.id) = u.phase in
    let each = phases.each p in
    let token = token_at v p (phases.of p) j s d y.id phase each in
    let kind : j ≡ kind_of y.what = sym u.kind_is in
    let of_source : tells_onward (sort_of j) ≡ false = ap (λ (k : MessageKind). tells_onward (sort_of k)) kind ∙ source in
    let to_m : m ≡ receiver_in j s d = inbox_is m (sender_in j s d) (receiver_in j s d) (token.ways (Inbox m) first) in
    let here : m ≡ s = to_m ∙ (ap (λ (c : Bool). if c then d else s) of_source) in
    let off : d ≢ s = grind (arith, nat_tests, eq_self, (sym (ap is_apart phase) ∙ each.apart)) in
    record {
      to = d;
      known = ap (λ (x : ℕ). v.known x p) here ∙ holds_is j d (v.known s p) (ap is_restart kind ∙ restart) (source_knows j s d (Some y.id) (v.known s p) (sym (ap (λ (x : Phase). knows x s (v.known s p)) phase) ∙ each.known s));
      others = λ i t z told_i between_i about_i least. other_of v p (phases.of p) i y.id t (ap token_in phase) (which v phases p i t z told_i between_i about_i least);
      from = u.from ∙ ap (λ (c : Bool). pid_of (if c then s else d) 0) of_source;
      apart = λ e. off (e ∙ here);
      receiver = ap (λ (t : Told). t.receiver) u.told ∙ ap (λ (x : ℕ). pid_of x 0) (sym to_m);
      phase = λ n. sym (ap (λ (x : Phase). knows x n (v.known n p)) (phase ∙ (λ i. Moves (kind i) (sym here i) d (Some y.id)))) ∙ each.known n;
    }

-- what stands of its migration behind it is left over
pub leaving_left : (b : Boot) (m : ℕ) (pt : Point) (l : Placed) (records : AllRecords) (k : KernelState) (y : Message) (p : Pid) (h : Hearing b m pt l records k y) → Leaving m pt y p → (w : View) (placed : Placed) → FrontGone m h.ids pt.view w
    → ((n from : ℕ) → is_waited_from from (w.known n p) ≡ true → is_waited_from from (pt.view.known n p) ≡ true) → resident_at placed p ≡ resident_at l p
    → (i : MsgId) (t : Told) (z : Spot) → pt.view.told i ≡ Some t → is_between t.kind ≡ true → t.about ≡ Of p → 1 ≤ standing w i z → placed.bag i ≡ l.bag i → (is_due_piece w p i t ≡ false) × LeftStands placed p i
leaving_left b m pt l records k y p h g w placed gone kept same i t z told between about least bag =
    let e = stood m y.id h.ids pt.view w i z h.box gone least in
    elim (g.others i t e.spot told between about e.stands) [
      | inl is ↦ absurd (front_nowhere b m pt l records k y h w z gone (subst (λ (j : MsgId). 1 ≤ standing w j z) is least))
      | inr off ↦
          let was = (h.tokens p i t e.spot told between about e.stands).1 off in
          (still_over pt.view w p i t off kept, left_asks l placed p i was same (bag ∙ was.is))
    ]

-- The next message of a machine's kernel, where it goes to another kernel and is about a process that leaves.

-- what a kernel has not counted was not told, and isn't in the bag
pub absent_by : (b : Boot) (pt : Point) (l : Placed) (i : MsgId) (o : Option Message) (p : Option PlainMessage) → Run b pt → Mirrors pt.kernel pt.view pt.addresses l → AllOwnStand pt.view l → is_kernels i ≡ true → pt.view.told i ≡ None → l.bag i ≡ o → bind o plain_message ≡ p → o ≡ None
absent_by b pt l i None p run mirrors own mine untold is plain = refl
absent_by b pt l i (Some x) None run mirrors own mine untold is plain = absurd (let e : Some (told_of x) ≡ None = sym (own i x is plain).told ∙ untold in cc)
absent_by b pt l i (Some x) (Some w) run mirrors own mine untold is plain = grind (arith, nat_tests, not_kernels)

pub untold_next : (b : Boot) (pt : Point) (m : ℕ) → Run b pt → pt.view.told (id_of (pid_of m 0) (pt.view.count m)) ≡ None
untold_next b pt m run = run.based.phased.state.numbered m (pt.view.count m) (let same : (n : ℕ) → n ≤ n = λ n. omega arith in same (pt.view.count m))

pub absent_next : (b : Boot) (pt : Point) (l : Placed) (m : ℕ) → Run b pt → Mirrors pt.kernel pt.view pt.addresses l → AllOwnStand pt.view l → l.bag (id_of (pid_of m 0) (pt.view.count m)) ≡ None
absent_next b pt l m run mirrors own =
    let i = id_of (pid_of m 0) (pt.view.count m) in
    absent_by b pt l i (l.bag i) (bind (l.bag i) plain_message) run mirrors own refl (untold_next b pt m run) refl refl

-- the machine's name of it is the rule's
pub own_is : (b : Boot) (m : ℕ) (pt : Point) (l : Placed) (records : AllRecords) (k : KernelState) (y : Message) → Hearing b m pt l records k y → machine.own_id k ≡ id_of (pid_of m 0) (pt.view.count m)
own_is b m pt l records k y h = λ i. record { from = record { home = h.stands.here i; num = 0 }; n = h.sent i; answer = false }

-- a message to the kernel of a machine c, about process p, behind so many of the kernel's own
pub record Between (pt : Point) (placed : Placed) (records : AllRecords) (m c : ℕ) (p : Pid) (j : ℕ) (x : Message) : Type 0 where
  pub acting : pt.view.acting ≡ m
  pub id : x.id ≡ own_behind pt.view j
  pub plain : plain_message x ≡ None
  pub encloses : enclosed x.what ≡ []
  pub gives : own_given pt.kernel pt.view pt.addresses x.id x.to.pid (sort_of (kind_of x.what)) ≡ gets (Receiver x.id) (unmoved x.to.pid.home) ∷ gets (Sender x.id) (unmoved pt.view.acting) ∷ []
  pub to : x.to ≡ kernel_at c
  pub sender : x.sender ≡ kernel_at m
  pub bag : placed.bag x.id ≡ None
  pub untold : pt.view.told x.id ≡ None
  pub from : x.id.from.home ≡ m
  pub about : about_of x.what ≡ Of p
  pub topic : pt.view.topic ≡ Of p
  pub carried : IsCarried placed (pt.view.asked p) records p x ⊎ IsLeftOver pt.view placed p x

no_request : (w : What) (p : Pid) → kind_of w ≡ MessageKind.Migrate → about_of w ≡ Of p → ⊥
no_request (What.Migrate machine) p e about = cc
no_request _ p e about = cc

pub may_between : (pt : Point) (placed : Placed) (records : AllRecords) (m c : ℕ) (p : Pid) (j : ℕ) (x : Message) → Between pt placed records m c p j x → MayOwn pt placed records j x
may_between pt placed records m c p j x h =
    let a = pt.addresses in
    let q = x.to.pid in
    let second : List Gets = gets (Sender x.id) (unmoved pt.view.acting) ∷ [] in
    record {
      id = h.id;
      plain = h.plain;
      encloses = h.encloses;
      bag = h.bag;
      untold = h.untold;
      receiver = ap (λ (g : List Gets). given a g (Receiver x.id)) h.gives ∙ ap (λ (e : Bool). if e then unmoved q.home else given a second (Receiver x.id)) (id_eq-same x.id)
          ∙ ap (λ (z : Addr). unmoved z.pid.home) h.to ∙ ap place_of (sym h.to);
      sender = ap (λ (g : List Gets). given a g (Sender x.id)) h.gives ∙ ap (λ (e : Bool). if e then unmoved pt.view.acting else a (Sender x.id)) (id_eq-same x.id)
          ∙ ap unmoved h.acting ∙ ap place_of (sym h.sender);
      about = h.topic ∙ sym h.about;
      asker = λ e. absurd (no_request x.what p e h.about);
      carried = λ between r of_r. subst (λ (z : Pid). IsCarried placed (pt.view.asked z) records z x ⊎ IsLeftOver pt.view placed z x) (about_same p r (sym h.about ∙ of_r)) h.carried;
    }

-- the receiver is a process or a server, or the kernel
pub to_process : (b : Boot) (s : KernelState) (y : Message) (r : Option machine.KernelKnown) → is_fixed y.to.pid ≡ false → s.records y.to.pid ≡ r → handles b s y ≡ process_handles s y r
to_process b s y r loose is = to_known b s y r loose is

pub process_hears : (b : Boot) (pt : Point) (m : ℕ) (i : MsgId) (t : Told) (n : Known) → is_fixed t.receiver ≡ false → pt.view.known m t.receiver ≡ n → hears b pt m i (Some t) ≡ process_told pt m i t n
process_hears b pt m i t n loose is =
    ap (λ (c : Bool). if c then kernel_hears b pt m i t.kind t.about else process_told pt m i t (pt.view.known m t.receiver)) loose ∙ ap (process_told pt m i t) is

pub here_hears : (b : Boot) (pt : Point) (m : ℕ) (i : MsgId) (t : Told) → is_fixed t.receiver ≡ false → pt.view.known m t.receiver ≡ Here → hears b pt m i (Some t) ≡ told_here pt m i t (sort_of t.kind)
here_hears b pt m i t loose is = process_hears b pt m i t Here loose is

pub to_kernel_hears : (b : Boot) (pt : Point) (m : ℕ) (i : MsgId) (t : Told) → (t.receiver.num == 0) ≡ true → hears b pt m i (Some t) ≡ kernel_hears b pt m i t.kind t.about
to_kernel_hears b pt m i t num = grind (arith, nat_tests)

-- the records of all machines, where those of machine m are these
pub records_as : (records : AllRecords) (m n : ℕ) (f g : Pid → Option machine.KernelKnown) (q : Pid) → records m ≡ f → g q ≡ f q → at_machine records m g n q ≡ records n q
records_as records m n f g q is same = grind (arith, nat_tests, eqb_tells, machine_self, machine_off)

-- What is known of processes where at most one of them changes, and what the messages of migrations under way still carry.

-- what it leaves of other processes
pub record TokensStay (v w : View) (l placed : Placed) (before after : AllRecords) (p : Pid) : Type 0 where
  pub told : w.told ≡ v.told
  pub asked : (q : Pid) → pid_eq p q ≡ false → w.asked q ≡ v.asked q
  pub residents : (q : Pid) → pid_eq p q ≡ false → resident_at placed q ≡ resident_at l q
  pub notes : (q : Pid) → pid_eq p q ≡ false → placed.notes q ≡ l.notes q
  pub records : (n : ℕ) (q : Pid) → pid_eq p q ≡ false → after n q ≡ before n q
  pub known : (n : ℕ) (q : Pid) → pid_eq p q ≡ false → w.known n q ≡ v.known n q

-- the messages of the migrations of other processes carry what they carried, where only what is left over of this process's stands anywhere
pub record TokensOne (v w : View) (l placed : Placed) (before after : AllRecords) (p : Pid) : Type 0 where
  pub stays : TokensStay v w l placed before after p
  pub open stays use *
  pub came : (i : MsgId) (t : Told) (z : Spot) → v.told i ≡ Some t → is_between t.kind ≡ true → 1 ≤ standing w i z → ((y : Spot) × (1 ≤ standing v i y)) × (placed.bag i ≡ l.bag i)
  pub left : (i : MsgId) (t : Told) (z : Spot) → v.told i ≡ Some t → is_between t.kind ≡ true → t.about ≡ Of p → 1 ≤ standing w i z → (is_due_piece w p i t ≡ false) × LeftStands placed p i

pub tokens_one : (v w : View) (l placed : Placed) (before after : AllRecords) (p : Pid) → TokensOne v w l placed before after p → TokensStand v l before → TokensStand w placed after
tokens_one v w l placed before after p c h q i t z told between about st =
    let was : v.told i ≡ Some t = ap (λ (f : MsgId → Option Told). f i) (sym c.told) ∙ told in
    elim (cases_Bool (pid_eq p q)) [
      | inl same ↦
          let is : p ≡ q = pid_eq-is p q same in
          let x = c.left i t z was between (about ∙ ap Of (sym is)) st in
          subst (λ (r : Pid). OneStands w placed after r i t) is (λ due. absurd (false≢true (sym x.0 ∙ due)), λ off. x.1)
      | inr apart ↦
          let g = c.came i t z was between st in
          let cargo = cargo_same l placed q (c.residents q apart) (c.notes q apart) in
          one_keeps v w l placed before after q i t (known_due v w q i t (λ n. c.known n q apart)) (λ due x. token_same v w l placed before after q i t cargo (c.asked q apart) (λ n. c.records n q apart) x (g.1 ∙ x.is))
          (λ off x. left_keeps l placed q i x (λ asks. cargo) (g.1 ∙ x.is)) (h q i t g.0.0 was between about g.0.1)
    ]

-- what was told stays
pub own_stays : (v w : View) (l : Placed) → w.told ≡ v.told → AllOwnStand v l → AllOwnStand w l
own_stays v w l e h i x there own = let g = h i x there own in record { told = ap (λ (f : MsgId → Option Told). f i) e ∙ g.told; mine = g.mine; sender = g.sender }
