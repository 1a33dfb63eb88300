-- The world stands for a point but for what the kernel with places mirrors and the kernels' own messages carry; and so it does
-- with more messages and other addresses.
use Rattle.dm_law_mirror.proofs.Names.{◌≡◌, ℕ, ◌≤◌, Bool, true, false, [], refl, ap, ◌∙◌, sym, subst, inl, inr, arith, if◌then◌else◌, Option, None, Some, cases_Bool, false≢true, Pid, Message, MsgId, MessageKind, id_eq, kind_of, plain_kind}
use Rattle.dm_law_mirror.proofs.Names.{nat_tests, plain_message, incoming_of, Boot, bind, id_eq-is, id_eq-same, first_gives, own_given, is_between, Point, Spot, standing, Of, Told, View, after_put, first_told, is_kernels, put_at, put_spots}
use Rattle.dm_law_mirror.proofs.Names.{PairsFit, put_told_off, Sane, plain_not, Placed, Mirrors, KeepsPlaces, lines_keep, routed_keeps, told_keeps, own_put_mirrors, WorldState, AllOwnStand, OwnStands, told_of, History, StandsWith, AllRecords}
use Rattle.dm_law_mirror.proofs.Names.{Carries, TokensStand, destination_of, first_none, length, ◌⊎◌, at_machine, is_full, routes, Acted, Goes, Worn, spoken, Line, Load, Stage, OneKernel, Addresses, given, moved, at_id, About, sort_of, ◌≢◌}
use Rattle.dm_law_mirror.proofs.Names.{◌<◌, List, ◌∷◌, map, drop, slice_get, Record, Departure, Arrival, KernelState, room_of, NodeState, Known, Unknown, Here, Frozen, Incoming, Forward, AreMessages, ComesStand, HereStands}
use Rattle.dm_law_mirror.proofs.Names.{KernelStands, KnownStands, LeavesStand, NodeStands, PairStands, RoomStands, Resident, Managing, resident_at, CanBeCarried, IsSuch, cargo_at}
use Rattle.dm_law_places.specs.PlacedStep.{with_message}
pub use Rattle.dm_law_always.proofs.Based.Queues.{told_kept as told_stays}
use Rattle.dm_law_mirror.proofs.Turning.{Route, First, On, Own, MayOwn, MayPut, IsCarried, message_of, rule_part_of, Late, Nothing, Leaves, LateTopic, late_point}
use Rattle.dm_law_mirror.proofs.Join.{IsPlain, line_put, plain_of, put_point, lines_put, put_end}
use Rattle.dm_kernel.specs.State as machine
use Rattle.dm_onekernel.specs.Step as kernel
use Rattle.dm_law_mirror.proofs.Rooms.{taken_same}
use Rattle.dm_law_rule.specs.Parts as rule
use Rattle.dm_law_mirror.proofs.Turning as turning
use Rattle.dm_resident.specs.Residents as residents
use Rattle.dm_law_mirror.proofs.Residents.{resident_same}
use Rattle.dm_law_mirror.proofs.Cargoes.{cargo_same}
use Rattle.dm_law_mirror.proofs.Turning.{IsLeftOver}
use Rattle.dm_law_mirror.proofs.LeftOver.{OneStands, cargo_named, known_due, left_keeps, left_of, one_keeps, over_piece, token_same}

pub record CoreStands (b : Boot) (w : WorldState) (pt : Point) (l : Placed) (h : History) : Type 0 where
  pub groups : w.groups ≡ pt.view.groups
  pub ended : (p : Pid) → w.ended p ≡ kernel.why_ended (pt.kernel.processes p)
  pub nodes : (m : ℕ) → m < pt.kernel.machines → NodeStands b pt l m (w.nodes m)
  pub pairs : (a c : ℕ) → a < pt.kernel.machines → c < pt.kernel.machines → a ≢ c → PairStands b pt l w h a c
  pub counts : (a c : ℕ) → length (pt.view.pair a c).ids ≤ b.numbers

pub core_of : (b : Boot) (w : WorldState) (pt : Point) (l : Placed) (h : History) → StandsWith b w pt l h → CoreStands b w pt l h
core_of b w pt l h s = record { groups = s.groups; ended = s.ended; nodes = s.nodes; pairs = s.pairs; counts = s.counts }

-- the messages stay, and there may be more
pub record MoreBag (l u : Placed) : Type 0 where
  pub bag : (i : MsgId) (x : Message) → l.bag i ≡ Some x → u.bag i ≡ Some x
  pub processes : (p : Pid) → u.processes p ≡ l.processes p
  pub notes : (p : Pid) → u.notes p ≡ l.notes p
  pub board : u.board ≡ l.board
  pub manager : u.manager ≡ l.manager

messages_more : (f g : MsgId → Option Message) → ((i : MsgId) (x : Message) → f i ≡ Some x → g i ≡ Some x) → (ids : List MsgId) (xs : List Message) → AreMessages f ids xs → AreMessages g ids xs
messages_more f g more [] [] e = refl
messages_more f g more [] (x ∷ xs) e = cc
messages_more f g more (i ∷ is) [] e = cc
messages_more f g more (i ∷ is) (x ∷ xs) e =
    let first : f i ≡ Some x = cc in
    let rest : map f is ≡ map Some xs = cc in
    λ k. more i x first k ∷ messages_more f g more is xs rest k

module _ (b : Boot) (pt : Point) (l u : Placed) (a : Addresses) (e : MoreBag l u) where
  abbrev next : Point
  next = record pt { addresses = a }

  same_resident : (p : Pid) → resident_at u p ≡ resident_at l p
  same_resident p = resident_same l u p (e.processes p) e.board e.manager

  here_more : (p : Pid) (queue : List MsgId) (x : Resident) → HereStands l p queue x → HereStands u p queue x
  here_more p queue x h = ((h.0.0, same_resident p ∙ h.0.1), messages_more l.bag u.bag e.bag queue (residents.queue_of x) h.1)

  leaves_more : (p : Pid) (queue held : List MsgId) (to : ℕ) (d : Departure) → LeavesStand l p queue held to d → LeavesStand u p queue held to d
  leaves_more p queue held to d h =
      record { to = h.to; cargo = cargo_same l u p (same_resident p) (e.notes p) ∙ h.cargo; here = here_more p queue d.resident h.here; held = messages_more l.bag u.bag e.bag held d.held h.held; whole = h.whole }

  comes_more : (p : Pid) (from : ℕ) (held : List MsgId) (x : Arrival) → ComesStand l p from held x → ComesStand u p from held x
  comes_more p from held x h = record {
    source = h.source;
    cargo = h.cargo;
    there = cargo_same l u p (same_resident p) (e.notes p) ∙ h.there;
    whole = subst (λ (g : Managing). IsSuch (CanBeCarried x.cap g.machines g.images) (resident_at u p)) (sym e.manager)
        (subst (IsSuch (CanBeCarried x.cap l.manager.machines l.manager.images)) (sym (same_resident p)) h.whole);
    pieces = h.pieces;
    held = messages_more l.bag u.bag e.bag held x.held h.held;
  }

  known_more : (p : Pid) (queue held : List MsgId) (k : Known) (r : Option machine.KernelKnown) → KnownStands l p queue held k r → KnownStands u p queue held k r
  known_more p queue held Unknown None h = h
  known_more p queue held Here (Some (Record.Here x)) h = here_more p queue x h
  known_more p queue held (Frozen to) (Some (Record.Frozen d)) h = leaves_more p queue held to d h
  known_more p queue held (Incoming from) (Some (Record.Incoming x)) h = comes_more p from held x h
  known_more p queue held (Forward to moves) (Some (Record.Forward at n)) h = h
  known_more p queue held k r h = h

  kernel_more : (m : ℕ) (k : KernelState) → KernelStands b pt l m k → KernelStands b next u m k
  kernel_more m k h = search (
    known_more,
    h.known,
    messages_more l.bag u.bag e.bag (pt.view.inbox m) k.inbox h.inbox,
    subst (RoomStands k.room (room_of (slice_get b.machines m))) (sym (taken_same pt next m refl (λ n. refl) (λ p. refl))) h.room,
  )

  node_more : (m : ℕ) (n : NodeState) → NodeStands b pt l m n → NodeStands b next u m n
  node_more m n h = record { kernel = kernel_more m n.kernel h.kernel; lawful = h.lawful; machines = h.machines; numbers = h.numbers; home = h.home }

  pair_more : (w : WorldState) (h : History) (c d : ℕ) → PairStands b pt l w h c d → PairStands b next u w h c d
  pair_more w h c d s = search
      (messages_more l.bag u.bag e.bag (drop (pt.view.pair c d).taken (pt.view.pair c d).ids) (drop (pt.view.pair c d).taken (h.given c d)) s.untaken)

  pub core_more : (w : WorldState) (h : History) → CoreStands b w pt l h → CoreStands b w next u h
  core_more w h s = search (node_more, s.nodes, pair_more, s.pairs)

-- Behind the put of a message that is routed: what the kernel with places mirrors, and what the kernels' own messages carry.

-- the kernel with places behind it
abbrev pub after_route : Placed → Route → Placed
after_route l (Own x) = with_message l x.id (Some x)
after_route l _ = l

bag_here : (l : Placed) (x : Message) → (with_message l x.id (Some x)).bag x.id ≡ Some x
bag_here l x = ap (λ (c : Bool). if c then Some x else l.bag x.id) (id_eq-same x.id)

bag_off : (l : Placed) (x : Message) (i : MsgId) → id_eq x.id i ≡ false → (with_message l x.id (Some x)).bag i ≡ l.bag i
bag_off l x i e = ap (λ (c : Bool). if c then Some x else l.bag i) e

pub route_more : (pt : Point) (l : Placed) (records : AllRecords) (r : Route) → MayPut pt l records 0 r → MoreBag l (after_route l r)
route_more pt l records (Own x) may =
    record { bag = λ i y e. grind (arith, nat_tests, id_eq-is, bag_off, may.bag); processes = λ p. refl; notes = λ p. refl; board = refl; manager = refl }
route_more pt l records _ may = record { bag = λ i x e. e; processes = λ p. refl; notes = λ p. refl; board = refl; manager = refl }

pub route_there : (pt : Point) (l : Placed) (records : AllRecords) (r : Route) → MayPut pt l records 0 r → (after_route l r).bag (message_of r).id ≡ Some (message_of r)
route_there pt l records r may = grind (arith, nat_tests, bag_here)

-- a message that isn't the kernel's own gets no addresses
pub route_keeps : (pt : Point) (l : Placed) (records : AllRecords) (m : ℕ) (r : Route) → turning.is_own r ≡ 0 → MayPut pt l records 0 r → Mirrors pt.kernel pt.view pt.addresses l → KeepsPlaces pt (line_put m (message_of r).to.at (message_of r))
route_keeps pt l records m (First x) none may h =
    let p : IsPlain (pt.kernel.bag x.id) x = plain_of pt l x h may.0 may.1 in
    subst (λ (k : MessageKind). first_gives (pt.view.told x.id) (own_given pt.kernel pt.view pt.addresses x.id x.to.pid (sort_of k)) ≡ []) p.kind (subst (λ (q : Pid). first_gives (pt.view.told x.id) (own_given pt.kernel pt.view pt.addresses x.id q (sort_of (plain_kind p.m.what))) ≡ []) p.to (routed_keeps pt m x.to.at x.id p.m))
route_keeps pt l records m (On x) none may h = told_keeps pt m x.to.at x.id (kind_of x.what) x.to.pid may.1.0 may.1.1
route_keeps pt l records m (Own x) none may h = absurd (omega (arith, none))

-- the kernel with places mirrors the point behind the put
pub route_mirrors : (pt : Point) (l : Placed) (records : AllRecords) (m : ℕ) (r : Route) → MayPut pt l records 0 r → Mirrors pt.kernel pt.view pt.addresses l
    → Mirrors (put_point pt m (message_of r).to.at (message_of r)).kernel (put_point pt m (message_of r).to.at (message_of r)).view (put_point pt m (message_of r).to.at (message_of r)).addresses (after_route l r)
route_mirrors pt l records m (First x) may h = lines_keep pt (put_point pt m x.to.at x) l (line_put m x.to.at x) (route_keeps pt l records m (First x) refl may h) h refl
route_mirrors pt l records m (On x) may h = lines_keep pt (put_point pt m x.to.at x) l (line_put m x.to.at x) (route_keeps pt l records m (On x) refl may h) h refl
route_mirrors pt l records m (Own x) may h =
    own_put_mirrors pt l m x.to.at (kind_of x.what) x.to.pid x h may.plain may.encloses (sym (h.plain.bag x.id) ∙ ap (λ (o : Option Message). bind o plain_message) may.bag) may.untold may.receiver may.sender

-- what is told of the next own message is what it is
pub own_told : (pt : Point) (l : Placed) (records : AllRecords) (m : ℕ) (x : Message) → MayOwn pt l records 0 x → (after_put pt.view m x.to.at x.id (kind_of x.what) x.to.pid).told x.id ≡ Some (told_of x)
own_told pt l records m x may = grind (arith, nat_tests, put_at, first_none)

own_kept : (v u : View) (i : MsgId) (y : Message) → ((t : Told) → v.told i ≡ Some t → u.told i ≡ Some t) → OwnStands v i y → OwnStands u i y
own_kept v u i y told k = record { told = told (told_of y) k.told; mine = k.mine; sender = k.sender }

-- the kernels' own messages were told as what they are
pub route_own : (pt : Point) (l : Placed) (records : AllRecords) (m : ℕ) (r : Route) → MayPut pt l records 0 r → AllOwnStand pt.view l → AllOwnStand (put_point pt m (message_of r).to.at (message_of r)).view (after_route l r)
route_own pt l records m (First x) may h i y there plain =
    own_kept pt.view (after_put pt.view m x.to.at x.id (kind_of x.what) x.to.pid) i y (λ t. told_stays pt.view m x.to.at x.id (kind_of x.what) x.to.pid i t) (h i y there plain)
route_own pt l records m (On x) may h i y there plain =
    own_kept pt.view (after_put pt.view m x.to.at x.id (kind_of x.what) x.to.pid) i y (λ t. told_stays pt.view m x.to.at x.id (kind_of x.what) x.to.pid i t) (h i y there plain)
route_own pt l records m (Own x) may h i y there plain = elim (cases_Bool (id_eq x.id i)) [
  | inl same ↦
      let is : x.id ≡ i = id_eq-is x.id i same in
      let f : Some x ≡ Some y = sym (bag_here l x) ∙ ap (with_message l x.id (Some x)).bag is ∙ there in
      let g : x ≡ y = cc in
      subst (λ (j : MsgId). OwnStands (after_put pt.view m x.to.at x.id (kind_of x.what) x.to.pid) j y) is
      (subst (λ (z : Message). OwnStands (after_put pt.view m x.to.at x.id (kind_of x.what) x.to.pid) x.id z) g (record { told = own_told pt l records m x may; mine = ap is_kernels may.id; sender = may.asker }))
  | inr apart ↦
      own_kept pt.view (after_put pt.view m x.to.at x.id (kind_of x.what) x.to.pid) i y (λ t. told_stays pt.view m x.to.at x.id (kind_of x.what) x.to.pid i t) (h i y (sym (bag_off l x i apart) ∙ there) plain)
]

-- what a message of a migration carries stays
pub token_kept : (v u : View) (l k : Placed) (r s : AllRecords) (p : Pid) (i : MsgId) (t : Told) → MoreBag l k → ((n : ℕ) → u.known n p ≡ v.known n p) → u.asked p ≡ v.asked p → ((d : ℕ) → s d ≡ r d) → OneStands v l r p i t → OneStands u k s p i t
token_kept v u l k r s p i t more known asked records h =
    let cargo = cargo_same l k p (resident_same l k p (more.processes p) more.board more.manager) (more.notes p) in
    one_keeps v u l k r s p i t (known_due v u p i t known)
    (λ due x. token_same v u l k r s p i t cargo asked (λ n. ap (λ (f : Pid → Option machine.KernelKnown). f p) (records n)) x (more.bag i x.message x.is))
    (λ off x. left_keeps l k p i x (λ asks. cargo) (more.bag i x.message x.is)) h

first_kind : (o : Option Told) (u t : Told) → Some (first_told o u) ≡ Some t → is_between u.kind ≡ false → ((s : Told) → o ≡ Some s → is_between s.kind ≡ false) → is_between t.kind ≡ false
first_kind o u t e new old = grind (arith, nat_tests)

module _ (pt : Point) (l : Placed) (r s : AllRecords) (m : ℕ) (route : Route) (may : MayPut pt l r 0 route) (records : (d : ℕ) → s d ≡ r d) where
  abbrev x : Message
  x = message_of route

  abbrev behind : View
  behind = after_put pt.view m x.to.at x.id (kind_of x.what) x.to.pid

  -- another one than the message that is put
  other_token : PairsFit pt.view → TokensStand pt.view l r → (p : Pid) (i : MsgId) (t : Told) (z : Spot) → id_eq x.id i ≡ false → behind.told i ≡ Some t → is_between t.kind ≡ true → t.about ≡ Of p → 1 ≤ standing behind i z
      → OneStands behind (after_route l route) s p i t
  other_token fits h p i t z apart told between about st =
      token_kept pt.view behind l (after_route l route) r s p i t (route_more pt l r route may) (λ n. refl) refl records
      (h p i t z (sym (put_told_off pt.view m x.to.at x.id i (kind_of x.what) x.to.pid apart) ∙ told) between about
      (subst (λ (n : ℕ). 1 ≤ n) (put_spots pt.view m x.to.at x.id i (kind_of x.what) x.to.pid fits apart z) st))

  -- where the message itself is none of a migration, or carries what it is to
  tokens_by : PairsFit pt.view → TokensStand pt.view l r → ((p : Pid) (t : Told) → behind.told x.id ≡ Some t → is_between t.kind ≡ true → t.about ≡ Of p → OneStands behind (after_route l route) s p x.id t) → TokensStand behind (after_route l route) s
  tokens_by fits h itself p i t z told between about st = elim (cases_Bool (id_eq x.id i)) [
    | inl same ↦
        let is : x.id ≡ i = id_eq-is x.id i same in
        subst (λ (j : MsgId). OneStands behind (after_route l route) s p j t) is (itself p t (ap behind.told is ∙ told) between about)
    | inr apart ↦ other_token fits h p i t z apart told between about st
  ]

-- the next own message: due, or left over
own_carried : (pt : Point) (l : Placed) (r s : AllRecords) (m : ℕ) (x : Message) (p : Pid) → ((d : ℕ) → s d ≡ r d) → Mirrors pt.kernel pt.view pt.addresses l → IsCarried l (pt.view.asked p) r p x ⊎ IsLeftOver pt.view l p x
    → OneStands (after_put pt.view m x.to.at x.id (kind_of x.what) x.to.pid) (with_message l x.id (Some x)) s p x.id (told_of x)
own_carried pt l r s m x p records mirrors (inl c) =
    let v = after_put pt.view m x.to.at x.id (kind_of x.what) x.to.pid in
    let carries : Carries p c.cargo (pt.view.asked p) (incoming_of (s (destination_of x.id (told_of x)) p)) x.what =
    subst (λ (f : Pid → Option machine.KernelKnown). Carries p c.cargo (pt.view.asked p) (incoming_of (f p)) x.what) (sym (records (destination_of x.id (told_of x)))) c.carries in (
      λ due. record { cargo = c.cargo; there = c.there; message = x; is = bag_here l x; sender = c.sender; carries = carries },
      λ off. record {
        message = x;
        is = bag_here l x;
        sender = c.sender;
        carries = left_of p c.cargo (pt.view.asked p) (incoming_of (s (destination_of x.id (told_of x)) p)) (cargo_at l p) x.what (cargo_named pt l p c.cargo mirrors c.there) c.there (over_piece v p x.id (told_of x) off).0 carries;
      },
    )
own_carried pt l r s m x p records mirrors (inr c) = (
  λ due. absurd (false≢true (sym c.over ∙ due)),
  λ off. record { message = x; is = bag_here l x; sender = c.sender; carries = c.carries },
)

pub route_tokens : (pt : Point) (l : Placed) (r s : AllRecords) (m : ℕ) (route : Route) → MayPut pt l r 0 route → ((d : ℕ) → s d ≡ r d) → Sane pt → PairsFit pt.view → Mirrors pt.kernel pt.view pt.addresses l → TokensStand pt.view l r
    → TokensStand (put_point pt m (message_of route).to.at (message_of route)).view (after_route l route) s
route_tokens pt l r s m (First x) may records sane fits mirrors h =
    let p : IsPlain (pt.kernel.bag x.id) x = plain_of pt l x mirrors may.0 may.1 in
    let new : is_between (kind_of x.what) ≡ false = ap is_between (sym p.kind) ∙ plain_not p.m.what in
    tokens_by pt l r s m (First x) may records fits h (λ q t told between about.
    absurd (false≢true (sym (first_kind (pt.view.told x.id) (record { kind = kind_of x.what; receiver = x.to.pid; about = pt.view.topic }) t (sym (put_at pt.view m x.to.at x.id (kind_of x.what) x.to.pid) ∙ told) new
    (λ u was. ap is_between (sane.tells.kind x.id p.m u p.there was) ∙ plain_not p.m.what)) ∙ between)))
route_tokens pt l r s m (On x) may records sane fits mirrors h =
    tokens_by pt l r s m (On x) may records fits h (λ q t told between about.
    let is : may.1.0 ≡ t = cc (told_stays pt.view m x.to.at x.id (kind_of x.what) x.to.pid x.id may.1.0 may.1.1) in
    absurd (false≢true (sym may.2 ∙ ap is_between (sym may.1.2) ∙ ap (λ (z : Told). is_between z.kind) is ∙ between)))
route_tokens pt l r s m (Own x) may records sane fits mirrors h =
    tokens_by pt l r s m (Own x) may records fits h (λ p t told between about.
    let is : told_of x ≡ t = cc (own_told pt l r m x may) in
    subst (λ (z : Told). OneStands (after_put pt.view m x.to.at x.id (kind_of x.what) x.to.pid) (with_message l x.id (Some x)) s p x.id z) is
    (own_carried pt l r s m x p records mirrors (may.carried (ap (λ (z : Told). is_between z.kind) is ∙ between) p (ap (λ (z : Told). z.about) is ∙ about))))

-- the world stands for the point behind the put
pub stands_routed : (b : Boot) (pt : Point) (l : Placed) (r : AllRecords) (m : ℕ) (route : Route) (w : WorldState) (h : History) → MayPut pt l r 0 route → ((d : ℕ) → (w.nodes d).kernel.records ≡ r d) → Sane pt → PairsFit pt.view → Mirrors pt.kernel pt.view pt.addresses l
    → AllOwnStand pt.view l → TokensStand pt.view l r → CoreStands b w (put_point pt m (message_of route).to.at (message_of route)) (after_route l route) h → StandsWith b w (put_point pt m (message_of route).to.at (message_of route)) (after_route l route) h
stands_routed b pt l r m route w h may records sane fits mirrors own tokens core = search (
  route_mirrors pt l r m route may mirrors,
  route_own pt l r m route may own,
  route_tokens pt l r (λ d. (w.nodes d).kernel.records) m route may records sane fits mirrors tokens,
)

-- What a message that is routed comes to: the machine and the rule do the same, or both stop where the pair is full.

-- the world after machine m has acted, but for the count of directives
abbrev pub with_acted : WorldState → ℕ → Acted → WorldState
with_acted w m d = record { nodes = at_machine w.nodes m d.state; wires = (spoken w.wires d.outs).wires; ended = w.ended; groups = w.groups }

-- it goes
pub record RouteOn (b : Boot) (w : WorldState) (pt : Point) (l : Placed) (m : ℕ) (r : Route) : Type 0 where
  pub acted : Acted
  pub goes : routes (w.nodes m) (message_of r) ≡ Goes acted
  -- it is to this machine, or goes out at once
  pub home : Bool
  pub out : Bool
  pub part : rule.lines_of pt (rule_part_of r) ≡ Some (lines_put pt m (message_of r).to.at (message_of r) home out)
  pub spoken : (spoken w.wires acted.outs).lines ≡ lines_put pt m (message_of r).to.at (message_of r) home out
  pub room : is_full b.numbers pt.view m (message_of r).to.at ≡ false
  pub history : History
  pub stands : StandsWith b (with_acted w m acted) (put_end pt m (message_of r).to.at (message_of r) home out) (after_route l r) history
  pub records : acted.state.kernel.records ≡ (w.nodes m).kernel.records
  pub sent : acted.state.kernel.sent ≡ (w.nodes m).kernel.sent

-- the pair is full
pub record RouteWorn (b : Boot) (w : WorldState) (pt : Point) (m : ℕ) (r : Route) : Type 0 where
  pub from : ℕ
  pub to : ℕ
  pub worn : routes (w.nodes m) (message_of r) ≡ Worn from to
  pub home : Bool
  pub out : Bool
  pub part : rule.lines_of pt (rule_part_of r) ≡ Some (lines_put pt m (message_of r).to.at (message_of r) home out)
  pub from_is : from ≡ m
  pub to_is : to ≡ (message_of r).to.at
  pub full : b.numbers ≤ length (pt.view.pair m (message_of r).to.at).ids

abbrev pub RouteGoes : Boot → WorldState → Point → Placed → ℕ → Route → Type 0
RouteGoes b w pt l m r = RouteOn b w pt l m r ⊎ RouteWorn b w pt m r

-- The line of a process that leaves, said before the messages that go on are routed: their lines are the same, and lead to the
-- same.

-- the parts have the same lines
pub late_part : (q : Point) (late : Late) (r : Route) → rule.lines_of (late_point q late) (rule_part_of r) ≡ rule.lines_of q (rule_part_of r)
late_part q late r = grind (arith, nat_tests)

pub late_lines : (q : Point) (late : Late) (m c : ℕ) (x : Message) (home out : Bool) → lines_put (late_point q late) m c x home out ≡ lines_put q m c x home out
late_lines q late m c x home out = grind (arith, nat_tests)

pub late_pair : (q : Point) (late : Late) → (late_point q late).view.pair ≡ q.view.pair
late_pair q late = grind (arith, nat_tests)

pub own_gives_same : (s : OneKernel) (v u : View) (a : Addresses) (id : MsgId) (q : Pid) (k : MessageKind) → u.acting ≡ v.acting → u.moves ≡ v.moves → own_given s u a id q (sort_of k) ≡ own_given s v a id q (sort_of k)
own_gives_same s v u a id q k e f = grind (arith, nat_tests)

-- a put, where the message is told to be about this
abbrev put_about : Point → ℕ → ℕ → Message → About → Addresses → Point
put_about q m c x a places = record {
  kernel = q.kernel;
  view = record (after_put q.view m c x.id (kind_of x.what) x.to.pid) { told = at_id q.view.told x.id (Some (first_told (q.view.told x.id) (record { kind = kind_of x.what; receiver = x.to.pid; about = a }))) };
  addresses = places;
}

left_gives : (q : Point) (p : Pid) (x : Message) → own_given q.kernel (moved q (Line.Migration Stage.Left p) q.kernel).view q.addresses x.id x.to.pid (sort_of (kind_of x.what)) ≡ own_given q.kernel q.view q.addresses x.id x.to.pid (sort_of (kind_of x.what))
left_gives q p x = own_gives_same q.kernel q.view (moved q (Line.Migration Stage.Left p) q.kernel).view q.addresses x.id x.to.pid (kind_of x.what) refl refl

left_put : (q : Point) (p : Pid) (m c : ℕ) (x : Message) → q.view.topic ≡ Of p → put_point (moved q (Line.Migration Stage.Left p) q.kernel) m c x ≡ moved (put_point q m c x) (Line.Migration Stage.Left p) q.kernel
left_put q p m c x e = λ i. moved (put_about q m c x (sym e i) (given q.addresses (first_gives (q.view.told x.id) (left_gives q p x i)))) (Line.Migration Stage.Left p) q.kernel

pub late_end : (q : Point) (late : Late) (m c : ℕ) (x : Message) (home out : Bool) → LateTopic q late → put_end (late_point q late) m c x home out ≡ late_point (put_end q m c x home out) late
late_end q Nothing m c x home out e = refl
late_end q (Leaves p y) m c x true out e = left_put q p m c x e
late_end q (Leaves p y) m c x false false e = left_put q p m c x e
late_end q (Leaves p y) m c x false true e = λ i. moved (left_put q p m c x e i) (Line.Packet m c (length (q.view.pair m c).wire) (Load.Data (length (q.view.pair m c).ids))) q.kernel

pub late_topic : (q : Point) (late : Late) (m c : ℕ) (x : Message) (home out : Bool) → LateTopic q late → LateTopic (put_end q m c x home out) late
late_topic q late m c x home out e = grind (arith, nat_tests)
