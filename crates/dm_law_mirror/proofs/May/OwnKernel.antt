-- A kernel's own message at the front of another kernel's inbox is one that this kernel can handle: a process is leaving or
-- coming, and the message carries what is asked for.
use Rattle.dm_law_mirror.proofs.Names.{◌≡◌, ℕ, ◌/◌, ◌≤◌, ◌==◌, ◌&&◌, not, Bool, true, false, length, refl, ap, ◌∙◌, sym, subst, arith, if◌then◌else◌, length-map, Option, Some, false≢true, All-nil, Pid, Message, MsgId, What, MessageKind, Record}
use Rattle.dm_law_mirror.proofs.Names.{kind_of, IsLawfulMessage, Process, frozen_of, incoming_of, Arrival, CanMove, Departure, Resident, resident_at, IsValid, restarted, nat_le, HasTaken, HasBlock, HasChunk, state_of, Boot, Moves, kind_comes, is_away, is_between}
use Rattle.dm_law_mirror.proofs.Names.{is_early, tells_onward, is_restart, kind_leaves, receiver_in, sender_in, Point, Inbox, standing, Known, Frozen, Incoming, Of, Told, token_at, Run, Placed, IsSuch, KernelState, about_of}
use Rattle.dm_law_mirror.proofs.Names.{ComesStand, KernelStands, LeavesStand, Carries, TokensStand, Wants, destination_of, eq_self, apart_is, inbox_is, ◌<◌, [], IsSome, Chunk, Block, Nothing, IsNextPiece, block_of, chunk_of, coming}
use Rattle.dm_law_mirror.proofs.Names.{by_pieces, takes_room, own_sort, Mirrors, FitsKernel, MayLeave, MayRestart, MadeStands, nat_tests, Asker, sort_of, List, Cargo, CanBeCarried, cargo_at, cargo_of, ask_for, IsIn, cases_Bool, inl, inr}
use Rattle.dm_law_mirror.proofs.Names.{LeftCarries, is_due_piece, is_expected, pulls_piece, is_calloff, is_waited_from, ◌+◌}
use Rattle.dm_resident.specs.Residents as residents
use Rattle.dm_resident.specs.Lawful.{IsLawfulResident}
use Rattle.dm_migrate.specs.Rooms.{HasTakenBy}
use Rattle.dm_migrate.specs.Answer.{IsAskToCome}
use Rattle.dm_law_mirror.proofs.Residents.{OfBoard, OfManager, OfProcess, blocks_queue, moved_queue, process_there, who}
use Rattle.dm_law_mirror.proofs.May.Own.{OwnFront, has_taken, life_is}
use Rattle.dm_law_mirror.proofs.Recorded.{recorded}
use Rattle.dm_law_mirror.proofs.Counts.Pairs.{CountsFew}
use Rattle.dm_law_mirror.proofs.Cargoes.{same_cargo, is_cargo_of, cargo_comes, comes_again}
use Rattle.dm_law_mirror.proofs.LeftOver.{due_of, over_of, pulled_here}
use Rattle.dm_law_mirror.proofs.Recorded.{expected_waits}

-- what source and destination know of a process whose message comes here
pub record IsMoved (pt : Point) (m : ℕ) (p : Pid) (k : MessageKind) : Type 0 where
  pub s : ℕ
  pub d : ℕ
  pub source : kind_leaves k d (pt.view.known s p) ≡ true
  pub destination : kind_comes k s (pt.view.known d p) ≡ true
  pub here : m ≡ receiver_in k s d

source_knows : (k : MessageKind) (s d : ℕ) (n : Known) → (if s == s then kind_leaves k d n else if d == s then kind_comes k s n else is_away n) ≡ true → kind_leaves k d n ≡ true
source_knows k s d n e = sym (ap (λ (c : Bool). if c then kind_leaves k d n else if d == s then kind_comes k s n else is_away n) (eq_self s)) ∙ e

destination_knows : (k : MessageKind) (s d : ℕ) (n : Known) → (s == d) ≡ false → (if s == d then kind_leaves k d n else if d == d then kind_comes k s n else is_away n) ≡ true → kind_comes k s n ≡ true
destination_knows k s d n off e = grind (arith, nat_tests, eq_self)

pub is_moved : (b : Boot) (pt : Point) (m : ℕ) (i : MsgId) (t : Told) (p : Pid) → Run b pt → pt.view.told i ≡ Some t → is_between t.kind ≡ true → t.about ≡ Of p → 1 ≤ standing pt.view i (Inbox m) → is_due_piece pt.view p i t ≡ true → IsMoved pt m p t.kind
is_moved b pt m i t p run told between about first due =
    let v = pt.view in
    let h = run.based.phased.phases in
    let u = due_of v h p i t (Inbox m) told between about first due in
    let k = u.kind in
    let s = u.s in
    let d = u.d in
    let inside : IsIn v p (Moves k s d (Some i)) = subst (IsIn v p) u.phase (h.each p) in
    let token = token_at v p (h.of p) k s d i u.phase (h.each p) in
    let is : IsMoved pt m p k = record {
      s = s;
      d = d;
      source = source_knows k s d (v.known s p) (inside.known s);
      destination = destination_knows k s d (v.known d p) (apart_is (is_between k) s d inside.apart) (inside.known d);
      here = inbox_is m (sender_in k s d) (receiver_in k s d) (token.ways (Inbox m) first);
    } in
    subst (λ (j : MessageKind). IsMoved pt m p j) (sym u.kind_is) is

-- the source holds the process until it may restart, and the destination expects it once it has accepted
pub frozen_at : (k : MessageKind) (d : ℕ) (n : Known) → kind_leaves k d n ≡ true → is_restart k ≡ false → (to : ℕ) × (n ≡ Frozen to)
frozen_at k d n e r = grind (arith, nat_tests)

-- what its machine has of it
pub record Leaves (pt : Point) (l : Placed) (n : ℕ) (k : KernelState) (p : Pid) : Type 0 where
  pub to : ℕ
  pub known : pt.view.known n p ≡ Frozen to
  pub departure : Departure
  pub is : k.records p ≡ Some (Record.Frozen departure)
  pub stands : LeavesStand l p (pt.view.queue n p) (pt.view.held n p) to departure

pub leaves_at : (b : Boot) (pt : Point) (l : Placed) (n : ℕ) (k : KernelState) (p : Pid) (to : ℕ) → Run b pt → KernelStands b pt l n k → pt.view.known n p ≡ Frozen to → Leaves pt l n k p
leaves_at b pt l n k p to run h known =
    let (d, is, stands) = recorded b pt l n k p (Frozen to) h known in
    record { to = to; known = known; departure = d; is = is; stands = stands }

pub record Comes (pt : Point) (l : Placed) (n : ℕ) (k : KernelState) (p : Pid) : Type 0 where
  pub arrival : Arrival
  pub is : k.records p ≡ Some (Record.Incoming arrival)
  pub from : ℕ
  pub stands : ComesStand l p from (pt.view.held n p) arrival

-- the message of the migration, and what its machines know
pub record IsToken (pt : Point) (l : Placed) (ks : ℕ → KernelState) (m : ℕ) (i : MsgId) (x : Message) (w : What) (p : Pid) : Type 0 where
  pub cargo : Cargo
  pub there : cargo_at l p ≡ Some cargo
  pub carries : Carries p cargo (pt.view.asked p) (incoming_of ((ks (destination_of i (record { kind = kind_of w; receiver = x.to.pid; about = about_of w }))).records p)) w
  pub moved : IsMoved pt m p (kind_of w)

abbrev pub own_told : Message → What → Told
own_told x w = record { kind = kind_of w; receiver = x.to.pid; about = about_of w }

pub token_of : (b : Boot) (pt : Point) (l : Placed) (ks : ℕ → KernelState) (m : ℕ) (i : MsgId) (x : Message) (w : What) (p : Pid) → x.what ≡ w → Run b pt → TokensStand pt.view l (λ n. (ks n).records) → OwnFront pt l m i x → is_between (kind_of w) ≡ true → about_of w ≡ Of p → is_due_piece pt.view p i (own_told x w) ≡ true
    → IsToken pt l ks m i x w p
token_of b pt l ks m i x w p e run tokens f between about due =
    let told : pt.view.told i ≡ Some (own_told x w) = f.told ∙ ap (λ (v : What). Some (own_told x v)) e in
    let t = (tokens p i (own_told x w) (Inbox m) told between about f.first).0 due in
    let same : t.message ≡ x = (let g : Some t.message ≡ Some x = sym t.is ∙ f.there in cc) in
    let what_is : t.message.what ≡ w = ap (λ (v : Message). v.what) same ∙ e in
    search (
      subst (Carries p t.cargo (pt.view.asked p) (incoming_of ((ks (destination_of i (own_told x w))).records p))) what_is t.carries,
      is_moved b pt m i (own_told x w) p run told between about f.first due,
    )

pub frozen_is : (k : KernelState) (p : Pid) (d : Departure) (P : Departure → Type 0) → k.records p ≡ Some (Record.Frozen d) → P d → IsSuch P (frozen_of (k.records p))
frozen_is k p d P is h = subst (IsSuch P) (sym (ap frozen_of is)) h

pub incoming_is : (k : KernelState) (p : Pid) (a : Arrival) (P : Arrival → Type 0) → k.records p ≡ Some (Record.Incoming a) → P a → IsSuch P (incoming_of (k.records p))
incoming_is k p a P is h = subst (IsSuch P) (sym (ap incoming_of is)) h

-- where the process is held back
pub source_leaves : (b : Boot) (pt : Point) (l : Placed) (m : ℕ) (k : KernelState) (p : Pid) (c : MessageKind) → Run b pt → KernelStands b pt l m k → (h : IsMoved pt m p c) → tells_onward (sort_of c) ≡ false → is_restart c ≡ false → Leaves pt l m k p
source_leaves b pt l m k p c run stands h side early =
    let here : m ≡ h.s = h.here ∙ ap (λ (d : Bool). if d then h.d else h.s) side in
    let (to, known) = frozen_at c h.d (pt.view.known h.s p) h.source early in
    leaves_at b pt l m k p to run stands (ap (λ (n : ℕ). pt.view.known n p) here ∙ known)

-- where it comes
pub destination_comes : (b : Boot) (pt : Point) (l : Placed) (m : ℕ) (k : KernelState) (p : Pid) (c : MessageKind) → Run b pt → KernelStands b pt l m k → (h : IsMoved pt m p c) → tells_onward (sort_of c) ≡ true → is_early c ≡ false → is_calloff c ≡ false → Comes pt l m k p
destination_comes b pt l m k p c run stands h side early on =
    let here : m ≡ h.d = h.here ∙ ap (λ (d : Bool). if d then h.d else h.s) side in
    let (from, known) = (let e_ : (from : ℕ) × ((pt.view.known h.d p) ≡ Incoming from) = grind (arith, nat_tests, h.destination) in e_) in
    let comes_at : (b : Boot) (pt : Point) (l : Placed) (n : ℕ) (k : KernelState) (p : Pid) (from : ℕ) → Run b pt → KernelStands b pt l n k → pt.view.known n p ≡ Incoming from → Comes pt l n k p = λ b pt l n k p from run h known.
    let (a, is, stands) = recorded b pt l n k p (Incoming from) h known in
    record { arrival = a; is = is; from = from; stands = stands } in
    comes_at b pt l m k p from run stands (ap (λ (n : ℕ). pt.view.known n p) here ∙ known)

-- it asks to come
pub whole_asks : (r : Resident) (k : Option Asker) → CanMove r → IsAskToCome (ask_for (cargo_of r k))
whole_asks (Resident.Process p) k h =
    let n : ℕ = h.lawful.size.0 in
    let d : length p.memory / 256 ≡ n = omega (arith, h.lawful.size.1) in
    (omega (arith, d, h.lawful.size.3), h.moves)
whole_asks (Resident.Board v) k h = (omega arith, h.moves)
whole_asks (Resident.Manager g) k h = (omega arith, h.moves)

-- what has moved is lawful
pub moved_lawful : (r : Resident) → IsLawfulResident r → IsLawfulResident (residents.moved r)
moved_lawful (Resident.Process p) h = record { home = h.home; registers = h.registers; size = h.size; links = h.links; slots = h.slots; status = h.status; queue = All-nil IsLawfulMessage }
moved_lawful (Resident.Board v) h = h
moved_lawful (Resident.Manager g) h = record { children = h.children; pending = h.pending; board = h.board; machines = h.machines }

-- A kernel's own message at the front of another kernel's inbox, a row a kind.

-- all that stands about the machines' kernels, with a message of a kernel's own at the front of machine m's inbox
pub record Around (b : Boot) (pt : Point) (l : Placed) (ks : ℕ → KernelState) (m : ℕ) (i : MsgId) (x : Message) : Type 0 where
  pub valid : IsValid b
  pub run : Run b pt
  pub made : MadeStands pt.kernel
  pub counts : CountsFew pt
  pub mirrors : Mirrors pt.kernel pt.view pt.addresses l
  pub nodes : (n : ℕ) → n < pt.kernel.machines → KernelStands b pt l n (ks n)
  pub tokens : TokensStand pt.view l (λ n. (ks n).records)
  pub within : m < pt.kernel.machines
  pub front : OwnFront pt l m i x

-- the piece that is asked for
next_chunk : (l : Placed) (p : Pid) (from : ℕ) (held : List MsgId) (c : Cargo) (a : Arrival) (w : What) (n : ℕ) → cargo_at l p ≡ Some c → ComesStand l p from held a → a.wanted ≡ Chunk n → w ≡ chunk_of c.pid c.state n → HasChunk c.state n → IsNextPiece a w
next_chunk l p from held c a w n is h wanted piece there =
    let come : a ≡ coming c a.source a.cap a.held (Chunk n) = h.pieces ∙ (λ i. coming (same_cargo h.cargo c (sym h.there ∙ is) i) a.source a.cap a.held (wanted i)) in
    subst (λ (v : Arrival). IsNextPiece v w) (sym come)
    (subst (IsNextPiece (coming c a.source a.cap a.held (Chunk n))) (sym piece) ((by_pieces c a.source a.cap a.held (cargo_comes (resident_at l p) (l.notes p) c a.cap l.manager.machines l.manager.images is h.whole)).chunk_asked n there))

next_block : (l : Placed) (p : Pid) (from : ℕ) (held : List MsgId) (c : Cargo) (a : Arrival) (w : What) (n : ℕ) → cargo_at l p ≡ Some c → ComesStand l p from held a → a.wanted ≡ Block n → w ≡ block_of c.pid c.memory n → HasBlock c.memory n → IsNextPiece a w
next_block l p from held c a w n is h wanted piece there =
    let come : a ≡ coming c a.source a.cap a.held (Block n) = h.pieces ∙ (λ i. coming (same_cargo h.cargo c (sym h.there ∙ is) i) a.source a.cap a.held (wanted i)) in
    subst (λ (v : Arrival). IsNextPiece v w) (sym come)
    (subst (IsNextPiece (coming c a.source a.cap a.held (Block n))) (sym piece) ((by_pieces c a.source a.cap a.held (cargo_comes (resident_at l p) (l.notes p) c a.cap l.manager.machines l.manager.images is h.whole)).block_asked n there))

-- the machine is the receiver's home
home_is : (b : Boot) (pt : Point) (l : Placed) (ks : ℕ → KernelState) (m : ℕ) (i : MsgId) (x : Message) → Around b pt l ks m i x → (x.to.pid.num == 0) ≡ true → x.to.pid.home ≡ m
home_is b pt l ks m i x h num = sym (h.front.home num)

-- a process stands under no server's name
pub process_placed : (l : Placed) (p : Pid) (x : Process) → resident_at l p ≡ Some (Resident.Process x) → l.processes p ≡ Some x
process_placed l p x there = elim (who p) [
  | OfProcess off ↦
      let (y, is, placed) = process_there l p (Resident.Process x) off there in
      placed ∙ ap Some (let f : Resident.Process x ≡ Resident.Process y = is in let g : y ≡ x = cc in g)
  | OfBoard at_board ↦ absurd (let f : Some (Resident.Board l.board) ≡ Some (Resident.Process x) = subst (λ (q : Pid). resident_at l q ≡ Some (Resident.Process x)) at_board there in cc)
  | OfManager at_manager ↦ absurd (let f : Some (Resident.Manager l.manager) ≡ Some (Resident.Process x) = subst (λ (q : Pid). resident_at l q ≡ Some (Resident.Process x)) at_manager there in cc)
]

-- what a process takes it has taken; a server takes none
pub room_taken : (b : Boot) (pt : Point) (l : Placed) (m : ℕ) (k : KernelState) (p : Pid) (r : Resident) → MadeStands pt.kernel → Mirrors pt.kernel pt.view pt.addresses l → KernelStands b pt l m k → takes_room (pt.view.known m p) ≡ 1 → resident_at l p ≡ Some r
    → (blocks : ℕ) → residents.blocks_of r ≡ blocks → HasTakenBy k.room blocks
room_taken b pt l m k p (Resident.Process x) made mirrors h takes there blocks is some_ =
    let placed : l.processes p ≡ Some x = process_placed l p x there in
    subst (HasTaken k.room) is (has_taken b pt l m k p x made h takes (life_is pt l p x mirrors placed))
room_taken b pt l m k p (Resident.Board v) made mirrors h takes there blocks is some_ = absurd (false≢true (sym some_ ∙ ap (λ (n : ℕ). n == 0) (sym is)))
room_taken b pt l m k p (Resident.Manager g) made mirrors h takes there blocks is some_ = absurd (false≢true (sym some_ ∙ ap (λ (n : ℕ). n == 0) (sym is)))

-- it leaves
leaves_here : (b : Boot) (pt : Point) (l : Placed) (ks : ℕ → KernelState) (m : ℕ) (i : MsgId) (x : Message) (p : Pid) → Around b pt l ks m i x → (d : Leaves pt l m (ks m) p) → MayLeave (ks m).room d.departure
leaves_here b pt l ks m i x p h d =
    let there = d.stands.here.0.1 in
    let queue = sym (length-map (residents.queue_of d.departure.resident) Some) ∙ ap length (sym d.stands.here.1) ∙ length-map (pt.view.queue m p) l.bag in
    let held_ = sym (length-map d.departure.held Some) ∙ ap length (sym d.stands.held) ∙ length-map (pt.view.held m p) l.bag in
    let few = h.counts.waiting m p in
    record {
      room = room_taken b pt l m (ks m) p (residents.with_queue d.stands.here.0.0 d.departure.resident) h.made h.mirrors (h.nodes m h.within) (ap takes_room d.known) there
          (residents.blocks_of d.departure.resident) (blocks_queue d.stands.here.0.0 d.departure.resident);
      few = omega (arith, queue, held_, few);
    }

-- it asks to come, and can move
asks_to_come : (b : Boot) (pt : Point) (l : Placed) (ks : ℕ → KernelState) (m : ℕ) (i : MsgId) (x : Message) (w : What) (p : Pid) → Around b pt l ks m i x → (t : IsToken pt l ks m i x w p) → kind_of w ≡ MessageKind.Ask
    → w ≡ ask_for t.cargo → IsAskToCome w
asks_to_come b pt l ks m i x w p h t is asked =
    let s = t.moved.s in
    let (to, known) = frozen_at (kind_of w) t.moved.d (pt.view.known s p) t.moved.source (ap is_restart is) in
    let within : s < pt.kernel.machines = h.run.found.known_within s p (λ none. (let e_ : ⊥ = cc (sym known ∙ none) in e_)) in
    let d = leaves_at b pt l s (ks s) p to h.run (h.nodes s within) known in
    let same = same_cargo t.cargo (cargo_of d.departure.resident d.departure.asker) (sym t.there ∙ d.stands.cargo) in
    subst IsAskToCome (sym (asked ∙ ap ask_for same)) (whole_asks d.departure.resident d.departure.asker d.stands.whole)

sorted_of : (b : Boot) (pt : Point) (l : Placed) (ks : ℕ → KernelState) (m : ℕ) (i : MsgId) (x : Message) (w : What) → x.what ≡ w → Around b pt l ks m i x → own_sort (kind_of w) x.to.pid (about_of w) ≡ true
sorted_of b pt l ks m i x w e h = ap (λ (v : What). own_sort (kind_of v) x.to.pid (about_of v)) (sym e) ∙ h.front.sort

-- what is left over and asks for a piece: the process is held back here
record IsRest (pt : Point) (l : Placed) (ks : ℕ → KernelState) (m : ℕ) (w : What) (p : Pid) : Type 0 where
  carries : LeftCarries p (cargo_at l p) w
  leaves : Leaves pt l m (ks m) p

left_over : (b : Boot) (pt : Point) (l : Placed) (ks : ℕ → KernelState) (m : ℕ) (i : MsgId) (x : Message) (w : What) (p : Pid) → x.what ≡ w → Around b pt l ks m i x → is_between (kind_of w) ≡ true → about_of w ≡ Of p → pulls_piece (sort_of (kind_of w)) ≡ true → is_due_piece pt.view p i (own_told x w) ≡ false
    → IsRest pt l ks m w p
left_over b pt l ks m i x w p e h between about pulls off =
    let v = pt.view in
    let phases = h.run.based.phased.phases in
    let f = h.front in
    let told : v.told i ≡ Some (own_told x w) = f.told ∙ ap (λ (v : What). Some (own_told x v)) e in
    let y = (h.tokens p i (own_told x w) (Inbox m) told between about f.first).1 off in
    let same : y.message ≡ x = (let g : Some y.message ≡ Some x = sym y.is ∙ f.there in cc) in
    let u = pulled_here v p (phases.of p) i (own_told x w) m (phases.each p) (over_of v phases p i (own_told x w) (Inbox m) told between about f.first off) pulls f.first in
    record { carries = subst (LeftCarries p (cargo_at l p)) (ap (λ (v : Message). v.what) same ∙ e) y.carries; leaves = leaves_at b pt l m (ks m) p u.d h.run (h.nodes m h.within) u.known }

chunk_due : (b : Boot) (pt : Point) (l : Placed) (ks : ℕ → KernelState) (m : ℕ) (i : MsgId) (x : Message) (pid : Pid) (chunk : ℕ) → x.what ≡ What.PullState pid chunk → Around b pt l ks m i x → (x.to.pid.num == 0) ≡ true → (ks m).sent < 4294967295
    → is_due_piece pt.view pid i (own_told x (What.PullState pid chunk)) ≡ true → FitsKernel b (ks m) x (What.PullState pid chunk)
chunk_due b pt l ks m i x pid chunk e h num sent due =
    let t = token_of b pt l ks m i x (What.PullState pid chunk) pid e h.run h.tokens h.front refl refl due in
    let d = source_leaves b pt l m (ks m) pid MessageKind.PullState h.run (h.nodes m h.within) t.moved refl refl in
    let same = same_cargo t.cargo (cargo_of d.departure.resident d.departure.asker) (sym t.there ∙ d.stands.cargo) in
    (frozen_is (ks m) pid d.departure (λ (v : Departure). HasChunk (state_of v.resident) chunk) d.is (subst (λ (v : Cargo). HasChunk v.state chunk) same t.carries.1.1), sent)

chunk_left : (b : Boot) (pt : Point) (l : Placed) (ks : ℕ → KernelState) (m : ℕ) (i : MsgId) (x : Message) (pid : Pid) (chunk : ℕ) → x.what ≡ What.PullState pid chunk → Around b pt l ks m i x → (x.to.pid.num == 0) ≡ true → (ks m).sent < 4294967295
    → is_due_piece pt.view pid i (own_told x (What.PullState pid chunk)) ≡ false → FitsKernel b (ks m) x (What.PullState pid chunk)
chunk_left b pt l ks m i x pid chunk e h num sent off =
    let t = left_over b pt l ks m i x (What.PullState pid chunk) pid e h refl refl refl off in
    let d = t.leaves in
    (frozen_is (ks m) pid d.departure (λ (v : Departure). HasChunk (state_of v.resident) chunk) d.is (subst (IsSuch (λ (v : Cargo). HasChunk v.state chunk)) d.stands.cargo t.carries.1), sent)

block_due : (b : Boot) (pt : Point) (l : Placed) (ks : ℕ → KernelState) (m : ℕ) (i : MsgId) (x : Message) (pid : Pid) (block : ℕ) → x.what ≡ What.PullBlock pid block → Around b pt l ks m i x → (x.to.pid.num == 0) ≡ true → (ks m).sent < 4294967295
    → is_due_piece pt.view pid i (own_told x (What.PullBlock pid block)) ≡ true → FitsKernel b (ks m) x (What.PullBlock pid block)
block_due b pt l ks m i x pid block e h num sent due =
    let t = token_of b pt l ks m i x (What.PullBlock pid block) pid e h.run h.tokens h.front refl refl due in
    let d = source_leaves b pt l m (ks m) pid MessageKind.PullBlock h.run (h.nodes m h.within) t.moved refl refl in
    let same = same_cargo t.cargo (cargo_of d.departure.resident d.departure.asker) (sym t.there ∙ d.stands.cargo) in
    (frozen_is (ks m) pid d.departure (λ (v : Departure). HasBlock (residents.memory_of v.resident) block) d.is (subst (λ (v : Cargo). HasBlock v.memory block) same t.carries.1.1), sent)

block_left : (b : Boot) (pt : Point) (l : Placed) (ks : ℕ → KernelState) (m : ℕ) (i : MsgId) (x : Message) (pid : Pid) (block : ℕ) → x.what ≡ What.PullBlock pid block → Around b pt l ks m i x → (x.to.pid.num == 0) ≡ true → (ks m).sent < 4294967295
    → is_due_piece pt.view pid i (own_told x (What.PullBlock pid block)) ≡ false → FitsKernel b (ks m) x (What.PullBlock pid block)
block_left b pt l ks m i x pid block e h num sent off =
    let t = left_over b pt l ks m i x (What.PullBlock pid block) pid e h refl refl refl off in
    let d = t.leaves in
    (frozen_is (ks m) pid d.departure (λ (v : Departure). HasBlock (residents.memory_of v.resident) block) d.is (subst (IsSuch (λ (v : Cargo). HasBlock v.memory block)) d.stands.cargo t.carries.1), sent)

-- a piece that is awaited is due
awaited_due : (b : Boot) (pt : Point) (l : Placed) (ks : ℕ → KernelState) (m : ℕ) (i : MsgId) (x : Message) (p : Pid) → Around b pt l ks m i x → (x.to.pid.num == 0) ≡ true → is_expected (incoming_of ((ks m).records p)) x.id.from.home ≡ true → is_waited_from i.from.home (pt.view.known x.to.pid.home p) ≡ true
awaited_due b pt l ks m i x p h num expected =
    let waits = expected_waits b pt l m (ks m) p x.id.from.home (h.nodes m h.within) expected in
    (λ j. is_waited_from (sym (ap (λ (q : MsgId). q.from.home) (h.mirrors.places.message i x h.front.there).id) j) (pt.view.known (home_is b pt l ks m i x h num j) p)) ∙ waits

kernel_row : (b : Boot) (pt : Point) (l : Placed) (ks : ℕ → KernelState) (m : ℕ) (i : MsgId) (x : Message) (w : What) → x.what ≡ w → Around b pt l ks m i x → (x.to.pid.num == 0) ≡ true → (ks m).sent < 4294967295 → (ks m).sent + 16 ≤ 4294967295 → FitsKernel b (ks m) x w
kernel_row b pt l ks m i x (What.Ask pid blocks moves size asker) e h num sent all =
    let t = token_of b pt l ks m i x (What.Ask pid blocks moves size asker) pid e h.run h.tokens h.front refl refl refl in
    (asks_to_come b pt l ks m i x (What.Ask pid blocks moves size asker) pid h t refl t.carries, sent)
kernel_row b pt l ks m i x (What.Refuse pid slots blocks) e h num sent all =
    let t = token_of b pt l ks m i x (What.Refuse pid slots blocks) pid e h.run h.tokens h.front refl refl refl in
    let d = source_leaves b pt l m (ks m) pid MessageKind.Refuse h.run (h.nodes m h.within) t.moved refl refl in
    subst (λ (o : Option Departure). IsSome o) (sym (ap frozen_of d.is)) refl
kernel_row b pt l ks m i x (What.PullState pid chunk) e h num sent all = elim (cases_Bool (is_due_piece pt.view pid i (own_told x (What.PullState pid chunk)))) [
  | inl due ↦ chunk_due b pt l ks m i x pid chunk e h num sent due
  | inr off ↦ chunk_left b pt l ks m i x pid chunk e h num sent off
]
kernel_row b pt l ks m i x (What.State pid chunk last bytes) e h num sent all = λ expected.
    let w = What.State pid chunk last bytes in
    let t = token_of b pt l ks m i x w pid e h.run h.tokens h.front refl refl (awaited_due b pt l ks m i x pid h num expected) in
    let c = destination_comes b pt l m (ks m) pid MessageKind.State h.run (h.nodes m h.within) t.moved refl refl refl in
    let wanted = subst (λ (v : Option Arrival). Wants v (Chunk chunk)) (ap (λ (n : ℕ). incoming_of ((ks n).records pid)) (home_is b pt l ks m i x h num) ∙ ap incoming_of c.is) t.carries.2 in
    (incoming_is (ks m) pid c.arrival (λ (a : Arrival). IsNextPiece a w) c.is (next_chunk l pid c.from (pt.view.held m pid) t.cargo c.arrival w chunk t.there c.stands wanted t.carries.0 t.carries.1.1), sent)
kernel_row b pt l ks m i x (What.PullBlock pid block) e h num sent all = elim (cases_Bool (is_due_piece pt.view pid i (own_told x (What.PullBlock pid block)))) [
  | inl due ↦ block_due b pt l ks m i x pid block e h num sent due
  | inr off ↦ block_left b pt l ks m i x pid block e h num sent off
]
kernel_row b pt l ks m i x (What.Memory pid block bytes) e h num sent all = λ expected.
    let w = What.Memory pid block bytes in
    let t = token_of b pt l ks m i x w pid e h.run h.tokens h.front refl refl (awaited_due b pt l ks m i x pid h num expected) in
    let c = destination_comes b pt l m (ks m) pid MessageKind.Memory h.run (h.nodes m h.within) t.moved refl refl refl in
    let wanted = subst (λ (v : Option Arrival). Wants v (Block block)) (ap (λ (n : ℕ). incoming_of ((ks n).records pid)) (home_is b pt l ks m i x h num) ∙ ap incoming_of c.is) t.carries.2 in
    (incoming_is (ks m) pid c.arrival (λ (a : Arrival). IsNextPiece a w) c.is (next_block l pid c.from (pt.view.held m pid) t.cargo c.arrival w block t.there c.stands wanted t.carries.0 t.carries.1.1), sent)
kernel_row b pt l ks m i x (What.AllTaken pid) e h num sent all =
    let t = token_of b pt l ks m i x (What.AllTaken pid) pid e h.run h.tokens h.front refl refl refl in
    let d = source_leaves b pt l m (ks m) pid MessageKind.AllTaken h.run (h.nodes m h.within) t.moved refl refl in
    (frozen_is (ks m) pid d.departure (MayLeave (ks m).room) d.is (leaves_here b pt l ks m i x pid h d), sent)
kernel_row b pt l ks m i x (What.Restart pid) e h num sent all =
    let t = token_of b pt l ks m i x (What.Restart pid) pid e h.run h.tokens h.front refl refl refl in
    let c = destination_comes b pt l m (ks m) pid MessageKind.Restart h.run (h.nodes m h.within) t.moved refl refl refl in
    let wanted = subst (λ (v : Option Arrival). Wants v Nothing) (ap (λ (n : ℕ). incoming_of ((ks n).records pid)) (home_is b pt l ks m i x h num) ∙ ap incoming_of c.is) t.carries.1 in
    let of = is_cargo_of (resident_at l pid) (l.notes pid) c.stands.cargo c.stands.there in
    let z = of.resident in
    let carried : CanBeCarried c.arrival.cap l.manager.machines l.manager.images z = subst (IsSuch (CanBeCarried c.arrival.cap l.manager.machines l.manager.images)) of.there c.stands.whole in
    let machines : l.manager.machines ≡ length b.machines = h.mirrors.plain.machines ∙ h.run.based.machines in
    let images : l.manager.images ≡ length b.images = h.mirrors.plain.images ∙ ap length h.run.based.images in
    let few_machines : length b.machines ≤ 16 = (let t : nat_le (length b.machines) 16 ≡ true = h.valid.few_machines in grind (arith, nat_tests)) in
    let few_images : length b.images ≤ 256 = (let t : nat_le (length b.images) 256 ≡ true = h.valid.few_images in grind (arith, nat_tests)) in
    incoming_is (ks m) pid c.arrival (MayRestart b) c.is (record {
      whole = wanted;
      few_machines = omega (arith, few_machines);
      few_images = omega (arith, few_images);
      resident = residents.moved z;
      restarts = (λ j. restarted (sym machines j) (sym images j) c.arrival) ∙ comes_again l pid c.from (pt.view.held m pid) c.arrival z of.there wanted c.stands;
      lawful = subst IsLawfulResident (moved_queue [] z) (moved_lawful (residents.with_queue [] z) carried.0.lawful);
    })
kernel_row b pt l ks m i x (What.CallOff pid) e h num sent all =
    let t = token_of b pt l ks m i x (What.CallOff pid) pid e h.run h.tokens h.front refl refl refl in
    let d = source_leaves b pt l m (ks m) pid MessageKind.CallOff h.run (h.nodes m h.within) t.moved refl refl in
    subst (λ (o : Option Departure). IsSome o) (sym (ap frozen_of d.is)) refl
kernel_row b pt l ks m i x (What.Bury pid) e h num sent all = all
kernel_row b pt l ks m i x (What.Migrate machine_) e h num sent all = absurd (false≢true (sym (ap (λ (c : Bool). not c && true) num) ∙ sorted_of b pt l ks m i x (What.Migrate machine_) e h))
kernel_row b pt l ks m i x (What.Update about) e h num sent all = absurd (false≢true (sym (ap (λ (c : Bool). not c && true) num) ∙ sorted_of b pt l ks m i x (What.Update about) e h))
kernel_row b pt l ks m i x any_ e h num sent all = absurd (false≢true (sorted_of b pt l ks m i x any_ e h))

pub own_kernel : (b : Boot) (pt : Point) (l : Placed) (ks : ℕ → KernelState) (m : ℕ) (i : MsgId) (x : Message) → Around b pt l ks m i x → (x.to.pid.num == 0) ≡ true → (ks m).sent < 4294967295 → (ks m).sent + 16 ≤ 4294967295 → FitsKernel b (ks m) x x.what
own_kernel b pt l ks m i x h num sent all = kernel_row b pt l ks m i x x.what refl h num sent all
