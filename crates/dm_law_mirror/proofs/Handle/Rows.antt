-- A row of a turn that says one label, by which one process may go on, and sends at most one message.
use Rattle.dm_law_mirror.proofs.Names.{◌≡◌, ◌≢◌, ℕ, ◌≤◌, ◌==◌, Bool, true, false, List, [], ◌∷◌, map, refl, ap, ◌∙◌, sym, subst, inl, inr, is_some, arith, if◌then◌else◌, Option, None, Some, cases_Bool, false≢true, Pid, pid_eq, MsgId, nat_tests}
use Rattle.dm_law_mirror.proofs.Names.{Message, id_eq, PlainWhat, plain_message, Boot, Label, Life, OneKernel, id_eq-is, pid_eq-is, Line, Point, after, Taken, blocks_of, taken_by, takes_room, without_front, Spot, Queue, act_of, Held, Inbox}
use Rattle.dm_law_mirror.proofs.Names.{times, standing, View, Here, handled, is_kernels, Phase, Rests, is_away, is_here, knows, rests_here, InPhases, StepNeeds, Placed, Mirrors, placed_step, mirrors_view, moves_label, plainly}
use Rattle.dm_law_mirror.proofs.Names.{placed_follows, handles, KernelState, KnownStands, resident_at, begun, seen, RoomStands, room_of, slice_get, taken_at, addresses_by, PredsStand}
use Rattle.dm_law_places.specs.PlacedStep.{with_sent, without_message}
use Rattle.dm_onekernel.specs.Step as kernel
use Rattle.dm_law_rule.specs.Rule as rule
use Rattle.dm_kernel.specs.State as machine
use Rattle.dm_law_mirror.proofs.Handle.Taking.{Taking, turn_is, outcome_is, sane_of, apart_at, apart_behind, fresh_at, sent_other, bag_kept, queue_apart, held_apart, sent_there, times_more, map_same, stands_set, eq_off, machine_self}
use Rattle.dm_law_mirror.proofs.Handle.Taking.{machine_off}
use Rattle.dm_law_mirror.proofs.Rooms.{taken_same}
use Rattle.dm_law_mirror.proofs.Turning.{NoneEnds, spared, is_elsewhere, has_process, is_moving, routed, rule_routed, IsSent, Row, Sends}
use Rattle.dm_law_mirror.proofs.Kernel.Sets.{away_process as has_none}
use Rattle.dm_law_mirror.proofs.Follow.Fronts.{front_gone, elsewhere_apart}
use Rattle.dm_law_mirror.proofs.Residents.{SameSystem}

-- where the head of the turn, a label and another view lead
abbrev pub seen_point : Point → ℕ → Label → OneKernel → View → Point
seen_point pt m e s v = record { kernel = s; view = v; addresses = (addresses_by pt.kernel (begun pt m).view pt.addresses (act_of (Line.Label e))) }

-- the message is handled
abbrev pub handled_point : Point → ℕ → MsgId → Label → OneKernel → Point
handled_point pt m i e s = seen_point pt m e s (handled (begun pt m).view i)

pub after_one : (pt : Point) (m : ℕ) (e : Label) (s : OneKernel) (v : View) → kernel.step pt.kernel e ≡ Some s → seen pt.kernel (begun pt m).view (Line.Label e) ≡ v → after (begun pt m) (Line.Label e ∷ []) ≡ Some (seen_point pt m e s v)
after_one pt m e s v step is = grind (arith, nat_tests)

pub mirrors_one : (pt : Point) (m : ℕ) (e : Label) (s : OneKernel) (v : View) (l placed : Placed) → kernel.step pt.kernel e ≡ Some s → seen pt.kernel (begun pt m).view (Line.Label e) ≡ v → StepNeeds pt.kernel (begun pt m).view e
    → placed_step m pt.kernel.format pt.kernel.images l e ≡ Some placed → Mirrors pt.kernel pt.view pt.addresses l → Mirrors s v (addresses_by pt.kernel (begun pt m).view pt.addresses (act_of (Line.Label e))) placed
mirrors_one pt m e s v l placed step is needs placed_is h =
    let start = mirrors_view pt.kernel pt.view (begun pt m).view pt.addresses l refl h in
    let (on, found, mirrors) = placed_follows pt.kernel s (begun pt m).view pt.addresses l m e start refl needs step in
    let same : on ≡ placed = let f : Some on ≡ Some placed = sym found ∙ placed_is in cc in
    let a = (addresses_by pt.kernel (begun pt m).view pt.addresses (act_of (Line.Label e))) in
    subst (Mirrors s v a) same (mirrors_view s (begun pt m).view v a on (ap (λ (u : View). u.moves) (sym is) ∙ moves_label (begun pt m).view e) mirrors)

-- the head of a turn moves no message
pub standing_begun : (pt : Point) (m : ℕ) (i : MsgId) (s : Spot) → standing (begun pt m).view i s ≡ standing pt.view i s
standing_begun pt m i s = grind (arith, nat_tests)

-- a process or a server that a turn on machine m leaves as it is: another machine has it, holds it back or expects it, or it leaves or comes on
-- machine m
pub data IsLeft (m : ℕ) (pt : Point) (q : Pid) : Type 0 where
  Elsewhere : (n : ℕ) → (apart : n ≢ m) → (has : has_process (pt.view.known n q) ≡ true) → IsLeft m pt q
  Moves : (moving : is_moving (pt.view.known m q) ≡ true) → IsLeft m pt q

-- a process that is here is known nowhere else
away_elsewhere : (pt : Point) (m n : ℕ) (p : Pid) → InPhases pt.view → pt.view.known m p ≡ Here → n ≢ m → is_away (pt.view.known n p) ≡ true
away_elsewhere pt m n p h here apart =
    let phase = h.of p in
    let known = (h.each p).known in
    let rests : phase ≡ Rests m = rests_here phase m (sym (ap (knows phase m) here) ∙ known m) in
    let there : knows (Rests m) n (pt.view.known n p) ≡ true = sym (ap (λ (f : Phase). knows f n (pt.view.known n p)) rests) ∙ known n in
    sym (ap (λ (c : Bool). if c then is_here (pt.view.known n p) else is_away (pt.view.known n p)) (eq_off m n apart)) ∙ there

here_not : (pt : Point) (m : ℕ) (p : Pid) → InPhases pt.view → pt.view.known m p ≡ Here → IsLeft m pt p → ⊥
here_not pt m p h here (Elsewhere n apart has) = has_none (pt.view.known n p) (away_elsewhere pt m n p h here apart) has
here_not pt m p h here (Moves moving) = false≢true (sym (ap is_moving here) ∙ moving)

pub other_than : (p q : Pid) → (p ≡ q → ⊥) → pid_eq p q ≡ false
other_than p q off = grind (arith, nat_tests, pid_eq-is)

-- so it is none of these
pub here_left : (pt : Point) (m : ℕ) (p q : Pid) → InPhases pt.view → pt.view.known m p ≡ Here → IsLeft m pt q → pid_eq p q ≡ false
here_left pt m p q h here is = other_than p q (λ e. here_not pt m p h here (subst (IsLeft m pt) (sym e) is))

-- what such a row leaves of both kernels and of the machine, but for the process that may go on
pub record RowLeaves (m : ℕ) (pt : Point) (l : Placed) (k : KernelState) (rest : List Message) (i : MsgId) (process : Pid) (next : OneKernel) (placed : Placed) (state : KernelState) (route : Option Message) : Type 0 where
  -- the kernel without machines
  pub machines : next.machines ≡ pt.kernel.machines
  pub made : (n : ℕ) → next.made n ≡ pt.kernel.made n
  pub lives : (q : Pid) → pid_eq process q ≡ false → next.processes q ≡ pt.kernel.processes q
  pub blocks : blocks_of (kernel.alive (next.processes process)) ≡ blocks_of (kernel.alive (pt.kernel.processes process))
  pub ended : kernel.why_ended (next.processes process) ≡ kernel.why_ended (pt.kernel.processes process)
  -- the one with places
  pub residents : (q : Pid) → pid_eq process q ≡ false → resident_at placed q ≡ resident_at l q
  pub system : SameSystem l placed
  pub notes : (q : Pid) → placed.notes q ≡ l.notes q
  pub bag : (j : MsgId) → placed.bag j ≡ (with_sent (without_message l i) route).bag j
  -- the machine's
  pub here : state.here ≡ k.here
  pub records : (q : Pid) → pid_eq process q ≡ false → state.records q ≡ k.records q
  pub ring : state.ring ≡ k.ring
  pub inbox : state.inbox ≡ rest
  pub count : state.made ≡ k.made
  pub sent : state.sent ≡ k.sent
  pub room : state.room ≡ k.room
  pub preds : state.preds ≡ k.preds
  pub over : state.over ≡ k.over
  -- the others stay
  pub left : (q : Pid) → IsLeft m pt q → (resident_at placed q ≡ resident_at l q) × (next.processes q ≡ pt.kernel.processes q) × (state.records q ≡ k.records q)

pub record Labelled (b : Boot) (m : ℕ) (pt : Point) (l : Placed) (k : KernelState) (y : Message) (w : PlainWhat) (c : Taking b m pt l k y w) : Type 0 where
  pub label : Label
  pub next : OneKernel
  pub placed : Placed
  pub state : KernelState
  pub route : Option Message
  -- the process that may go on
  pub process : Pid
  pub step : kernel.step pt.kernel label ≡ Some next
  pub view : seen pt.kernel (begun pt m).view (Line.Label label) ≡ handled (begun pt m).view y.id
  pub needs : StepNeeds pt.kernel (begun pt m).view label
  pub placed_is : placed_step m pt.kernel.format pt.kernel.images l label ≡ Some placed
  pub turn : handles b (record k { inbox = c.rest }) y ≡ Some (record { state = state; parts = machine.says label ∷ routed route })
  pub outcome : rule.handles b pt m y.id (plainly y w) ≡ Some (rule.says label ∷ rule_routed route)
  pub fresh : (a : Message) → route ≡ Some a → pt.kernel.bag a.id ≡ None
  pub plain : (a : Message) → route ≡ Some a → is_some (plain_message a) ≡ true
  pub mine : ((j : MsgId) → 1 ≤ times j (pt.view.queue m process) → placed.bag j ≡ l.bag j) → ((j : MsgId) → 1 ≤ times j (pt.view.held m process) → placed.bag j ≡ l.bag j)
      → KnownStands placed process (pt.view.queue m process) (pt.view.held m process) (pt.view.known m process) (state.records process)
  pub leaves : RowLeaves m pt l k c.rest y.id process next placed state route

-- a message that stands elsewhere in the bag stays
pub kept_at : (b : Boot) (m : ℕ) (pt : Point) (l : Placed) (k : KernelState) (y : Message) (w : PlainWhat) (c : Taking b m pt l k y w) (n : Placed) (o : Option Message) → ((j : MsgId) → n.bag j ≡ (with_sent (without_message l y.id) o).bag j)
    → ((a : Message) → o ≡ Some a → (pt.kernel.bag a.id ≡ None) × (is_kernels a.id ≡ false)) → (s : Spot) (j : MsgId) → s ≢ Inbox m → 1 ≤ standing pt.view j s → n.bag j ≡ l.bag j
kept_at b m pt l k y w c n o bag fresh s j off least =
    bag j ∙ bag_kept l y.id o j (apart_at b m pt l k y w c s j off least) (λ a is. fresh_at b pt s a.id j c.run (fresh a is).0 (fresh a is).1 least)

pub kept_behind : (b : Boot) (m : ℕ) (pt : Point) (l : Placed) (k : KernelState) (y : Message) (w : PlainWhat) (c : Taking b m pt l k y w) (n : Placed) (o : Option Message) → ((j : MsgId) → n.bag j ≡ (with_sent (without_message l y.id) o).bag j)
    → ((a : Message) → o ≡ Some a → (pt.kernel.bag a.id ≡ None) × (is_kernels a.id ≡ false)) → (j : MsgId) → 1 ≤ times j c.ids → n.bag j ≡ l.bag j
kept_behind b m pt l k y w c n o bag fresh j least =
    let there : 1 ≤ standing pt.view j (Inbox m) = subst (λ (z : List MsgId). 1 ≤ times j z) (sym c.box) (omega (arith, least, times_more j y.id c.ids)) in
    bag j ∙ bag_kept l y.id o j (apart_behind b m pt l k y w c j least) (λ a is. fresh_at b pt (Inbox m) a.id j c.run (fresh a is).0 (fresh a is).1 there)

-- kernels' own messages stay
pub own_kept : (b : Boot) (m : ℕ) (pt : Point) (l : Placed) (k : KernelState) (y : Message) (w : PlainWhat) (c : Taking b m pt l k y w) (n : Placed) (o : Option Message) → ((j : MsgId) → n.bag j ≡ (with_sent (without_message l y.id) o).bag j)
    → ((a : Message) → o ≡ Some a → is_kernels a.id ≡ false) → (j : MsgId) (x : Message) → plain_message x ≡ None → l.bag j ≡ Some x → n.bag j ≡ Some x
own_kept b m pt l k y w c n o bag other j x none there =
    bag j ∙ bag_kept l y.id o j (apart (id_eq y.id j) refl) (λ a is. sent_apart a is (id_eq a.id j) refl) ∙ there
  where
    apart : (d : Bool) → id_eq y.id j ≡ d → d ≡ false
    apart false e = refl
    apart true e =
        let f : Some y ≡ Some x = sym c.there ∙ (ap l.bag (id_eq-is y.id j e)) ∙ there in
        let g : y ≡ x = cc in
        cc

    sent_apart : (a : Message) → o ≡ Some a → (d : Bool) → id_eq a.id j ≡ d → d ≡ false
    sent_apart a is false e = refl
    sent_apart a is true e = absurd (false≢true (sym (other a is) ∙ ap is_kernels (id_eq-is a.id j e) ∙ (c.own j x there none).mine))

pub own_back : (l n : Placed) (i : MsgId) (o : Option Message) → ((j : MsgId) → n.bag j ≡ (with_sent (without_message l i) o).bag j) → ((a : Message) → o ≡ Some a → is_some (plain_message a) ≡ true)
    → (j : MsgId) (x : Message) → plain_message x ≡ None → n.bag j ≡ Some x → l.bag j ≡ Some x
own_back l n i o bag plain j x none there = let was = sym (bag j) ∙ there in grind (arith, nat_tests)

-- what the processes take of the room stays
same_taken : (b : Boot) (m : ℕ) (pt : Point) (l : Placed) (k : KernelState) (y : Message) (w : PlainWhat) (c : Taking b m pt l k y w) (h : Labelled b m pt l k y w c) (q : Pid) → taken_by (handled_point pt m y.id h.label h.next) m q ≡ taken_by pt m q
same_taken b m pt l k y w c h q =
    let same : blocks_of (kernel.alive (h.next.processes q)) ≡ blocks_of (kernel.alive (pt.kernel.processes q)) = elim (cases_Bool (pid_eq h.process q)) [
      | inl is ↦ subst (λ (p : Pid). blocks_of (kernel.alive (h.next.processes p)) ≡ blocks_of (kernel.alive (pt.kernel.processes p))) (pid_eq-is h.process q is) h.leaves.blocks
      | inr off ↦ ap (λ (o : Option Life). blocks_of (kernel.alive o)) (h.leaves.lives q off)
    ] in
    ap (λ (n : ℕ). record { slots = takes_room (pt.view.known m q); blocks = if takes_room (pt.view.known m q) == 0 then 0 else n }) same

pub turns_row : (b : Boot) (m : ℕ) (pt : Point) (l : Placed) (k : KernelState) (y : Message) (w : PlainWhat) (c : Taking b m pt l k y w) → Labelled b m pt l k y w c → Row b m pt l k
turns_row b m pt l k y w c h =
    let v = handled (begun pt m).view y.id in
    let next = handled_point pt m y.id h.label h.next in
    let stands = c.stands in
    let taken = taken_same pt next m h.leaves.machines h.leaves.made (same_taken b m pt l k y w c h) in
    let mirrors = mirrors_one pt m h.label h.next v l h.placed h.step h.view h.needs h.placed_is c.mirrors in
    let sent = sent_at h.placed l y.id h.route h.leaves.bag h.plain in
    let other : (a : Message) → h.route ≡ Some a → is_kernels a.id ≡ false = λ a is. sent_other pt h.label h.next h.placed a h.step mirrors.plain (subst (IsSent h.placed) is sent).0 (h.plain a is) (sane_of b m pt l k y w c) in
    let fresh : (a : Message) → h.route ≡ Some a → (pt.kernel.bag a.id ≡ None) × (is_kernels a.id ≡ false) = λ a is. (h.fresh a is, other a is) in
    let kept : (s : Spot) (j : MsgId) → s ≢ Inbox m → 1 ≤ standing pt.view j s → h.placed.bag j ≡ l.bag j = kept_at b m pt l k y w c h.placed h.route h.leaves.bag fresh in
    let behind : (j : MsgId) → 1 ≤ times j c.ids → h.placed.bag j ≡ l.bag j = kept_behind b m pt l k y w c h.placed h.route h.leaves.bag fresh in
    let waits : (q : Pid) (j : MsgId) → 1 ≤ times j (pt.view.queue m q) → h.placed.bag j ≡ l.bag j = λ q j least. kept (Queue m q) j (queue_apart m m q) least in
    let holds : (q : Pid) (j : MsgId) → 1 ≤ times j (pt.view.held m q) → h.placed.bag j ≡ l.bag j = λ q j least. kept (Held m q) j (held_apart m m q) least in
    let mine = h.mine (waits h.process) (holds h.process) in
    record {
      state = h.state;
      says = Line.Label h.label ∷ [];
      route = Sends h.route;
      turn = turn_is b m pt l k y w c (Some (record { state = h.state; parts = machine.says h.label ∷ routed h.route })) h.turn;
      outcome = outcome_is b m pt l k y w c (Some (rule.says h.label ∷ rule_routed h.route)) h.outcome;
      next = next;
      after = after_one pt m h.label h.next v h.step h.view;
      placed = h.placed;
      mirrors = mirrors;
      kernel = stands_set b pt next l h.placed m k h.state h.process
          (search (h.leaves.here, h.leaves.records, h.leaves.residents, h.leaves.system, h.leaves.notes, waits, holds, mine)) stands
          (h.leaves.ring ∙ stands.ring)
          (ap (map h.placed.bag) (machine_self pt.view.inbox m (without_front y.id (pt.view.inbox m)) ∙ front_gone y.id c.ids (pt.view.inbox m) c.box)
          ∙ map_same l.bag h.placed.bag c.ids behind ∙ c.others ∙ ap (map Some) (sym h.leaves.inbox))
          (h.leaves.count ∙ stands.made ∙ sym (h.leaves.made m))
          (subst (λ (t : Taken). RoomStands t (room_of (slice_get b.machines m)) (taken_at next m next.kernel.machines)) (sym h.leaves.room) (subst (RoomStands k.room (room_of (slice_get b.machines m))) (sym taken) stands.room))
          (subst (PredsStand b (pt.view.preds m)) (sym h.leaves.preds) stands.preds);
      elsewhere = search (
        machine_off,
        h.leaves.made,
        h.leaves.notes,
        h.leaves.system,
        λ (n : ℕ) (q : Pid) (off : n ≢ m) (has : has_process (pt.view.known n q) ≡ true). (h.leaves.left q (Elsewhere n off has)).0,
        λ (n : ℕ) (q : Pid) (off : n ≢ m) (has : has_process (pt.view.known n q) ≡ true). (h.leaves.left q (Elsewhere n off has)).1,
        λ (i : MsgId) (s : Spot) (is : is_elsewhere m s ≡ true) (least : 1 ≤ standing (begun pt m).view i s). kept s i (elsewhere_apart m s is) (subst (λ (n : ℕ). 1 ≤ n) (standing_begun pt m i s) least),
      );
      sent = sent;
      still = refl;
      over = NoneEnds h.leaves.over (spared pt.kernel h.next h.process h.leaves.lives h.leaves.ended);
      count = h.leaves.sent;
      moving = λ q is. let stays = h.leaves.left q (Moves is) in (stays.0, stays.2, h.leaves.notes q);
      own = own_kept b m pt l k y w c h.placed h.route h.leaves.bag other;
      own_back = own_back l h.placed y.id h.route h.leaves.bag h.plain;
    }
  where
    sent_at : (n l : Placed) (i : MsgId) (o : Option Message) → ((j : MsgId) → n.bag j ≡ (with_sent (without_message l i) o).bag j) → ((a : Message) → o ≡ Some a → is_some (plain_message a) ≡ true) → IsSent n o
    sent_at n l i None same plain = tt
    sent_at n l i (Some a) same plain = (same a.id ∙ sent_there (without_message l i) a, plain a refl)
