-- What is queued for a process can go with it.
use Rattle.dm_law_always.proofs.Names.{◌≡◌, ℕ, ◌+◌, ◌≤◌, Bool, true, false, List, [], ◌∷◌, refl, ap, ◌∙◌, sym, subst, arith, ⊤, if◌then◌else◌, Option, None, Some, Pid, MsgId, id_eq, Label, Line, PlainMessage, PlainWhat, Boot, Why, Ended}
use Rattle.dm_law_always.proofs.Names.{OneKernel, without_message, is_dropped, id_eq-is, id_eq-same, out_off, Point, moved, Spot, Queue, times, standing, StandsNowhere, StandsOutside, StandsRight, is_kernels, stands_right, kernels_fresh}
use Rattle.dm_law_always.proofs.Names.{not_true, StandsAsBag-one, MoveNote, PlainProcess, Alive, option_map_or, ◌++◌, Part, buries, ends_with, filter, preds_of, range_with_len}
pub use Rattle.dm_law_rule.proofs.Phases.Leaves.{first_of as times_self}
use Rattle.dm_onekernel.specs.Step as kernel
use Rattle.dm_law_rule.specs.Rule as rule
use Rattle.dm_law_always.proofs.Queued.{is_user}
use Rattle.dm_law_always.proofs.Runs.{Based}
use Rattle.dm_law_always.proofs.Goes.Parts.{said, no_receive, Does, does_label, does_buries, buries_quiet}

-- a user message of the bag for a process
pub record IsFor (s : OneKernel) (p : Pid) (i : MsgId) : Type 0 where
  pub x : PlainMessage
  pub there : s.bag i ≡ Some x
  pub to : x.to ≡ p
  pub user : is_user x.what ≡ true

-- each of these is one, and stands once among them
abbrev pub Droppable : OneKernel → Pid → List MsgId → Type 0
Droppable s p [] = ⊤
Droppable s p (i ∷ is) = IsFor s p i × (times i is ≡ 0) × Droppable s p is

pub times_more : (i j : MsgId) (is : List MsgId) → times i is ≤ times i (j ∷ is)
times_more i j is = omega arith

pub droppable_on : (s t : OneKernel) (p : Pid) (ids : List MsgId) → ((i : MsgId) → 1 ≤ times i ids → t.bag i ≡ s.bag i) → Droppable s p ids → Droppable t p ids
droppable_on s t p [] same h = tt
droppable_on s t p (i ∷ is) same h = (
  record { x = h.0.x; there = same i (times_self i is) ∙ h.0.there; to = h.0.to; user = h.0.user },
  h.1,
  droppable_on s t p is (λ j least. same j (let m = times_more j i is in omega (arith, least, m))) h.2,
)

pub droppable_of : (s : OneKernel) (p : Pid) (ids : List MsgId) → ((i : MsgId) → 1 ≤ times i ids → IsFor s p i × (times i ids ≤ 1)) → Droppable s p ids
droppable_of s p [] h = tt
droppable_of s p (j ∷ js) h = (
  (h j (times_self j js)).0,
  (let k = (h j (times_self j js)).1 in let e : times j (j ∷ js) ≡ 1 + times j js = ap (λ (c : Bool). (if c then 1 else 0) + times j js) (id_eq-same j) in omega (arith, k, e)),
  droppable_of s p js (λ i least. let m = times_more i j js in let k = h i (omega (arith, least, m)) in let few = k.1 in (k.0, omega (arith, few, m))),
)

-- what stands in a queue is in the bag
right_there : (i : MsgId) (o : Option PlainMessage) (f : Spot → ℕ) (z : Spot) → 1 ≤ f z → is_kernels i ≡ false → StandsRight i o f → (x : PlainMessage) × (o ≡ Some x) × (f z ≡ 1)
right_there i None f z least off h = absurd (let k : StandsNowhere f = subst (λ (c : Bool). StandsOutside c f) off h in let e : f z ≡ 0 = k z in omega (arith, least, e))
right_there i (Some x) f z least off h = (x, refl, StandsAsBag-one (Some x) f z least h)

-- what is queued for a process can go with it
pub queue_drops : (b : Boot) (m : ℕ) (pt : Point) (p : Pid) → Based b pt → Droppable pt.kernel p (pt.view.queue m p)
queue_drops b m pt p h = droppable_of pt.kernel p (pt.view.queue m p) (λ i least.
    let q = h.queued m p i least in
    let entered = q.entered in
    let state = h.phased.state in
    let off : is_kernels i ≡ false = not_true (is_kernels i) (λ e. let z = kernels_fresh state.r state.e pt.kernel i state.sound e in omega (arith, entered, z)) in
    let (x, there, one) = right_there i (pt.kernel.bag i) (standing pt.view i) (Queue m p) least off (stands_right pt i state (pt.kernel.bag i) refl) in
    (let k = q.is x there in record { x = x; there = there; to = k.0; user = k.1 }, (omega (arith, one))))

pub user_dropped : (w : PlainWhat) → is_user w ≡ true → is_dropped w ≡ true
user_dropped (PlainWhat.User code channel body links) e = refl
user_dropped _ e = cc

pub dropped_is : (s : OneKernel) (i : MsgId) (x : PlainMessage) (y : Why) → s.bag i ≡ Some x → s.processes x.to ≡ Some (Ended y) → is_dropped x.what ≡ true → kernel.step s (Label.Dropped i) ≡ Some (without_message s i)
dropped_is s i x y there ended drops = search arith

pub does_drops : (C : Type 0) (p : Pid) (y : Why) (ids : List MsgId) (ps : List Part) (pt : Point) → pt.kernel.processes p ≡ Some (Ended y) → Droppable pt.kernel p ids → ((q : Point) → Does C q ps) → Does C pt (rule.drop_parts ids ++ ps)
does_drops C p y [] ps pt ended h rest = rest pt
does_drops C p y (i ∷ is) ps pt ended h rest =
    let s = pt.kernel in
    let x = h.0.x in
    let step = dropped_is s i x y h.0.there (ap s.processes h.0.to ∙ ended) (user_dropped x.what h.0.user) in
    does_label C pt (Label.Dropped i) (without_message s i) (rule.drop_parts is ++ ps) step
    (does_drops C p y is ps (moved pt (Line.Label (Label.Dropped i)) (without_message s i)) ended
    (droppable_on s (without_message s i) p is (λ j least. out_off s i j (apart j least (id_eq i j) refl)) h.2) rest)
  where
    apart : (j : MsgId) → 1 ≤ times j is → (c : Bool) → id_eq i j ≡ c → id_eq i j ≡ false
    apart j least false e = e
    apart j least true e = absurd (let k : times j is ≡ 0 = sym (ap (λ v. times v is) (id_eq-is i j e)) ∙ h.1 in omega (arith, least, k))

-- what follows an end: the queue goes, and the predecessors are told
pub does_ends : (C : Type 0) (p : Pid) (y : Why) (o : Point) (m : ℕ) (pt : Point) → pt.kernel.processes p ≡ Some (Ended y) → Droppable pt.kernel p (o.view.queue m p) → (C → preds_of o m p ≡ []) → Does C pt (ends_with o m p)
does_ends C p y o m pt ended h none = does_drops C p y (o.view.queue m p) (buries o m p) pt ended h (λ q. does_buries C (preds_of o m p) q none)

-- none of it is received
drops_quiet : (ids : List MsgId) (ps : List Part) → no_receive (said ps) ≡ true → no_receive (said (rule.drop_parts ids ++ ps)) ≡ true
drops_quiet [] ps h = h
drops_quiet (i ∷ is) ps h = drops_quiet is ps h

pub ends_quiet : (o : Point) (m : ℕ) (p : Pid) → no_receive (said (ends_with o m p)) ≡ true
ends_quiet o m p = drops_quiet (o.view.queue m p) (buries o m p) (buries_quiet (preds_of o m p))

-- where nothing moved there is no predecessor
pub no_preds : (o : Point) (m : ℕ) (p : Pid) → ((n : ℕ) → o.view.preds m p n ≡ false) → preds_of o m p ≡ []
no_preds o m p none = none_kept (o.view.preds m p) (range_with_len 0 o.kernel.machines) none
  where
    none_kept : (f : ℕ → Bool) (ms : List ℕ) → ((n : ℕ) → f n ≡ false) → filter f ms ≡ []
    none_kept f [] off = refl
    none_kept f (n ∷ ms) off = ap (λ (c : Bool). if c then n ∷ filter f ms else filter f ms) (off n) ∙ none_kept f ms off

-- a process that lives and follows no request to move
pub at_hand_of : (s : OneKernel) (p : Pid) (x : PlainProcess) → s.notes p ≡ None → s.processes p ≡ Some (Alive x) → kernel.at_hand s p ≡ Some x
at_hand_of s p x free alive = ap (λ (n : Option MoveNote). (option_map_or (λ note. None) n (kernel.alive (s.processes p)))) free ∙ ap kernel.alive alive
