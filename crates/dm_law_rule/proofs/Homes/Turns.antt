-- A turn keeps all of it.
use Rattle.dm_law_rule.proofs.Names.{◌≡◌, ℕ, ◌+◌, ◌==◌, Bool, true, false, List, [], ◌∷◌, refl, ap, ◌∙◌, sym, subst, inl, inr, arith, nat_le, ⊤, if◌then◌else◌, Option, None, Some, nat_tests, Pid, MsgId, PlainMessage, Boot, Label, Says}
use Rattle.dm_law_rule.proofs.Names.{OneKernel, after_step, Point, first_point, Part, Routes, Spelled, Homes, is_for_home, are_home, IsStill, LeadHomeAlways, ◌≤◌, false≢true, is_kernels, Step, actor, group_of, pid_of, first_number, Known, Line}
use Rattle.dm_law_rule.proofs.Names.{◌++◌, MessageKind, ends_with, filter, map, preds_of, to_kernel, Frozen, Incoming, Forward, AskNone, LeadsStill, and_parts, calls_off, range_with_len, none_some}
use Rattle.dm_onekernel.specs.Step as kernel
use Rattle.dm_law_rule.proofs.Homes.Labels.{SaidAt}
use Rattle.dm_law_rule.proofs.Homes.Lists.{stands, all_stand}
use Rattle.dm_law_rule.proofs.Homes.Labels.{RingsHome, is_still}
use Rattle.dm_law_rule.proofs.States.{State}
use Rattle.dm_law_rule.proofs.Letters.{kernels_fresh}
use Rattle.dm_law_rule.proofs.Moves.States.{inbox_way, kernels_by}
use Rattle.dm_law_rule.proofs.Pairs.{Pairs, Pairs-start, Pairs-group}
use Rattle.dm_law_rule.proofs.Groups.{State-start, State-group, fits}
use Rattle.dm_law_rule.proofs.Homes.Lines.{NoneReplaced, homes_of, home_start, Home, Kept}
use Rattle.dm_law_rule.specs.Rule as rule
use Rattle.dm_law_rule.proofs.Homes.Parts.{PartsAnywhere}
use Rattle.dm_onekernel.specs.Pieces as pieces
use Rattle.dm_law_rule.proofs.Homes.Serves.{ReceivedAt}
use Rattle.dm_law_rule.proofs.Homes.Groups.{PartsGood, group_keeps, deliver_keeps, resends_good}
use Rattle.dm_law_rule.proofs.Serving.{by_round, by_handles}
use Rattle.dm_law_rule.proofs.Requests.{by_calls_off}

abbrev pub GoodOf : OneKernel → (MsgId → ℕ) → ℕ → Option (List Part) → Type 0
GoodOf s e m None = ⊤
GoodOf s e m (Some ps) = PartsGood s e m ps

says_first : (s : OneKernel) (e : MsgId → ℕ) (m : ℕ) (l : Label) (ps : List Part) → SaidAt s m l → PartsAnywhere m ps → PartsGood s e m (rule.says l ∷ ps)
says_first s e m l ps at h = inl (inr (inl (l, refl, at)), h)

-- where no machine forwards to another, nobody is told of an end
drops_good : (m : ℕ) (ids : List MsgId) → PartsAnywhere m (rule.drop_parts ids ++ [])
drops_good m [] = tt
drops_good m (i ∷ is) = (tt, drops_good m is)

none_passes : (f : ℕ → Bool) (ns : List ℕ) → ((n : ℕ) → f n ≡ false) → filter f ns ≡ []
none_passes f [] h = refl
none_passes f (n ∷ ns) h = ap (λ (c : Bool). if c then n ∷ filter f ns else filter f ns) (h n) ∙ none_passes f ns h

ends_good : (o : Point) (m : ℕ) (p : Pid) → RingsHome o.view → PartsAnywhere m (ends_with o m p)
ends_good o m p h =
    let none : [] ≡ preds_of o m p = sym (none_passes (o.view.preds m p) (range_with_len 0 o.kernel.machines) (λ n. h.preds m n p)) in
    subst (λ (ns : List ℕ). PartsAnywhere m (rule.drop_parts (o.view.queue m p) ++ map (to_kernel MessageKind.Bury) ns)) none (drops_good m (o.view.queue m p))

pub runnable_home : (s : OneKernel) (queue : Pid → List MsgId) (m : ℕ) (ps : List Pid) (q : Pid) → are_home m ps ≡ true → rule.first_runnable s queue ps ≡ Some q → q.home ≡ m
runnable_home s queue m [] q h is = none_some q is
runnable_home s queue m (p ∷ ps) q h is =
    -- the first process of a ring that can be served
    let runnable_if : (m : ℕ) (b : Bool) (p : Pid) (o : Option Pid) (q : Pid) → p.home ≡ m → (o ≡ Some q → q.home ≡ m) → (if b then Some p else o) ≡ Some q → q.home ≡ m =
    λ m b p o q at h is. (elim b as (λ b_. (if b_ then Some p else o) ≡ Some q → q.home ≡ m) [ true ↦ λ is'. let f : p ≡ q = cc in ap (λ (v : Pid). v.home) (sym f) ∙ at | false ↦ λ is'. h is' ]) is in
    let k = and_parts (p.home == m) (are_home m ps) h in
    let first = k.0 in
    runnable_if m (rule.can_go s (queue p) (kernel.alive (s.processes p))) p (rule.first_runnable s queue ps) q (let f : p.home ≡ m = grind (arith, nat_tests) in f) (runnable_home s queue m ps q k.1) is

some_good : (s : OneKernel) (e : MsgId → ℕ) (m : ℕ) (o : Option (List Part)) → ((ps : List Part) → o ≡ Some ps → PartsGood s e m ps) → GoodOf s e m o
some_good s e m None h = tt
some_good s e m (Some ps) h = h ps refl

round_good : (b : Boot) (e : MsgId → ℕ) (pt : Point) (m : ℕ) (o : Option Pid) → RingsHome pt.view → ((p : Pid) → o ≡ Some p → p.home ≡ m) → GoodOf pt.kernel e m (rule.goes_round b pt m o)
round_good b e pt m o h at = some_good pt.kernel e m (rule.goes_round b pt m o) (λ ps. by_round (PartsGood pt.kernel e m) b pt m o ps (inl (inl tt, tt)) (λ p x is alive. record {
  runs = λ k rest stops. says_first pt.kernel e m (Label.Ran p k) rest (at p is) (stops (PartsAnywhere m) (record {
    over = tt;
    replies = λ n r. (at p is, tt);
    sends = λ id. (at p is, (tt, tt));
    waits = (at p is, tt);
    outputs = λ word. (at p is, tt);
    ends = λ y. (at p is, ends_good pt m p h);
  }));
  takes = λ mask id first. inl (inl (at p is), tt);
  refuses = λ id r. inl (inl (at p is), tt);
}))

-- the message at the front of the inbox
abbrev Front : OneKernel → (MsgId → ℕ) → ℕ → MsgId → Type 0
Front s e m id = ReceivedAt s m id × (stands s e m id ≡ true)

-- the message at the front is in the bag
handles_good : (b : Boot) (e : MsgId → ℕ) (pt : Point) (m : ℕ) (id : MsgId) (o : Option PlainMessage) → RingsHome pt.view → (o ≡ None → ⊥) → Front pt.kernel e m id → GoodOf pt.kernel e m (rule.comes_to b pt m id o)
handles_good b e pt m id None h there f = absurd (there refl)
handles_good b e pt m id (Some k) h there f =
    let s = pt.kernel in
    let moved_off : (n : Known) → pt.view.known m k.to ≡ n → is_still n ≡ false → ⊥ = λ n known moves. false≢true (sym moves ∙ sym (ap is_still known) ∙ h.known m k.to) in
    some_good s e m (rule.handles b pt m id k) (λ ps. by_handles (PartsGood s e m) b pt m id k ps (record {
      created = λ fixed. says_first s e m (Label.Created id (pid_of m (first_number + s.made m))) (Routes (pieces.answer_id id) ∷ []) (f.0, refl) (tt, tt);
      no_space = λ fixed slots blocks. says_first s e m (Label.NoSpace id slots blocks) (Routes (pieces.answer_id id) ∷ []) f.0 (tt, tt);
      took = λ fixed sent. says_first s e m (Label.Took id) (rule.routes sent) f.0 (elim sent as (λ o. PartsAnywhere m (rule.routes o))
          [ None ↦ tt | Some k ↦ (tt, tt) ]);
      queued = λ to user. inl (inr (inr (id, refl, f.1)), tt);
      served = λ to mild. says_first s e m (Label.Served id) [] f.0 tt;
      answers = λ to mild i. says_first s e m (Label.Served id) (Routes i ∷ []) f.0 (tt, tt);
      kills = λ to kills. says_first s e m (Label.Served id) (ends_with pt m k.to) f.0 (ends_good pt m k.to h);
      moved = λ to what. inr (id, refl);
      sets_off = λ machine to what apart. inr (id, refl);
      gone = λ to. says_first s e m (Label.Gone id) (Routes (pieces.answer_id id) ∷ []) f.0 (tt, tt);
      dropped = λ to. inl (inl tt, tt);
      leaving = λ n to. absurd (moved_off (Frozen n) to.known refl);
      coming = λ n to. absurd (moved_off (Incoming n) to.known refl);
      forwarded = λ n c to. absurd (moved_off (Forward n c) to.known refl);
    }))

pub for_home : (m : ℕ) (o : Option PlainMessage) (x : PlainMessage) → is_for_home m o ≡ true → o ≡ Some x → x.to.home ≡ m
for_home m None x h is = none_some x is
for_home m (Some y) x h is = let f : y ≡ x = cc in let g : y.to.home ≡ m = grind (arith, nat_tests) in ap (λ (v : PlainMessage). v.to.home) (sym f) ∙ g

pub turns_good : (b : Boot) (r e : MsgId → ℕ) (pt : Point) (m : ℕ) (is : List MsgId) → ((i : MsgId) (js : List MsgId) → is ≡ i ∷ js → nat_le 1 (e i) ≡ true → pt.kernel.bag i ≡ None → ⊥) → all_stand pt.kernel e m is ≡ true → Home r e pt → GoodOf pt.kernel e m (rule.turns b pt m is)
turns_good b r e pt m [] there all h =
    round_good b e pt m (rule.first_runnable pt.kernel (pt.view.queue m) (pt.view.ring m)) h.rings (λ p is. runnable_home pt.kernel (pt.view.queue m) m (pt.view.ring m) p (h.rings.ring m) is)
turns_good b r e pt m (i ∷ is) there all h =
    let k = and_parts (stands pt.kernel e m i) (all_stand pt.kernel e m is) all in
    let home = and_parts (nat_le 1 (e i)) (is_for_home m (pt.kernel.bag i)) k.0 in
    handles_good b e pt m i (pt.kernel.bag i) h.rings (there i is refl home.0) (λ x in_. for_home m (pt.kernel.bag i) x home.1 in_, k.0)

-- what stands at the front of an inbox and has entered is in the bag
in_bag_at : (r e : MsgId → ℕ) (pt : Point) (m : ℕ) (i : MsgId) (js : List MsgId) → pt.view.inbox m ≡ i ∷ js → nat_le 1 (e i) ≡ true → State None pt → Home r e pt → pt.kernel.bag i ≡ None → ⊥
in_bag_at r e pt m i js front entered state h none =
    let least : 1 ≤ e i = grind (arith, nat_tests) in
    let (q, way) = inbox_way pt m i js state front in
    let zero_ : e i ≡ 0 = kernels_fresh r e pt.kernel i h.sound (kernels_by state.own pt.kernel.bag i q (is_kernels i) refl none way) in absurd (omega (arith, least, zero_))

pub turn_keeps : NoneReplaced → (b : Boot) (r e : MsgId → ℕ) (pt : Point) (m : ℕ) (w : Spelled) → group_of b pt (Step.Turn m) ≡ Some w → AskNone w.lines → State None pt → Home r e pt → Kept m w.point
turn_keeps none b r e pt m w is ask state h =
    let good_of : (s : OneKernel) (e : MsgId → ℕ) (m : ℕ) (o : Option (List Part)) (ps : List Part) → GoodOf s e m o → o ≡ Some ps → PartsGood s e m ps =
    λ s e m o ps h is. (elim o as (λ o_. GoodOf s e m o_ → o_ ≡ Some ps → PartsGood s e m ps) [ None ↦ λ h' is'. cc | Some qs' ↦ λ h' is'. let f : qs' ≡ ps = cc in subst (PartsGood s e m) f h' ]) h is in
    group_keeps none b r e pt (Step.Turn m) w tt is ask h
    (λ ps comes. good_of pt.kernel e m (rule.turns b pt m (pt.view.inbox m)) ps (turns_good b r e pt m (pt.view.inbox m) (λ i js front entered. in_bag_at r e pt m i js front entered state h) (h.lists.inbox m) h) comes)

-- each group keeps all of it
pub home_group : NoneReplaced → (b : Boot) (r e : MsgId → ℕ) (pt : Point) (d : Step) (w : Spelled) → IsStill d → group_of b pt d ≡ Some w → AskNone w.lines → State None pt → Home r e pt → Kept (actor pt.view d) w.point
home_group none b r e pt (Step.Turn m) w still is ask state h = turn_keeps none b r e pt m w is ask state h
home_group none b r e pt (Step.Tick m) w still is ask state h =
    let tick_keeps : NoneReplaced → (b : Boot) (r e : MsgId → ℕ) (pt : Point) (m : ℕ) (w : Spelled) → group_of b pt (Step.Tick m) ≡ Some w → AskNone w.lines → Home r e pt → Kept m w.point = λ none b r e pt m w is ask h.
    group_keeps none b r e pt (Step.Tick m) w tt is ask h
    (λ ps comes. let f : Says (Line.Resent m (rule.outstanding_count pt.view m pt.kernel.machines)) ∷ rule.resends pt.view m pt.kernel.machines ≡ ps = cc in
    subst (PartsGood pt.kernel e m) f (inl (inl tt, resends_good m m pt.view pt.kernel.machines))) in
    tick_keeps none b r e pt m w is ask h
home_group none b r e pt (Step.Deliver a c k) w still is ask state h = deliver_keeps none b r e pt a c k w is ask h
home_group none b r e pt (Step.Migrate p m) w still is ask state h = absurd still
home_group none b r e pt (Step.CallOff p m) w still is ask state h =
    -- nothing comes, so there is nothing to call off
    group_keeps none b r e pt (Step.CallOff p m) w tt is ask h
    (λ ps comes. let f : calls_off pt m p (pt.view.known m p) ≡ ps = cc in
    subst (PartsGood pt.kernel e m) f (by_calls_off (PartsGood pt.kernel e m) pt m p (inl (inl tt, tt)) (λ from is come. absurd (false≢true (sym (ap is_still is) ∙ h.rings.known m p)))))

pub none_replaced : NoneReplaced
none_replaced r e s t l is h i x y was there = (after_step r e s t l is h).only i x y was there

home_on : (b : Boot) (es : List Step) (r e : MsgId → ℕ) (pt end : Point) → LeadsStill b pt es end → Pairs pt.view → State None pt → Home r e pt → Homes end
home_on b [] r e pt end leads pairs state h = subst Homes leads (homes_of r e pt h)
home_on b (d ∷ es) r e pt end (w, fit, still, is, ask, rest) pairs state h =
    let k = home_group none_replaced b r e pt d w still is ask state h in
    home_on b es k.r k.e w.point end rest (Pairs-group b pt d w fit is pairs) (State-group b pt d w is (fits pt.view pairs) state) k.home

pub lead_home_always : LeadHomeAlways
lead_home_always b es pt valid leads = home_on b es (λ i. 0) (λ i. 0) (first_point b) pt leads (Pairs-start b) (State-start b valid) (home_start b valid)
