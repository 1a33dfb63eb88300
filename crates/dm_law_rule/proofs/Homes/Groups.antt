-- A group keeps all of it where its first part is said where it belongs.
use Rattle.dm_law_rule.proofs.Names.{◌≡◌, ℕ, zero, suc, ◌==◌, true, List, [], ◌∷◌, ◌++◌, refl, ap, ◌∙◌, sym, subst, ◌⊎◌, inl, inr, ⊤, if◌then◌else◌, Option, None, Some, Pid, MsgId, Boot, Label, OneKernel, bind, bind-is, Line, Load, View, Pair}
use Rattle.dm_law_rule.proofs.Names.{queued_for, handled, Point, after, after_line, moved, Part, Says, Spelled, behind, spelled, lines_of, slice_get, ◌-◌, Step, actor, begins, marked, NothingElse, group_of, outcome, IsStill, AskNone, arith}
use Rattle.dm_law_rule.proofs.Names.{nat_tests, at_least}
use Rattle.dm_law_rule.proofs.Homes.Labels.{SaidAt, RingsHome, rings_same}
use Rattle.dm_law_rule.proofs.Homes.Lists.{stands, ListsHome, queue_set, all_stand_last, handled_lists}
use Rattle.dm_law_rule.proofs.Homes.Lines.{NoneReplaced, Home, Kept, same_lists, label_keeps}
use Rattle.dm_law_rule.proofs.Homes.Parts.{PartAnywhere, PartsAnywhere, parts_keep, part_keeps}
use Rattle.dm_law_rule.proofs.Trails.Within.{queued_acting}
use Rattle.dm_law_rule.proofs.Requests.{by_test}
use Rattle.dm_law_rule.specs.View as view
use Rattle.dm_law_rule.specs.Rule as rule

-- the first part of a group: one that may stand anywhere, a label said where it belongs, or a message that is queued
abbrev pub FirstGood : OneKernel → (MsgId → ℕ) → ℕ → Part → Type 0
FirstGood s e m p = PartAnywhere m p ⊎ (((l : Label) × (p ≡ Says (Line.Label l)) × SaidAt s m l) ⊎ ((id : MsgId) × (p ≡ Says (Line.Queued id)) × (stands s e m id ≡ true)))

-- then the parts of the group keep all of it; where the first says that a process is asked to move, nothing is claimed
abbrev pub PartsGood : OneKernel → (MsgId → ℕ) → ℕ → List Part → Type 0
PartsGood s e m [] = ⊤
PartsGood s e m (p ∷ ps) = (FirstGood s e m p × PartsAnywhere m ps) ⊎ ((id : MsgId) × (p ≡ Says (Line.Label (Label.Asked id))))

-- no process is asked in the first of these lines
ask_first : (ls ms : List Line) → AskNone (ls ++ ms) → AskNone ls
ask_first [] ms h = tt
ask_first (l ∷ ls) ms h = (h.0, ask_first ls ms h.1)

not_asked : (pt : Point) (id : MsgId) (p : Part) (ls : List Line) → p ≡ Says (Line.Label (Label.Asked id)) → lines_of pt p ≡ Some ls → AskNone ls → ⊥
not_asked pt id p ls is lines none =
    let f : Some (Line.Label (Label.Asked id) ∷ []) ≡ Some ls = ap (lines_of pt) (sym is) ∙ lines in
    (subst AskNone (let g : ls ≡ Line.Label (Label.Asked id) ∷ [] = cc in g) none).0

queued_keeps : (r e : MsgId → ℕ) (pt pt' : Point) (id : MsgId) → stands pt.kernel e pt.view.acting id ≡ true → Home r e pt → after pt (Line.Queued id ∷ []) ≡ Some pt' → Kept pt.view.acting pt'
queued_keeps r e pt pt' id at h is =
    -- queued
    let queue_lists : (s : OneKernel) (e : MsgId → ℕ) (v : View) (id : MsgId) → stands s e v.acting id ≡ true → ListsHome s e v → ListsHome s e (queued_for (handled v id) id (view.receiver_of (v.told id))) =
    λ s e v id at h. search (arith, queue_set, all_stand_last, handled_lists s e v id h) in
    let w = handled pt.view id in
    let rings_queued : (v : View) (id : MsgId) (o : Option Pid) → RingsHome v → RingsHome (queued_for v id o) =
    λ v id o h. elim o as (λ o_. RingsHome (queued_for v id o_)) [ None ↦ h | Some p' ↦ record { moves = h.moves; ring = h.ring; known = h.known; preds = h.preds } ] in
    subst (Kept pt.view.acting) (let f : moved pt (Line.Queued id) pt.kernel ≡ pt' = cc in f) ((search (arith, rings_queued, rings_same, queue_lists, queued_acting)))

pub first_keeps : NoneReplaced → (r e : MsgId → ℕ) (pt pt' : Point) (p : Part) (ls : List Line) → FirstGood pt.kernel e pt.view.acting p → Home r e pt → lines_of pt p ≡ Some ls → after pt ls ≡ Some pt' → Kept pt.view.acting pt'
first_keeps none r e pt pt' p ls good h is next = elim good [
  | inl any ↦ part_keeps none r e pt pt' p ls any h is next
  | inr said ↦ grind (arith, nat_tests, label_keeps, queued_keeps)
]

good_keep : NoneReplaced → (ps : List Part) (r e : MsgId → ℕ) (m : ℕ) (pt : Point) (w : Spelled) → pt.view.acting ≡ m → PartsGood pt.kernel e m ps → Home r e pt → spelled pt ps ≡ Some w → AskNone w.lines → Kept m w.point
good_keep none [] r e m pt w acting at h is ask = parts_keep none [] r e m pt w acting tt h is
good_keep none (p ∷ ps) r e m pt w acting at h is ask =
    let (ls, lines, rest) = bind-is (lines_of pt p) (λ (xs : List Line). bind (after pt xs) (λ (q : Point). bind (spelled q ps) (λ (z : Spelled). Some (behind xs z)))) w is in
    let (next, comes, last) = bind-is (after pt ls) (λ (q : Point). bind (spelled q ps) (λ (z : Spelled). Some (behind ls z))) w rest in
    let (z, more, end) = bind-is (spelled next ps) (λ (y : Spelled). Some (behind ls y)) w last in
    let f : behind ls z ≡ w = cc in
    elim at [
      | inl good ↦
          let k = first_keeps none r e pt next p ls (subst (λ (n : ℕ). FirstGood pt.kernel e n p) (sym acting) good.0) h lines comes in
          subst (λ (x : Spelled). Kept m x.point) f (parts_keep none ps k.r k.e m next z (k.acting ∙ acting) good.1 k.home more)
      | inr asked ↦ absurd (not_asked pt asked.0 p ls asked.1 lines (ask_first ls z.lines (subst (λ (x : Spelled). AskNone x.lines) (sym f) ask)))
    ]

-- the head
pub begun_home : (r e : MsgId → ℕ) (pt : Point) (m : ℕ) → Home r e pt → Home r e (record { kernel = pt.kernel; view = begins pt.view m NothingElse; addresses = pt.addresses })
begun_home r e pt m h = record { sound = h.sound; at = h.at; rings = record { moves = h.rings.moves; ring = h.rings.ring; known = h.rings.known; preds = h.rings.preds }; lists = record { inbox = h.lists.inbox; queue = h.lists.queue; untaken = h.lists.untaken } }

spells : NoneReplaced → (r e : MsgId → ℕ) (m : ℕ) (begun : Point) (ps : List Part) (d : Step) (w : Spelled) → begun.view.acting ≡ m → PartsGood begun.kernel e m ps → Home r e begun
    → bind (spelled begun ps) (λ (z : Spelled). Some (behind (Line.Head d ∷ []) z)) ≡ Some w → AskNone w.lines → Kept m w.point
spells none r e m begun ps d w acting good h is ask =
    let (z, more, end) = bind-is (spelled begun ps) (λ (y : Spelled). Some (behind (Line.Head d ∷ []) y)) w is in
    let f : behind (Line.Head d ∷ []) z ≡ w = cc in
    subst (λ (x : Spelled). Kept m x.point) f (good_keep none ps r e m begun z acting good h more (subst (λ (x : Spelled). AskNone x.lines) (sym f) ask).1)

-- a group whose parts are good where the run stands
pub group_keeps : NoneReplaced → (b : Boot) (r e : MsgId → ℕ) (pt : Point) (d : Step) (w : Spelled) → IsStill d → group_of b pt d ≡ Some w → AskNone w.lines → Home r e pt
    → ((ps : List Part) → outcome b pt d ≡ Some ps → PartsGood pt.kernel e (actor pt.view d) ps) → Kept (actor pt.view d) w.point
group_keeps none b r e pt (Step.Turn m) w still is ask h good =
    let (ps, comes, rest) = bind-is (outcome b pt (Step.Turn m)) (λ (xs : List Part). bind (after_line pt (Line.Head (Step.Turn m))) (λ (q : Point). bind (spelled q xs) (λ (z : Spelled). Some (behind (Line.Head (Step.Turn m) ∷ []) z)))) w is in
    spells none r e m (moved pt (Line.Head (Step.Turn m)) pt.kernel) ps (Step.Turn m) w refl (good ps comes) (begun_home r e pt m h) rest ask
group_keeps none b r e pt (Step.Tick m) w still is ask h good =
    let (ps, comes, rest) = bind-is (outcome b pt (Step.Tick m)) (λ (xs : List Part). bind (after_line pt (Line.Head (Step.Tick m))) (λ (q : Point). bind (spelled q xs) (λ (z : Spelled). Some (behind (Line.Head (Step.Tick m) ∷ []) z)))) w is in
    spells none r e m (moved pt (Line.Head (Step.Tick m)) pt.kernel) ps (Step.Tick m) w refl (good ps comes) (begun_home r e pt m h) rest ask
group_keeps none b r e pt (Step.Deliver a c k) w still is ask h good =
    let (ps, comes, rest) = bind-is (outcome b pt (Step.Deliver a c k)) (λ (xs : List Part). bind (after_line pt (Line.Head (Step.Deliver a c k))) (λ (q : Point). bind (spelled q xs) (λ (z : Spelled). Some (behind (Line.Head (Step.Deliver a c k) ∷ []) z)))) w is in
    let v = begins pt.view c NothingElse in
    let begun = begun_home r e pt c h in
    let p = marked (pt.view.pair a c) k in
    spells none r e c (moved pt (Line.Head (Step.Deliver a c k)) pt.kernel) ps (Step.Deliver a c k) w refl (good ps comes)
    (record { sound = h.sound; at = h.at; rings = rings_same v (view.with_pair v a c p) refl refl refl refl begun.rings; lists = same_lists pt.kernel e v a c p refl refl begun.lists }) rest ask
group_keeps none b r e pt (Step.Migrate p m) w still is ask h good = absurd still
group_keeps none b r e pt (Step.CallOff p m) w still is ask h good =
    let (ps, comes, rest) = bind-is (outcome b pt (Step.CallOff p m)) (λ (xs : List Part). bind (after_line pt (Line.Head (Step.CallOff p m))) (λ (q : Point). bind (spelled q xs) (λ (z : Spelled). Some (behind (Line.Head (Step.CallOff p m) ∷ []) z)))) w is in
    spells none r e m (moved pt (Line.Head (Step.CallOff p m)) pt.kernel) ps (Step.CallOff p m) w refl (good ps comes) (begun_home r e pt m h) rest ask

-- parts that may stand anywhere
parts_append : (m : ℕ) (ps qs : List Part) → PartsAnywhere m ps → PartsAnywhere m qs → PartsAnywhere m (ps ++ qs)
parts_append m [] qs h k = k
parts_append m (p ∷ ps) qs h k = (h.0, parts_append m ps qs h.1 k)

repeats_good : (m a b : ℕ) (ns : List ℕ) → PartsAnywhere m (rule.repeats a b ns)
repeats_good m a b [] = tt
repeats_good m a b (n ∷ ns) = (tt, repeats_good m a b ns)

pub resends_good : (m n : ℕ) (v : View) (b : ℕ) → PartsAnywhere m (rule.resends v n b)
resends_good m n v zero = tt
resends_good m n v (suc b) =
    let ns = rule.numbers_from (v.pair n b).acked ((v.pair n b).gone - (v.pair n b).acked) in
    parts_append m (rule.resends v n b) (if n == b then [] else rule.repeats n b ns) (resends_good m n v b) (by_test (PartsAnywhere m) (n == b) [] (rule.repeats n b ns) tt (repeats_good m n b ns))

takes_good : (m a b : ℕ) (ns : List ℕ) → PartsAnywhere m (rule.taking_parts a b ns)
takes_good m a b [] = tt
takes_good m a b (n ∷ ns) = (tt, takes_good m a b ns)

comes_good : (m a b : ℕ) (p q : Pair) (l : Load) → PartsAnywhere m (rule.comes a b p q l)
comes_good m a b p q (Load.Data n) = search (arith, by_test, parts_append, takes_good)
comes_good m a b p q (Load.Ack n) = (tt, repeats_good m b a (rule.let_go q (at_least q.acked n)))

pub deliver_keeps : NoneReplaced → (b : Boot) (r e : MsgId → ℕ) (pt : Point) (a c k : ℕ) (w : Spelled) → group_of b pt (Step.Deliver a c k) ≡ Some w → AskNone w.lines → Home r e pt → Kept c w.point
deliver_keeps none b r e pt a c k w is ask h =
    group_keeps none b r e pt (Step.Deliver a c k) w tt is ask h
    (λ ps comes. let parts = rule.arrives a c (pt.view.pair a c) (pt.view.pair c a) (slice_get (pt.view.pair a c).wire k) in
    subst (PartsGood pt.kernel e c) (let f : parts ≡ ps = cc in f)
    ((elim parts as (λ ps_. PartsAnywhere c ps_ → PartsGood pt.kernel e c ps_) [ [] ↦ λ h'. tt | p' ∷ ps' ↦ λ h'. inl (inl h'.0, h'.1) ])
    (elim (slice_get (pt.view.pair a c).wire k) as (λ o_. PartsAnywhere c (rule.arrives a c (pt.view.pair a c) (pt.view.pair c a) o_)) [ None ↦ (tt, tt) | Some s' ↦ comes_good c a c (pt.view.pair a c) (pt.view.pair c a) s'.load ])))
