-- Behind the lines of a still row as many pieces were asked for as before, and a kernel's own message that stands somewhere stood there before.
use Rattle.dm_law_mirror.proofs.Names.{◌≡◌, ℕ, ◌≤◌, ◌&&◌, Bool, true, false, List, [], ◌∷◌, ◌++◌, map, refl, ap, ◌∙◌, subst, arith, Option, None, Some, false≢true, Pid, MsgId, nat_tests, MessageKind, Label, OneKernel, bind, id_eq-is, pid_eq-is}
use Rattle.dm_law_mirror.proofs.Names.{bind-is, Line, Says, Point, after, after_line, kernel_after, label_of, moved, without_front, without_id, Spot, times, standing, View, Told, after_label, view_after, handled, queued_for, dropped_for}
use Rattle.dm_law_mirror.proofs.Names.{receiver_of, is_kernels, eq_is, queued_spots, Needs, Walks, not, ⊤, PlainMessage, Step, Boot, letter_of, Phased, told_some, Begins, WalksOf, resting, round_walks, handles_walks, by_hears, about_off, seen}
use Rattle.dm_law_mirror.proofs.Names.{sort_of, is_waited_from, knowing, NeedsLabel, Resting, is_kill, ◌==◌, if◌then◌else◌, sym, Known, Here, Unknown, pid_eq, eqb-true}
use Rattle.dm_law_rule.proofs.Names.{Part}
use Rattle.dm_law_rule.proofs.Lines.{parts}
use Rattle.dm_law_always.specs.KnownStands.{KnownStands}
use Rattle.dm_law_always.proofs.Based.Groups.{begins}
use Rattle.dm_law_always.proofs.Based.Rows.{turned}
use Rattle.dm_law_mirror.proofs.Turning.{is_still, are_still, rule_given, Gives, Sends, Tells}
use Rattle.dm_law_rule.specs.View as view
use Rattle.dm_law_rule.specs.Rule as rule

front_fewer : (i j : MsgId) (xs : List MsgId) → times j (without_front i xs) ≤ times j xs
front_fewer i j xs = grind (arith, nat_tests)

id_fewer : (i j : MsgId) (xs : List MsgId) → times j (without_id i xs) ≤ times j xs
id_fewer i j [] = omega arith
id_fewer i j (x ∷ xs) = grind (arith, nat_tests, (id_fewer i j xs))

-- no message stands more often
abbrev pub Fewer : View → View → Type 0
Fewer v w = (j : MsgId) (z : Spot) → standing w j z ≤ standing v j z

pub fewer_on : (u v w : View) → Fewer u v → Fewer v w → Fewer u w
fewer_on u v w g h j z = let a = g j z in let b = h j z in omega (arith, a, b)

pub handled_fewer : (v : View) (i : MsgId) → Fewer v (handled v i)
handled_fewer v i j z = grind (arith, nat_tests, eq_is, front_fewer)

dropped_fewer : (v : View) (i : MsgId) (o : Option Pid) → Fewer v (dropped_for v i o)
dropped_fewer v i o j z = grind (arith, nat_tests, parts, pid_eq-is, eq_is, front_fewer)

received_fewer : (v : View) (p : Pid) (i : MsgId) → Fewer v (after_label v (Label.Receive p i))
received_fewer v p i j z = grind (arith, nat_tests, parts, pid_eq-is, eq_is, id_fewer)

pub ended_fewer : (v : View) (p : Pid) → Fewer v (view.ended v p)
ended_fewer v p j z = grind (arith, nat_tests)

same_fewer : (v : View) → Fewer v v
same_fewer v j z = omega arith

told_fewer : (v : View) (o : Option Told) → Fewer v (view.served_told v o)
told_fewer v o j z = grind (arith, nat_tests)

created_fewer : (v : View) (i : MsgId) (p : Pid) → Fewer (handled v i) (after_label v (Label.Created i p))
created_fewer v i p j z = grind (arith, nat_tests)

label_fewer : (v : View) (e : Label) → Fewer v (after_label v e)
label_fewer v (Label.Ran p k) = let serving_fewer : (v : View) (p : Pid) → Fewer v (view.serving v p) = λ v p j z. grind (arith, nat_tests) in serving_fewer v p
label_fewer v (Label.End p y) = ended_fewer v p
label_fewer v (Label.Receive p id) = received_fewer v p id
label_fewer v (Label.Refuse p id c) = let serving_fewer : (v : View) (p : Pid) → Fewer v (view.serving v p) = λ v p j z. grind (arith, nat_tests) in serving_fewer v p
label_fewer v (Label.Dropped id) = fewer_on v (handled v id) (after_label v (Label.Dropped id)) (handled_fewer v id) (dropped_fewer (handled v id) id (receiver_of (v.told id)))
label_fewer v (Label.Served id) = fewer_on v (handled v id) (after_label v (Label.Served id)) (handled_fewer v id) (told_fewer (handled v id) (v.told id))
label_fewer v (Label.Gone id) = handled_fewer v id
label_fewer v (Label.Took id) = handled_fewer v id
label_fewer v (Label.Created id p) = fewer_on v (handled v id) (after_label v (Label.Created id p)) (handled_fewer v id) (created_fewer v id p)
label_fewer v (Label.NoSpace id s b) = handled_fewer v id
label_fewer v (Label.Asked id) = handled_fewer v id
label_fewer v _ = same_fewer v

dropped_asked : (v : View) (id : MsgId) (o : Option Pid) → (dropped_for v id o).asked ≡ v.asked
dropped_asked v id o = grind (arith, nat_tests)

-- a machine awaits a process from another as before
abbrev pub AwaitsAs : View → View → Type 0
AwaitsAs v w = (n : ℕ) (p : Pid) (from : ℕ) → is_waited_from from (w.known n p) ≡ is_waited_from from (v.known n p)

set_by : (c : Bool) (x y : Known) (from : ℕ) → is_waited_from from x ≡ false → (c ≡ true → is_waited_from from y ≡ false) → is_waited_from from (if c then x else y) ≡ is_waited_from from y
set_by true x y from e f = e ∙ sym (f refl)
set_by false x y from e f = refl

pub awaits_set : (v : View) (p : Pid) (x : Known) → ((from : ℕ) → is_waited_from from x ≡ false) → ((from : ℕ) → is_waited_from from (v.known v.acting p) ≡ false) → AwaitsAs v (knowing v p x)
awaits_set v p x off was n q from = set_by ((v.acting == n) && pid_eq p q) x (v.known n q) from (off from) (λ e.
    let both = parts (v.acting == n) (pid_eq p q) e in
    ap (λ (a : ℕ). is_waited_from from (v.known a q)) (sym (eqb-true v.acting n both.0)) ∙ ap (λ (r : Pid). is_waited_from from (v.known v.acting r)) (sym (pid_eq-is p q both.1)) ∙ was from)

rests_awaits : (v : View) (p : Pid) → Resting v p → AwaitsAs v (knowing v p Unknown)
rests_awaits v p h = awaits_set v p Unknown (λ from. refl) (λ from. ap (is_waited_from from) h.here)

kind_awaits : (v : View) (p : Pid) (k : MessageKind) → (is_kill k ≡ true → Resting v p) → AwaitsAs v (view.ends_by (sort_of k) v (Some p))
kind_awaits v p MessageKind.Kill rests = rests_awaits v p (rests refl)
kind_awaits v p _ rests = λ n q from. refl

dropped_known : (v : View) (id : MsgId) (o : Option Pid) → (dropped_for v id o).known ≡ v.known
dropped_known v id o = grind (arith, nat_tests)

label_awaits : (pt : Point) (e : Label) → NeedsLabel pt e → AwaitsAs pt.view (after_label pt.view e)
label_awaits pt (Label.End p y) need = rests_awaits pt.view p need
label_awaits pt (Label.Created id p) need = awaits_set pt.view p Here (λ from. refl) (λ from. ap (is_waited_from from) (need.unknown pt.view.acting))
label_awaits pt (Label.Served id) need = λ n q from.
    let v = handled pt.view id in
    ap (λ (o : Option Told). is_waited_from from ((view.served_told v o).known n q)) need.is ∙ kind_awaits v need.told.receiver need.told.kind (λ k. let h = need.rests k in record { here = h.here; away = h.away }) n q from
label_awaits pt (Label.Dropped id) need = λ n q from. let v = handled pt.view id in ap (λ (f : ℕ → Pid → Known). is_waited_from from (f n q)) (dropped_known v id (receiver_of (v.told id)))
label_awaits pt _ need = λ n q from. refl

pub record StillKeeps (v w : View) : Type 0 where
  pub asked : w.asked ≡ v.asked
  pub awaits : AwaitsAs v w
  pub stood : (i : MsgId) (z : Spot) → is_kernels i ≡ true → 1 ≤ standing w i z → 1 ≤ standing v i z

fewer_keeps : (v w : View) → w.asked ≡ v.asked → AwaitsAs v w → Fewer v w → StillKeeps v w
fewer_keeps v w asked awaits fewer = record { asked = asked; awaits = awaits; stood = λ i z mine least. (let f = fewer i z in omega (arith, least, f)) }

still_on : (u v w : View) → StillKeeps u v → StillKeeps v w → StillKeeps u w
still_on u v w g h = record { asked = h.asked ∙ g.asked; awaits = λ n p from. h.awaits n p from ∙ g.awaits n p from; stood = λ i z mine least. g.stood i z mine (h.stood i z mine least) }

queued_keeps : (pt : Point) (id : MsgId) (o : Option Told) → pt.view.told id ≡ o → Needs pt (Line.Queued id) → StillKeeps (handled pt.view id) (queued_for (handled pt.view id) id (receiver_of o))
queued_keeps pt id None e need = fewer_keeps (handled pt.view id) (handled pt.view id) refl (λ n p from. refl) (same_fewer (handled pt.view id))
queued_keeps pt id (Some t) e need = record {
  asked = refl;
  awaits = λ n p from. refl;
  stood = λ i z mine least. subst (λ (n : ℕ). 1 ≤ n) (queued_spots (handled pt.view id) id i (Some t.receiver) (grind (arith, nat_tests, id_eq-is, (need t e).other)) z) least;
}

line_keeps : (pt : Point) (l : Line) → is_still l ≡ true → Needs pt l → StillKeeps pt.view (view_after pt.view l)
line_keeps pt (Line.Label e) still need = fewer_keeps pt.view (after_label pt.view e) (grind (arith, nat_tests, dropped_asked)) (label_awaits pt e need) (label_fewer pt.view e)
line_keeps pt (Line.Queued id) still need =
    let v = handled pt.view id in
    still_on pt.view v (view_after pt.view (Line.Queued id)) (fewer_keeps pt.view v refl (λ n p from. refl) (handled_fewer pt.view id)) (queued_keeps pt id (pt.view.told id) refl need)
line_keeps pt (Line.Idle m) still need = fewer_keeps pt.view pt.view refl (λ n p from. refl) (same_fewer pt.view)
line_keeps pt l still need = absurd (false≢true still)

-- the topic is no part of it
seen_keeps : (pt : Point) (l : Line) → is_still l ≡ true → Needs pt l → StillKeeps pt.view (seen pt.kernel pt.view l)
seen_keeps pt l still need =
    let h = line_keeps pt l still need in
    let w = view_after pt.view l in
    record { asked = h.asked; awaits = h.awaits; stood = λ i z mine least. h.stood i z mine (subst (λ (is : List MsgId). 1 ≤ times i is) (about_off w (seen pt.kernel pt.view l).topic z) least) }

-- all lines of the row
pub still_keeps : (rest : List Part) (says : List Line) (pt next : Point) → are_still says ≡ true → Walks pt (map Says says ++ rest) → after pt says ≡ Some next → StillKeeps pt.view next.view
still_keeps rest [] pt next still walks leads = let e : pt ≡ next = cc in subst (λ (q : Point). StillKeeps pt.view q.view) e (fewer_keeps pt.view pt.view refl (λ n p from. refl) (same_fewer pt.view))
still_keeps rest (l ∷ ls) pt next still walks leads =
    let two = parts (is_still l) (are_still ls) still in
    let (mid, first, last) = bind-is (after_line pt l) (λ (q : Point). after q ls) next leads in
    let (s, step_, then_) = bind-is (kernel_after pt.kernel (label_of l)) (λ (s : OneKernel). Some (moved pt l s)) mid first in
    let is : moved pt l s ≡ mid = cc in
    let one : StillKeeps pt.view mid.view = subst (λ (q : Point). StillKeeps pt.view q.view) is (seen_keeps pt l two.0 walks.0) in
    let leads_one : after pt (l ∷ []) ≡ Some mid = ap (λ (o : Option Point). bind o (λ (q : Point). after q [])) first in
    still_on pt.view mid.view next.view one (still_keeps rest ls mid next two.1 (walks.1 mid (record { lines = l ∷ []; are = refl; leads = leads_one })) last)

-- What a machine does with a kernel's own message says no label first, and so a row that says only labels, queued messages or
-- that the machine idles is about a message of the bag, or about none: each of its lines has what it needs.

-- the first part says another line than those of a still row
abbrev pub is_loud : Part → Bool
is_loud (Says l) = not (is_still l)
is_loud _ = false

abbrev pub Loud : List Part → Type 0
Loud [] = ⊥
Loud (p ∷ ps) = is_loud p ≡ true

abbrev pub LoudOf : Option (List Part) → Type 0
LoudOf None = ⊤
LoudOf (Some ps) = Loud ps

loud_of : (o : Option (List Part)) → ((ps : List Part) → o ≡ Some ps → Loud ps) → LoudOf o
loud_of None h = tt
loud_of (Some ps) h = h ps refl

pub hears_loud : (b : Boot) (pt : Point) (m : ℕ) (id : MsgId) (o : Option Told) → LoudOf (rule.hears b pt m id o)
hears_loud b pt m id o = loud_of (rule.hears b pt m id o) (λ ps. by_hears Loud b pt m id o ps (λ t is. search))

-- a row that says only still lines, and may route messages
abbrev pub still_parts : List Line → Gives → List Part
still_parts says route = map Part.Says says ++ rule_given route

still_not_loud : (says : List Line) (route : Gives) → are_still says ≡ true → Loud (still_parts says route) → ⊥
still_not_loud [] (Sends None) e h = h
still_not_loud [] (Sends (Some x)) e h = false≢true h
still_not_loud [] (Tells []) e h = h
still_not_loud [] (Tells (x ∷ xs)) e h = false≢true h
still_not_loud (l ∷ ls) route e h = grind (arith, nat_tests)

-- each line of it has what it needs
comes_walk : (b : Boot) (pt : Point) (m : ℕ) (i : MsgId) (o : Option PlainMessage) (says : List Line) (route : Gives) → Begins pt m → pt.kernel.bag i ≡ o → are_still says ≡ true → rule.comes_to b pt m i o ≡ Some (still_parts says route)
    → Walks (turned pt m) (still_parts says route)
comes_walk b pt m i None says route h there still e = absurd (still_not_loud says route still (subst LoudOf e (hears_loud b pt m i (pt.view.told i))))
comes_walk b pt m i (Some msg) says route h there still e =
    let s = h.state in
    let (t, told) = told_some (pt.view.told i) msg.to (s.stands.told i msg.to (letter_of s.r s.e s.own pt.kernel i msg there s.sound)) in
    subst (WalksOf (turned pt m)) e (handles_walks b pt m i msg h.sane h.phases h.rooted h.known (record { there = there; told = t; is = told }))

turn_walk : (b : Boot) (pt : Point) (m : ℕ) (inbox : List MsgId) (says : List Line) (route : Gives) → Begins pt m → are_still says ≡ true → rule.turns b pt m inbox ≡ Some (still_parts says route) → Walks (turned pt m) (still_parts says route)
turn_walk b pt m [] says route h still e =
    subst (WalksOf (turned pt m)) e
    (round_walks (turned pt m) b pt m (rule.first_runnable pt.kernel (pt.view.queue m) (pt.view.ring m)) (λ p is. resting (turned pt m).view p h.phases (h.rooted.served m p is)))
turn_walk b pt m (i ∷ is) says route h still e = comes_walk b pt m i (pt.kernel.bag i) says route h refl still e

pub row_walks : (b : Boot) (pt : Point) (m : ℕ) (says : List Line) (route : Gives) → Phased pt → KnownStands pt.kernel pt.view → are_still says ≡ true → rule.outcome b pt (Step.Turn m) ≡ Some (still_parts says route) → Walks (turned pt m) (still_parts says route)
row_walks b pt m says route phased known still e = turn_walk b pt m (pt.view.inbox m) says route (begins pt m phased known) still e
