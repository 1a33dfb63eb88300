-- Rings list what is here, and nothing is known of what was never made: a line after the other.
use Rattle.dm_law_rule.proofs.Names.{◌≡◌, ℕ, ◌+◌, ◌≤◌, ◌==◌, not, filter, [], ◌∷◌, ◌++◌, refl, ap, ◌∙◌, sym, subst, ⊤, Option, None, Some, Pid, MsgId, MessageKind, Step, Stage, Label, bind, Life, Alive, OneKernel, Line, at_machine, at_record}
use Rattle.dm_law_rule.proofs.Names.{without, moved_back, View, Told, About, Of, Known, Unknown, Here, Frozen, Incoming, view_after, handled, receiver_of, ends_by, served_told, front_of, gone_to, Point, label_of, kernel_after, pid_eq-same}
use Rattle.dm_law_rule.proofs.Names.{bind-is, when-is, nexts, after_step, at_hand-is, seen, sort_of, arith, goes_back, ring_with}
use Rattle.dm_law_rule.proofs.Seen.{aim, sets}
use Rattle.dm_law_rule.proofs.Telling.{Sane}
use Rattle.dm_law_rule.proofs.Rings.{Rings, all_moved, learnt_without, learnt_last, learnt_with, rings_same, rings_ring, rings_learn, rings_known}
use Rattle.dm_law_rule.proofs.Lives.{Lives, Lived, Kept, grown_none, lives_same, lives_learn}
use Rattle.dm_onekernel.specs.Service as service
use Rattle.dm_onekernel.specs.Step as kernel
use Rattle.dm_law_rule.specs.View as view

pub record Roots (s : OneKernel) (v : View) : Type 0 where
  pub rings : Rings v
  pub lives : Lives s v

-- neither what machines know nor a ring changes
record Idles (v w : View) : Type 0 where
  known : w.known ≡ v.known
  ring : w.ring ≡ v.ring

idles : (v : View) → Idles v v
idles v = record { known = refl; ring = refl }

roots_idle : (s t : OneKernel) (v w : View) → Kept s t → Idles v w → Roots s v → Roots t w
roots_idle s t v w kept i h = record { rings = rings_same v w i.known i.ring h.rings; lives = lives_same s t v w kept i.known h.lives }

-- one machine's ring, or what it knows of a process, or both
roots_ring : (s t : OneKernel) (v w : View) (p : Pid) → Kept s t → w.known ≡ v.known → w.ring ≡ at_machine v.ring v.acting (moved_back p (v.ring v.acting)) → v.known v.acting p ≡ Here → Roots s v → Roots t w
roots_ring s t v w p kept known is here h = record {
  rings = rings_ring v w (moved_back p (v.ring v.acting)) known is (all_moved (v.known v.acting) p (v.ring v.acting) here (h.rings.each v.acting)) h.rings;
  lives = lives_same s t v w kept known h.lives;
}

roots_leaves : (s t : OneKernel) (v w : View) (p : Pid) (k : Known) → Kept s t → Lived t p → w.known ≡ at_record v.known v.acting p k → w.ring ≡ at_machine v.ring v.acting (without p (v.ring v.acting)) → Roots s v → Roots t w
roots_leaves s t v w p k kept lived known is h = record {
  rings = rings_learn v w p k (without p (v.ring v.acting)) known is (learnt_without (v.known v.acting) p k (v.ring v.acting) (h.rings.each v.acting)) h.rings;
  lives = lives_learn s t v w p k kept known (λ none le. absurd (lived none le)) h.lives;
}

roots_comes : (s t : OneKernel) (v w : View) (p : Pid) → Kept s t → Lived t p → w.known ≡ at_record v.known v.acting p Here → w.ring ≡ at_machine v.ring v.acting (v.ring v.acting ++ p ∷ []) → Roots s v → Roots t w
roots_comes s t v w p kept lived known is h = record {
  rings = rings_learn v w p Here (v.ring v.acting ++ p ∷ []) known is (learnt_last (v.known v.acting) p (v.ring v.acting) (h.rings.each v.acting)) h.rings;
  lives = lives_learn s t v w p Here kept known (λ none le. absurd (lived none le)) h.lives;
}

roots_joins : (s t : OneKernel) (v w : View) (p : Pid) → Kept s t → Lived t p → w.known ≡ at_record v.known v.acting p Here → w.ring ≡ at_machine v.ring v.acting (ring_with (v.ring v.acting) p) → Roots s v → Roots t w
roots_joins s t v w p kept lived known is h = record {
  rings = rings_learn v w p Here (ring_with (v.ring v.acting) p) known is (learnt_with (v.known v.acting) p (v.ring v.acting) (h.rings.each v.acting)) h.rings;
  lives = lives_learn s t v w p Here kept known (λ none le. absurd (lived none le)) h.lives;
}

roots_known : (s t : OneKernel) (v w : View) (p : Pid) (k : Known) → Kept s t → (t.processes p ≡ None → 3 ≤ p.num → k ≡ Unknown) → w.known ≡ at_record v.known v.acting p k → w.ring ≡ v.ring → (v.known v.acting p ≡ Here → k ≡ Here) → Roots s v → Roots t w
roots_known s t v w p k kept new known is keeps h = record { rings = rings_known v w p k known is keeps h.rings; lives = lives_learn s t v w p k kept known new h.lives }

served_roots : (s : OneKernel) (v : View) (o : Option Told) → ((t : Told) → o ≡ Some t → Lived s t.receiver) → Roots s v → Roots s (served_told v o)
served_roots s v None lived h = h
served_roots s v (Some t) lived h = elim t.kind as (λ k. Roots s (ends_by (sort_of k) v (Some t.receiver)))
    [ MessageKind.Kill ↦ roots_leaves s s v (view.ended v t.receiver) t.receiver Unknown (λ q e. e) (lived t refl) refl refl h | _ ↦ h ]

-- a process that is here nowhere is forgotten
forgotten_roots : (s : OneKernel) (v : View) (a : About) → ((p : Pid) → a ≡ Of p → v.known v.acting p ≡ Here → ⊥) → Roots s v → Roots s (view.forgotten v a)
forgotten_roots s v (Of p) off h = roots_known s s v (view.forgotten v (Of p)) p Unknown (λ q e. e) (λ none le. refl) refl refl (λ here. absurd (off p refl here)) h
forgotten_roots s v _ off h = h

buried_roots : (s : OneKernel) (v : View) (o : Option Told) → ((t : Told) (p : Pid) → o ≡ Some t → t.about ≡ Of p → v.known v.acting p ≡ Here → ⊥) → Roots s v → Roots s (view.buried_for v o)
buried_roots s v None off h = h
buried_roots s v (Some t) off h = forgotten_roots s v t.about (λ p. off t p refl) h

-- what steps of the kernel say of the process that they name
pub kept_by : (s t : OneKernel) (l : Option Label) (pt : Point) → Sane pt → pt.kernel ≡ s → kernel_after s l ≡ Some t → Kept s t
kept_by s t None pt h is e p none = ap (λ (k : OneKernel). k.processes p) (let f : s ≡ t = cc in f) ∙ none
kept_by s t (Some l) pt h is e p none =
    ap (λ (k : OneKernel). k.processes p) (sym is) ∙ grown_none (pt.kernel.processes p) (t.processes p) ((after_step h.r h.e pt.kernel t l (ap (λ (k : OneKernel). kernel.step k l) is ∙ e) h.sound).grown.lives p) none

alive_lived : (s t : OneKernel) (p : Pid) (l : Life) → Kept s t → s.processes p ≡ Some l → Lived t p
alive_lived s t p l kept is none le = absurd (let f : Some l ≡ None = sym is ∙ kept p none in cc)

served_lived : (pt : Point) (t : OneKernel) (id : MsgId) → Sane pt → Kept pt.kernel t → kernel.step pt.kernel (Label.Served id) ≡ Some t → (u : Told) → pt.view.told id ≡ Some u → Lived t u.receiver
served_lived pt t id h kept e u told none le =
    let (m, there, rest) = bind-is (pt.kernel.bag id) (λ m. bind (kernel.at_hand pt.kernel m.to) (λ p. service.serves pt.kernel id m p m.what)) t e in
    let (x, hand, last) = bind-is (kernel.at_hand pt.kernel m.to) (λ p. service.serves pt.kernel id m p m.what) t rest in
    let (free, alive) = at_hand-is pt.kernel m.to x hand in
    let to : u.receiver ≡ m.to = h.tells.receiver id m u there told in
    alive_lived pt.kernel t m.to (Alive x) kept alive (ap t.processes (sym to) ∙ none) (subst (λ (q : Pid). 3 ≤ q.num) to le)

-- what a line needs: a process that is served is here, one that migrates was made, and one that is accepted isn't here yet, nor is one
-- that is forgotten
abbrev pub NeedsLabel : Point → Label → Type 0
NeedsLabel pt (Label.Ran p k) = pt.view.known pt.view.acting p ≡ Here
NeedsLabel pt (Label.Receive p id) = pt.view.known pt.view.acting p ≡ Here
NeedsLabel pt (Label.Refuse p id c) = pt.view.known pt.view.acting p ≡ Here
NeedsLabel pt _ = ⊤

abbrev pub Needs : Point → Line → Type 0
Needs pt (Line.Label l) = NeedsLabel pt l
Needs pt (Line.Migration Stage.Frozen p) = Lived pt.kernel p
Needs pt (Line.Migration Stage.Asked p) = ⊤
Needs pt (Line.Migration Stage.Accepted p) = Lived pt.kernel p × (pt.view.known pt.view.acting p ≡ Here → ⊥)
Needs pt (Line.Migration Stage.StateTaken p) = ⊤
Needs pt (Line.Migration Stage.MemoryTaken p) = ⊤
Needs pt (Line.Migration Stage.Left p) = ⊤
Needs pt (Line.Migration Stage.Restarted p) = Lived pt.kernel p
Needs pt (Line.Stays p) = Lived pt.kernel p
Needs pt (Line.Buried id n) = (t : Told) (p : Pid) → pt.view.told id ≡ Some t → t.about ≡ Of p → pt.view.known pt.view.acting p ≡ Here → ⊥
Needs pt _ = ⊤

label_roots : (pt : Point) (t : OneKernel) (l : Label) → NeedsLabel pt l → Sane pt → Kept pt.kernel t → kernel.step pt.kernel l ≡ Some t → Roots pt.kernel pt.view → Roots t (view_after pt.view (Line.Label l))
label_roots pt t (Label.Ran p k) need sane kept e h = roots_ring pt.kernel t pt.view (view_after pt.view (Line.Label (Label.Ran p k))) p kept refl refl need h
label_roots pt t (Label.End p y) need sane kept e h =
    let (x, next, rest) = bind-is (kernel.next_trap pt.kernel p) (kernel.ends pt.kernel p y) t e in
    let n = nexts pt.kernel p x next in
    roots_leaves pt.kernel t pt.view (view_after pt.view (Line.Label (Label.End p y))) p Unknown kept (alive_lived pt.kernel t p (Alive n.x) kept n.is.alive) refl refl h
label_roots pt t (Label.Receive p id) need sane kept e h = roots_ring pt.kernel t pt.view (view_after pt.view (Line.Label (Label.Receive p id))) p kept refl refl need h
label_roots pt t (Label.Refuse p id c) need sane kept e h = roots_ring pt.kernel t pt.view (view_after pt.view (Line.Label (Label.Refuse p id c))) p kept refl refl need h
label_roots pt t (Label.Dropped id) need sane kept e h =
    let i = elim (receiver_of (pt.view.told id)) as (λ o. Idles (handled pt.view id) (view.dropped_for (handled pt.view id) id o))
    [ None ↦ idles (handled pt.view id) | Some p ↦ record { known = refl; ring = refl } ] in
    roots_idle pt.kernel t pt.view (view_after pt.view (Line.Label (Label.Dropped id))) kept (record { known = i.known; ring = i.ring }) h
label_roots pt t (Label.Served id) need sane kept e h =
    served_roots t (handled pt.view id) (pt.view.told id) (served_lived pt t id sane kept e) (roots_idle pt.kernel t pt.view (handled pt.view id) kept (record { known = refl; ring = refl }) h)
label_roots pt t (Label.Gone id) need sane kept e h = roots_idle pt.kernel t pt.view (handled pt.view id) kept (record { known = refl; ring = refl }) h
label_roots pt t (Label.Took id) need sane kept e h = roots_idle pt.kernel t pt.view (handled pt.view id) kept (record { known = refl; ring = refl }) h
label_roots pt t (Label.Created id p) need sane kept e h =
    let created_lived : Lived t p = let (m, there, rest) = bind-is (pt.kernel.bag id) (λ m. service.creates pt.kernel id m p m.what) t e in search (arith, bind-is, when-is, pid_eq-same) in
    roots_comes pt.kernel t pt.view (view_after pt.view (Line.Label (Label.Created id p))) p kept created_lived refl refl h
label_roots pt t (Label.NoSpace id a b) need sane kept e h = roots_idle pt.kernel t pt.view (handled pt.view id) kept (record { known = refl; ring = refl }) h
label_roots pt t (Label.Asked id) need sane kept e h = roots_idle pt.kernel t pt.view (handled pt.view id) kept (record { known = refl; ring = refl }) h
label_roots pt t _ need sane kept e h = record { rings = h.rings; lives = lives_same pt.kernel t pt.view pt.view kept refl h.lives }

gone_here : (k : Known) (moves : ℕ) → k ≡ Here → gone_to k moves ≡ Here
gone_here k moves e = ap (λ (x : Known). gone_to x moves) e

back_here : (k : Known) (moves : ℕ) → k ≡ Here → goes_back k moves ≡ Here
back_here k moves e = ap (λ (x : Known). goes_back x moves) e

-- the other lines
line_by : (pt : Point) (t : OneKernel) (l : Line) → Needs pt l → Sane pt → Kept pt.kernel t → kernel_after pt.kernel (label_of l) ≡ Some t → Roots pt.kernel pt.view → Roots t (view_after pt.view l)
line_by pt t (Line.Head (Step.Turn m)) need sane kept e h = roots_idle pt.kernel t pt.view (view_after pt.view (Line.Head (Step.Turn m))) kept (record { known = refl; ring = refl }) h
line_by pt t (Line.Head (Step.Tick m)) need sane kept e h = roots_idle pt.kernel t pt.view (view_after pt.view (Line.Head (Step.Tick m))) kept (record { known = refl; ring = refl }) h
line_by pt t (Line.Head (Step.Deliver a b k)) need sane kept e h = roots_idle pt.kernel t pt.view (view_after pt.view (Line.Head (Step.Deliver a b k))) kept (record { known = refl; ring = refl }) h
line_by pt t (Line.Head (Step.Migrate p m)) need sane kept e h = roots_idle pt.kernel t pt.view (view_after pt.view (Line.Head (Step.Migrate p m))) kept (record { known = refl; ring = refl }) h
line_by pt t (Line.Head (Step.CallOff p m)) need sane kept e h = roots_idle pt.kernel t pt.view (view_after pt.view (Line.Head (Step.CallOff p m))) kept (record { known = refl; ring = refl }) h
line_by pt t (Line.Label l) need sane kept e h = label_roots pt t l need sane kept e h
line_by pt t (Line.Migration Stage.Asked p) need sane kept e h = roots_idle pt.kernel t pt.view (view_after pt.view (Line.Migration Stage.Asked p)) kept (record { known = refl; ring = refl }) h
line_by pt t (Line.Migration Stage.StateTaken p) need sane kept e h = roots_idle pt.kernel t pt.view (view_after pt.view (Line.Migration Stage.StateTaken p)) kept (record { known = refl; ring = refl }) h
line_by pt t (Line.Migration Stage.MemoryTaken p) need sane kept e h = roots_idle pt.kernel t pt.view (view_after pt.view (Line.Migration Stage.MemoryTaken p)) kept (record { known = refl; ring = refl }) h
line_by pt t (Line.Queued id) need sane kept e h =
    -- lines that do neither
    let queued_idles : (v : View) (id : MsgId) (o : Option Pid) → Idles v (view.queued_for v id o) = λ v id o. elim o as (λ o_. Idles v (view.queued_for v id o_)) [ None ↦ idles v | Some p' ↦ record { known = refl; ring = refl } ] in
    let i = queued_idles (handled pt.view id) id (receiver_of (pt.view.told id)) in roots_idle pt.kernel t pt.view (view_after pt.view (Line.Queued id)) kept (record { known = i.known; ring = i.ring }) h
line_by pt t (Line.Held id) need sane kept e h =
    let held_idles : Idles (handled pt.view id) (view.held_for (handled pt.view id) id (receiver_of (pt.view.told id))) = search (arith, idles) in
    let i = held_idles in roots_idle pt.kernel t pt.view (view_after pt.view (Line.Held id)) kept (record { known = i.known; ring = i.ring }) h
line_by pt t (Line.Forwarded id m) need sane kept e h =
    let forwarded_idles : Idles (handled pt.view id) (view.forwarded_for (handled pt.view id) (receiver_of (pt.view.told id))) = search (arith, idles) in
    let i = forwarded_idles in roots_idle pt.kernel t pt.view (view_after pt.view (Line.Forwarded id m)) kept (record { known = i.known; ring = i.ring }) h
line_by pt t (Line.Proto id) need sane kept e h =
    let asks_idles : (v : View) (a : About) → Idles v (view.asks_on v a) = λ v a. elim a as (λ a_. Idles v (view.asks_on v a_)) [ Of p' ↦ record { known = refl; ring = refl } | _ ↦ idles v ] in
    let proto_idles : Idles (handled pt.view id) (view.after_proto (handled pt.view id) (pt.view.told id)) = search (arith, asks_idles, idles) in
    let i = proto_idles in roots_idle pt.kernel t pt.view (view_after pt.view (Line.Proto id)) kept (record { known = i.known; ring = i.ring }) h
line_by pt t (Line.Taken a b n) need sane kept e h =
    let p = pt.view.pair a b in
    let taken_idles : (v : View) (b : ℕ) (o : Option MsgId) → Idles v (view.taken_id v b o) = λ v b o. elim o as (λ o_. Idles v (view.taken_id v b o_)) [ None ↦ idles v | Some id' ↦ record { known = refl; ring = refl } ] in
    let i = taken_idles (view.with_pair pt.view a b (record p { taken = p.taken + 1; kept = filter (λ k. not (k == n)) p.kept })) b (view.oldest p) in
    roots_idle pt.kernel t pt.view (view_after pt.view (Line.Taken a b n)) kept (record { known = i.known; ring = i.ring }) h
line_by pt t (Line.Migration Stage.Frozen p) need sane kept e h =
    let k = sets pt.view p pt.view.topic in
    roots_leaves pt.kernel t pt.view (view_after pt.view (Line.Migration Stage.Frozen p)) p (Frozen (aim pt.view pt.view.topic)) kept (λ none le. need (kept p none) le) k.known k.ring h
line_by pt t (Line.Migration Stage.Accepted p) need sane kept e h = roots_known pt.kernel t pt.view (view_after pt.view (Line.Migration Stage.Accepted p)) p (Incoming (front_of (pt.view.inbox pt.view.acting))) kept (λ none le. absurd (need.0 (kept p none) le)) refl refl (λ here. absurd (need.1 here)) h
line_by pt t (Line.Migration Stage.Left p) need sane kept e h = roots_known pt.kernel t pt.view (view_after pt.view (Line.Migration Stage.Left p)) p (gone_to (pt.view.known pt.view.acting p) (pt.view.moves p + 1)) kept (λ none le. ap (λ (x : Known). gone_to x (pt.view.moves p + 1)) (h.lives.none p (kept p none) le pt.view.acting)) refl refl (gone_here (pt.view.known pt.view.acting p) (pt.view.moves p + 1)) h
line_by pt t (Line.Migration Stage.Restarted p) need sane kept e h = roots_joins pt.kernel t pt.view (view_after pt.view (Line.Migration Stage.Restarted p)) p kept (λ none le. need (kept p none) le) refl refl h
line_by pt t (Line.Called p n) need sane kept e h = roots_known pt.kernel t pt.view (view_after pt.view (Line.Called p n)) p (goes_back (pt.view.known pt.view.acting p) (pt.view.moves p)) kept (λ none le. ap (λ (x : Known). goes_back x (pt.view.moves p)) (h.lives.none p (kept p none) le pt.view.acting)) refl refl (back_here (pt.view.known pt.view.acting p) (pt.view.moves p)) h
line_by pt t (Line.Stays p) need sane kept e h = roots_joins pt.kernel t pt.view (view_after pt.view (Line.Stays p)) p kept (λ none le. need (kept p none) le) refl refl h
line_by pt t (Line.Buried id n) need sane kept e h = buried_roots t (handled pt.view id) (pt.view.told id) need (roots_idle pt.kernel t pt.view (handled pt.view id) kept (record { known = refl; ring = refl }) h)
line_by pt t any_ need sane kept e h = roots_idle pt.kernel t pt.view (view_after pt.view any_) kept (record { known = refl; ring = refl }) h

pub line_roots : (pt : Point) (t : OneKernel) (l : Line) → Needs pt l → Sane pt → kernel_after pt.kernel (label_of l) ≡ Some t → Roots pt.kernel pt.view → Roots t (seen pt.kernel pt.view l)
line_roots pt t l need sane e h =
    let roots_about : (s : OneKernel) (v : View) (a : About) → Roots s v → Roots s (view.about v a) = λ s v a h. record { rings = record { each = h.rings.each }; lives = record { none = h.lives.none } } in
    roots_about t (view_after pt.view l) (seen pt.kernel pt.view l).topic (line_by pt t l need sane (kept_by pt.kernel t (label_of l) pt sane refl e) e h)
