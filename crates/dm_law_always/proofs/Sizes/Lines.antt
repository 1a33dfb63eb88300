-- What each line leaves of what machines know of a server and of how many of its pieces were asked for.
use Rattle.dm_law_always.proofs.Names.{◌≡◌, ℕ, ◌+◌, ◌≤◌, ◌==◌, not, filter, Bool, true, false, refl, ap, ◌∙◌, sym, inl, inr, ⊤, arith, if◌then◌else◌, Option, None, Some, cases_Bool, false≢true, Pid, pid_eq, pid_eq-same, MsgId, Label, Line}
use Rattle.dm_law_always.proofs.Names.{Stage, Step, View, Told, About, Known, Unknown, Here, Frozen, Incoming, Forward, Sort, sort_of, receiver_of, view_after, after_label, after_head, after_stage, after_proto, handled, queued_for, held_for}
use Rattle.dm_law_always.proofs.Names.{forwarded_for, dropped_for, served_told, taken_id, oldest, at_record, front_of, gone_to, goes_back, aim, sets, pid_eq-is}
use Rattle.dm_line.specs.Sets.{at_pid}
use Rattle.dm_message.specs.Sorts.{Passage, brings_piece}
use Rattle.dm_law_rule.specs.Phases.{has_it}
use Rattle.dm_law_rule.specs.View as view
use Rattle.dm_law_always.proofs.Based.Sets.{killed_or, set_all}
use Rattle.dm_law_rule.proofs.Phases.Lines.{come_sets}

-- where it is, comes to, and what has come stays; and no more was asked for
pub record Knows (p : Pid) (v w : View) : Type 0 where
  pub has : (m : ℕ) → has_it (w.known m p) ≡ true → has_it (v.known m p) ≡ true
  pub comes : (m from : ℕ) → w.known m p ≡ Incoming from → v.known m p ≡ Incoming from
  pub come : w.come p ≡ v.come p
  pub asked : w.asked p ≤ v.asked p

pub knows_as : (p : Pid) (v w : View) → w.known ≡ v.known → w.come ≡ v.come → w.asked ≡ v.asked → Knows p v w
knows_as p v w known come asked = record {
  has = λ m e. sym (ap (λ (f : ℕ → Pid → Known). has_it (f m p)) known) ∙ e;
  comes = λ m from e. sym (ap (λ (f : ℕ → Pid → Known). f m p) known) ∙ e;
  come = ap (λ (f : Pid → Bool). f p) come;
  asked = (let e = ap (λ (f : Pid → ℕ). f p) asked in omega (arith, e));
}

pub knows_then : (p : Pid) (v u w : View) → Knows p v u → Knows p u w → Knows p v w
knows_then p v u w h k = record {
  has = λ m e. h.has m (k.has m e);
  comes = λ m from e. h.comes m from (k.comes m from e);
  come = k.come ∙ h.come;
  asked = (let x = h.asked in let y = k.asked in omega (arith, x, y));
}

-- the acting machine learns something of a process or a server
pub knows_set : (p q : Pid) (x : Known) (v w : View) → w.known ≡ at_record v.known v.acting q x → (q ≡ p → has_it x ≡ true → has_it (v.known v.acting p) ≡ true) → (q ≡ p → (from : ℕ) → x ≡ Incoming from → v.known v.acting p ≡ Incoming from)
    → w.come p ≡ v.come p → w.asked p ≤ v.asked p → Knows p v w
knows_set p q x v w known has comes come asked = record {
  has = λ m e. set_all (λ k r y. r ≡ p → has_it y ≡ true → has_it (v.known k p) ≡ true) v.known v.acting q x has (λ k r off same h. ap (λ (z : Pid). has_it (v.known k z)) (sym same) ∙ h) m p refl (sym (ap (λ (f : ℕ → Pid → Known). has_it (f m p)) known) ∙ e);
  comes = λ m from e. set_all (λ k r y. r ≡ p → y ≡ Incoming from → v.known k p ≡ Incoming from) v.known v.acting q x (λ same is. comes same from is) (λ k r off same is. ap (v.known k) (sym same) ∙ is) m p refl (sym (ap (λ (f : ℕ → Pid → Known). f m p) known) ∙ e);
  come = come;
  asked = asked;
}

-- it forgets one, and of another than the server anything may be learnt
forgets : (p q : Pid) (v w : View) → w.known ≡ at_record v.known v.acting q Unknown → w.come ≡ v.come → w.asked ≡ v.asked → Knows p v w
forgets p q v w known come asked = knows_set p q Unknown v w known (λ same e. absurd (false≢true e)) (λ same from e. absurd (cc)) (ap (λ (f : Pid → Bool). f p) come) (let e = ap (λ (f : Pid → ℕ). f p) asked in omega (arith, e))

is_other : (p q : Pid) → pid_eq q p ≡ false → q ≡ p → ⊥
is_other p q off same = false≢true (sym off ∙ ap (λ (r : Pid). pid_eq r p) same ∙ pid_eq-same p)

learns_other : (p q : Pid) (x : Known) (v w : View) → w.known ≡ at_record v.known v.acting q x → pid_eq q p ≡ false → w.come p ≡ v.come p → w.asked p ≤ v.asked p → Knows p v w
learns_other p q x v w known off come asked = knows_set p q x v w known (λ same e. absurd (is_other p q off same)) (λ same from e. absurd (is_other p q off same)) come asked

-- what is set for another
come_off : (p q : Pid) (f : Pid → Bool) (x : Bool) → pid_eq q p ≡ false → at_pid f q x p ≡ f p
come_off p q f x off = ap (λ (c : Bool). if c then x else f p) off

asked_off : (p q : Pid) (f : Pid → ℕ) (x : ℕ) → pid_eq q p ≡ false → at_pid f q x p ≤ f p
asked_off p q f x off = let e = ap (λ (c : Bool). if c then x else f p) off in omega (arith, e)

-- lines with an option
queued_knows : (p : Pid) (v : View) (id : MsgId) (o : Option Pid) → Knows p v (queued_for v id o)
queued_knows p v id None = knows_as p v v refl refl refl
queued_knows p v id (Some q) = knows_as p v (queued_for v id (Some q)) refl refl refl

held_knows : (p : Pid) (v : View) (id : MsgId) (o : Option Pid) → Knows p v (held_for v id o)
held_knows p v id None = knows_as p v v refl refl refl
held_knows p v id (Some q) = knows_as p v (held_for v id (Some q)) refl refl refl

dropped_knows : (p : Pid) (v : View) (id : MsgId) (o : Option Pid) → Knows p v (dropped_for v id o)
dropped_knows p v id None = knows_as p v v refl refl refl
dropped_knows p v id (Some q) = knows_as p v (dropped_for v id (Some q)) refl refl refl

forwarded_knows : (p : Pid) (v : View) (o : Option Pid) → Knows p v (forwarded_for v o)
forwarded_knows p v None = knows_as p v v refl refl refl
forwarded_knows p v (Some q) = knows_as p v (forwarded_for v (Some q)) refl refl refl

taken_knows : (p : Pid) (v : View) (b : ℕ) (o : Option MsgId) → Knows p v (taken_id v b o)
taken_knows p v b None = knows_as p v v refl refl refl
taken_knows p v b (Some i) = knows_as p v (taken_id v b (Some i)) refl refl refl

forgotten_knows : (p : Pid) (v : View) (a : About) → Knows p v (view.forgotten v a)
forgotten_knows p v (view.Of q) = forgets p q v (view.forgotten v (view.Of q)) refl refl refl
forgotten_knows p v _ = knows_as p v v refl refl refl

buried_knows : (p : Pid) (v : View) (o : Option Told) → Knows p v (view.buried_for v o)
buried_knows p v None = knows_as p v v refl refl refl
buried_knows p v (Some t) = forgotten_knows p v t.about

served_knows : (p : Pid) (v : View) (o : Option Told) → Knows p v (served_told v o)
served_knows p v None = knows_as p v v refl refl refl
served_knows p v (Some t) = killed_or (Knows p v) t.kind v t.receiver (λ kills. forgets p t.receiver v (view.ended v t.receiver) refl refl refl) (λ mild. knows_as p v v refl refl refl)

-- a message that brings no piece of it asks for none
asks_knows : (p : Pid) (v : View) (a : About) → (a ≡ view.Of p → ⊥) → Knows p v (view.asks_on v a)
asks_knows p v (view.Of q) off = elim (cases_Bool (pid_eq q p)) [
  | inl same ↦ absurd (off (ap view.Of (pid_eq-is q p same)))
  | inr apart ↦ record { has = λ m e. e; comes = λ m from e. e; come = refl; asked = asked_off p q v.asked (v.asked q + 1) apart }
]
asks_knows p v _ off = knows_as p v v refl refl refl

follows_knows : (p : Pid) (v : View) (a : About) (s : Sort) → (a ≡ view.Of p → brings_piece s ≡ false) → Knows p v (view.follows_by v a s)
follows_knows p v a (Sort.Between Passage.State) need = asks_knows p v a (λ e. false≢true (sym (need e)))
follows_knows p v a (Sort.Between Passage.Memory) need = asks_knows p v a (λ e. false≢true (sym (need e)))
follows_knows p v a _ need = knows_as p v v refl refl refl

proto_knows : (p : Pid) (v : View) (o : Option Told) → ((t : Told) → o ≡ Some t → t.about ≡ view.Of p → brings_piece (sort_of t.kind) ≡ false) → Knows p v (after_proto v o)
proto_knows p v None need = knows_as p v (after_proto v None) refl refl refl
proto_knows p v (Some t) need =
    let u = view.follows_by v t.about (sort_of t.kind) in
    knows_then p v u (after_proto v (Some t)) (follows_knows p v t.about (sort_of t.kind) (need t refl)) (knows_as p u (after_proto v (Some t)) refl refl refl)

-- labels
abbrev pub KnowsLabel : Pid → Label → Type 0
KnowsLabel p (Label.Created id q) = pid_eq q p ≡ false
KnowsLabel p l = ⊤

pub label_knows : (p : Pid) (v : View) (l : Label) → KnowsLabel p l → Knows p v (after_label v l)
label_knows p v (Label.End q y) need = forgets p q v (after_label v (Label.End q y)) refl refl refl
label_knows p v (Label.Served id) need = knows_then p v (handled v id) (after_label v (Label.Served id)) (knows_as p v (handled v id) refl refl refl) (served_knows p (handled v id) (v.told id))
label_knows p v (Label.Dropped id) need = knows_then p v (handled v id) (after_label v (Label.Dropped id)) (knows_as p v (handled v id) refl refl refl) (dropped_knows p (handled v id) id (receiver_of (v.told id)))
label_knows p v (Label.Created id q) need = learns_other p q Here v (after_label v (Label.Created id q)) refl need refl (omega arith)
label_knows p v any_ need = knows_as p v (after_label v any_) refl refl refl

-- steps of migrations
gone_has : (k : Known) (n : ℕ) → has_it (gone_to k n) ≡ true → has_it k ≡ true
gone_has (Frozen to) n e = refl
gone_has Here n e = refl
gone_has Unknown n e = e
gone_has (Incoming from) n e = e
gone_has (Forward at_ moves) n e = e

gone_comes : (k : Known) (n from : ℕ) → gone_to k n ≡ Incoming from → k ≡ Incoming from
gone_comes (Frozen to) n from e = cc
gone_comes k n from e = e

back_has : (k : Known) (n : ℕ) → has_it (goes_back k n) ≡ true → has_it k ≡ true
back_has (Incoming from) n e = absurd (false≢true e)
back_has Here n e = refl
back_has (Frozen to) n e = refl
back_has Unknown n e = e
back_has (Forward at_ moves) n e = e

back_comes : (k : Known) (n from : ℕ) → goes_back k n ≡ Incoming from → k ≡ Incoming from
back_comes (Incoming s) n from e = cc
back_comes Here n from e = cc
back_comes (Frozen to) n from e = cc
back_comes Unknown n from e = cc
back_comes (Forward at_ moves) n from e = cc

-- of the server itself these say more
abbrev pub KnowsStage : Pid → View → Pid → Stage → Type 0
KnowsStage p v q Stage.Frozen = q ≡ p → has_it (v.known v.acting p) ≡ true
KnowsStage p v q Stage.Accepted = pid_eq q p ≡ false
KnowsStage p v q Stage.StateTaken = pid_eq q p ≡ false
KnowsStage p v q Stage.MemoryTaken = pid_eq q p ≡ false
KnowsStage p v q Stage.Restarted = pid_eq q p ≡ false
KnowsStage p v q s = ⊤

stage_knows : (p : Pid) (v : View) (q : Pid) (s : Stage) → KnowsStage p v q s → Knows p v (after_stage v q s)
stage_knows p v q Stage.Frozen need =
    let set = sets v q v.topic in
    knows_set p q (Frozen (aim v v.topic)) v (after_stage v q Stage.Frozen) set.known (λ same e. need same) (λ same from e. absurd (cc)) (ap (λ (f : Pid → Bool). f p) (come_sets v q v.topic)) (let e = ap (λ (f : Pid → ℕ). f p) set.asked in omega (arith, e))
stage_knows p v q Stage.Asked need = knows_as p v v refl refl refl
stage_knows p v q Stage.Accepted need = learns_other p q (Incoming (front_of (v.inbox v.acting))) v (after_stage v q Stage.Accepted) refl need (come_off p q v.come false need) (asked_off p q v.asked 1 need)
stage_knows p v q Stage.StateTaken need = record { has = λ m e. e; comes = λ m from e. e; come = refl; asked = asked_off p q v.asked (v.asked q + 1) need }
stage_knows p v q Stage.MemoryTaken need = record { has = λ m e. e; comes = λ m from e. e; come = come_off p q v.come true need; asked = omega arith }
stage_knows p v q Stage.Left need =
    let n = v.moves q + 1 in
    knows_set p q (gone_to (v.known v.acting q) n) v (after_stage v q Stage.Left) refl (λ same e. ap (λ (r : Pid). has_it (v.known v.acting r)) (sym same) ∙ gone_has (v.known v.acting q) n e)
    (λ same from e. ap (v.known v.acting) (sym same) ∙ gone_comes (v.known v.acting q) n from e) refl (omega arith)
stage_knows p v q Stage.Restarted need = learns_other p q Here v (after_stage v q Stage.Restarted) refl need refl (omega arith)

head_knows : (p : Pid) (v : View) (d : Step) → Knows p v (after_head v d)
head_knows p v (Step.Deliver a b k) = knows_as p v (after_head v (Step.Deliver a b k)) refl refl refl
head_knows p v any_ = knows_as p v (after_head v any_) refl refl refl

-- what a line needs
abbrev pub KnowsLine : Pid → View → Line → Type 0
KnowsLine p v (Line.Label l) = KnowsLabel p l
KnowsLine p v (Line.Migration s q) = KnowsStage p v q s
KnowsLine p v (Line.Stays q) = q ≡ p → has_it (v.known v.acting p) ≡ true
KnowsLine p v (Line.Proto id) = (t : Told) → v.told id ≡ Some t → t.about ≡ view.Of p → brings_piece (sort_of t.kind) ≡ false
KnowsLine p v _ = ⊤

pub line_knows : (p : Pid) (v : View) (l : Line) → KnowsLine p v l → Knows p v (view_after v l)
line_knows p v (Line.Head d) need = head_knows p v d
line_knows p v (Line.Label l) need = label_knows p v l need
line_knows p v (Line.Put a b id k q) need = knows_as p v (view_after v (Line.Put a b id k q)) refl refl refl
line_knows p v (Line.Packet a b k l) need = knows_as p v (view_after v (Line.Packet a b k l)) refl refl refl
line_knows p v (Line.Taken a b k) need =
    let q = v.pair a b in
    let u = view.with_pair v a b (record q { taken = q.taken + 1; kept = filter (λ j. not (j == k)) q.kept }) in
    knows_then p v u (view_after v (Line.Taken a b k)) (knows_as p v u refl refl refl) (taken_knows p u b (oldest q))
line_knows p v (Line.Early a b k) need = knows_as p v (view_after v (Line.Early a b k)) refl refl refl
line_knows p v (Line.Acked a b k) need = knows_as p v (view_after v (Line.Acked a b k)) refl refl refl
line_knows p v (Line.Queued id) need = knows_then p v (handled v id) (view_after v (Line.Queued id)) (knows_as p v (handled v id) refl refl refl) (queued_knows p (handled v id) id (receiver_of (v.told id)))
line_knows p v (Line.Held id) need = knows_then p v (handled v id) (view_after v (Line.Held id)) (knows_as p v (handled v id) refl refl refl) (held_knows p (handled v id) id (receiver_of (v.told id)))
line_knows p v (Line.Forwarded id k) need = knows_then p v (handled v id) (view_after v (Line.Forwarded id k)) (knows_as p v (handled v id) refl refl refl) (forwarded_knows p (handled v id) (receiver_of (v.told id)))
line_knows p v (Line.Updated id k) need = knows_as p v (handled v id) refl refl refl
line_knows p v (Line.Buried id k) need = knows_then p v (handled v id) (view_after v (Line.Buried id k)) (knows_as p v (handled v id) refl refl refl) (buried_knows p (handled v id) (v.told id))
line_knows p v (Line.Migration s q) need = stage_knows p v q s need
line_knows p v (Line.SentOn q k) need = knows_as p v (view_after v (Line.SentOn q k)) refl refl refl
line_knows p v (Line.Called q k) need =
    let n = v.moves q in
    knows_set p q (goes_back (v.known v.acting q) n) v (view_after v (Line.Called q k)) refl (λ same e. ap (λ (r : Pid). has_it (v.known v.acting r)) (sym same) ∙ back_has (v.known v.acting q) n e)
    (λ same from e. ap (v.known v.acting) (sym same) ∙ back_comes (v.known v.acting q) n from e) refl (omega arith)
line_knows p v (Line.Lacks q a b) need = knows_as p v (view_after v (Line.Lacks q a b)) refl refl refl
line_knows p v (Line.Stays q) need = knows_set p q Here v (view_after v (Line.Stays q)) refl (λ same e. need same) (λ same from e. absurd (cc)) refl (omega arith)
line_knows p v (Line.Here id) need = knows_as p v (handled v id) refl refl refl
line_knows p v (Line.NoMove id) need = knows_as p v (handled v id) refl refl refl
line_knows p v (Line.Stale id) need = knows_as p v (handled v id) refl refl refl
line_knows p v (Line.Proto id) need = knows_then p v (handled v id) (view_after v (Line.Proto id)) (knows_as p v (handled v id) refl refl refl) (proto_knows p (handled v id) (v.told id) need)
line_knows p v any_ need = knows_as p v v refl refl refl
