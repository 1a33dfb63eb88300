-- A process ends, and one is made.
use Rattle.dm_law_rule.proofs.Names.{◌≡◌, ℕ, ◌≤◌, ◌==◌, Bool, true, false, refl, ap, ◌∙◌, sym, subst, inl, arith, if◌then◌else◌, Option, None, Some, false≢true, nat_tests, Pid, MsgId, MessageKind, Label, Line, id_eq, at_record, View, Told}
use Rattle.dm_law_rule.proofs.Names.{Known, Unknown, Here, view_after, handled, served_told, Spot, times, standing, is_between, is_away, is_here, is_unknown, kind_comes, Phase, Nowhere, Rests, Over, Moves, knows, token_in, id_eq-is}
use Rattle.dm_law_rule.proofs.Names.{kind_leaves, false_from_ne_true, ComesIn, Of, ids_at, Queue}
use Rattle.dm_law_rule.proofs.Turns.{ended_off}
use Rattle.dm_law_rule.proofs.Phases.Calm.{Plain}
use Rattle.dm_law_rule.proofs.Phases.Lines.{handled_spots}
use Rattle.dm_law_rule.proofs.Phases.Stand.{none_only, InPhases, Learns, learns_phases, quiet_left, calls_in, kept_awaited, due_of, PhasesBut}
use Rattle.dm_law_rule.proofs.Phases.Pieces.{record_off}
use Rattle.dm_law_rule.proofs.Phases.Rests.{rests_here}
use Rattle.dm_law_rule.proofs.Phases.Ends.{is_gone, gone_away}
use Rattle.dm_law_rule.proofs.Trails.Steps.{set_at}
use Rattle.dm_law_rule.specs.View as view

-- one machine learns something of one process, and no message of the protocol stands elsewhere
pub still_learns : (v w : View) (p : Pid) (x : Known) → w.known ≡ at_record v.known v.acting p x → w.come ≡ v.come → w.told ≡ v.told → ((j : MsgId) (t : Told) → v.told j ≡ Some t → is_between t.kind ≡ true → (z : Spot) → standing w j z ≡ standing v j z) → Learns v w p
still_learns v w p x known come told spots = record {
  calm = λ m q off. ap (λ (f : ℕ → Pid → Known). f m q) known ∙ record_off v.known v.acting p x m q off;
  come = λ q off. ap (λ (f : Pid → Bool). f q) come;
  fresh = λ j t e b. sym (ap (λ (f : MsgId → Option Told). f j) told) ∙ e;
  kept = λ j t e. ap (λ (f : MsgId → Option Told). f j) told ∙ e;
  back = λ j t e b z st. inl (subst (λ n. 1 ≤ n) (spots j t e b z) st);
  on = λ j t q apart e b ab z st. (z, subst (λ n. 1 ≤ n) (sym (spots j t e b z)) st);
}

-- it ends where it was
over_of : (a m : ℕ) (b : Bool) (y : Known) → (a == m) ≡ b → knows (Rests a) m y ≡ true → knows (Over a) m (if b then Unknown else y) ≡ true
over_of a m true y e h = ap (λ (c : Bool). if c then is_unknown Unknown else is_away Unknown) e
over_of a m false y e h = ap (λ (c : Bool). if c then is_unknown y else is_away y) e ∙ sym (ap (λ (c : Bool). if c then is_here y else is_away y) e) ∙ h

pub ends_phases : (v w : View) (p : Pid) → InPhases v → v.known v.acting p ≡ Here → w.known ≡ at_record v.known v.acting p Unknown → w.come ≡ v.come → w.told ≡ v.told → ((j : MsgId) (t : Told) → v.told j ≡ Some t → is_between t.kind ≡ true → (z : Spot) → standing w j z ≡ standing v j z) → InPhases w
ends_phases v w p h here known come told spots =
    let a = v.acting in
    let phase : h.of p ≡ Rests a = rests_here (h.of p) a (sym (ap (knows (h.of p) a) here) ∙ (h.each p).known a) in
    let rested : (m : ℕ) → knows (Rests a) m (v.known m p) ≡ true = λ m. subst (λ (x : Phase). knows x m (v.known m p) ≡ true) phase ((h.each p).known m) in
    (learns_phases v w p (Over a) h (none_only p) (still_learns v w p Unknown known come told spots) refl refl
    (λ m. ap (λ (f : ℕ → Pid → Known). knows (Over a) m (f m p)) known ∙ ap (knows (Over a) m) (set_at v p Unknown m) ∙ over_of a m (a == m) (v.known m p) refl (rested m)) tt
    (quiet_left v w p (h.of p) (Over a) refl (ap calls_in phase) (λ m s is. kept_awaited (a == m) Unknown (v.known m p) s (λ s e. cc) (sym (ap (λ (f : ℕ → Pid → Known). f m p) known ∙ set_at v p Unknown m) ∙ is))
    (λ j x z. absurd (let f : None ≡ Some j = sym (ap token_in phase) ∙ x in cc)))).phases

moves_if : (k : MessageKind) (s d : ℕ) → (if s == s then kind_leaves k d Unknown else if d == s then kind_comes k s Unknown else is_away Unknown) ≡ false
moves_if k s d = ap (λ (c : Bool). if c then kind_leaves k d Unknown else if d == s then kind_comes k s Unknown else is_away Unknown) (let e : (s == s) ≡ true = grind (arith, nat_tests) in e)

-- where nothing is known of a process it was never made, or has ended
pub nowhere_known : (phase : Phase) → ((m : ℕ) → knows phase m Unknown ≡ true) → ((at : ℕ) → phase ≡ Over at → ⊥) → phase ≡ Nowhere
nowhere_known Nowhere h none = refl
nowhere_known (Rests at) h none =
    let rests_if : (if at == at then is_here Unknown else is_away Unknown) ≡ false = ap (λ (c : Bool). if c then is_here Unknown else is_away Unknown) (let e : (at == at) ≡ true = grind (arith, nat_tests) in e) in
    absurd (false≢true (sym rests_if ∙ h at))
nowhere_known (Over at) h none = absurd (none at refl)
nowhere_known (Moves k s d o) h none = absurd (false≢true (sym (moves_if k s d) ∙ h s))

-- nothing is under way about a process that is on no machine
gone_calls : (phase : Phase) → is_gone phase ≡ true → calls_in phase ≡ false
gone_calls (Rests at) e = cc
gone_calls (Moves k s d o) e = cc
gone_calls _ e = refl

gone_token : (phase : Phase) → is_gone phase ≡ true → token_in phase ≡ None
gone_token (Rests at) e = cc
gone_token (Moves k s d o) e = cc
gone_token _ e = refl

gone_due : (phase : Phase) (p : Pid) → is_gone phase ≡ true → due_of phase p ≡ None
gone_due (Rests at) p e = cc
gone_due (Moves k s d o) p e = cc
gone_due _ p e = refl

gone_comes : (phase : Phase) (come : Bool) → is_gone phase ≡ true → ComesIn phase come
gone_comes (Rests at) come e = cc
gone_comes (Moves k s d o) come e = cc
gone_comes Nowhere come e = tt
gone_comes (Over at) come e = tt

gone_unknown : (phase : Phase) (m : ℕ) → is_gone phase ≡ true → knows phase m Unknown ≡ true
gone_unknown (Rests at) m e = cc
gone_unknown (Moves k s d o) m e = cc
gone_unknown Nowhere m e = refl
gone_unknown (Over at) m e = elim (at == m) as (λ c. (if c then is_unknown Unknown else is_away Unknown) ≡ true) [ true ↦ refl | false ↦ refl ]

-- one is made on the acting machine, of which nothing is known
pub made_phases : (v w : View) (p : Pid) → InPhases v → ((m : ℕ) → v.known m p ≡ Unknown) → w.known ≡ at_record v.known v.acting p Here → w.come ≡ v.come → w.told ≡ v.told → ((j : MsgId) (t : Told) → v.told j ≡ Some t → is_between t.kind ≡ true → (z : Spot) → standing w j z ≡ standing v j z) → InPhases w
made_phases v w p h unknown known come told spots =
    let made_of : (a m : ℕ) (b : Bool) → (a == m) ≡ b → knows (Rests a) m (if b then Here else Unknown) ≡ true = λ a m b h1. search arith in
    let a = v.acting in
    let gone : is_gone (h.of p) ≡ true = gone_away v p (h.of p) (h.each p) (λ m. ap is_away (unknown m)) in
    (learns_phases v w p (Rests a) h (none_only p) (still_learns v w p Here known come told spots) refl refl
    (λ m. ap (λ (f : ℕ → Pid → Known). knows (Rests a) m (f m p)) known ∙ ap (knows (Rests a) m) (set_at v p Here m ∙ ap (λ (y : Known). if a == m then Here else y) (unknown m)) ∙ made_of a m (a == m) refl) tt
    (quiet_left v w p (h.of p) (Rests a) refl (gone_calls (h.of p) gone) (λ m s is. kept_awaited (a == m) Here (v.known m p) s (λ s e. cc) (sym (ap (λ (f : ℕ → Pid → Known). f m p) known ∙ set_at v p Here m) ∙ is))
    (λ j x z. absurd (let f : None ≡ Some j = sym (gone_token (h.of p) gone) ∙ x in cc)))).phases

-- by a message at the front of the inbox that is none of the protocol
pub front_spots : (v : View) (i j : MsgId) (t : Told) → Plain v i → v.told j ≡ Some t → is_between t.kind ≡ true → (z : Spot) → standing (handled v i) j z ≡ standing v j z
front_spots v i j t plain told b z = handled_spots v i j (false_from_ne_true (id_eq i j) (λ e. let is : i ≡ j = id_eq-is i j e in false≢true (sym (plain t (ap v.told is ∙ told)) ∙ b))) z

-- a kill ends its receiver
pub killed_phases : (v : View) (i : MsgId) (t : Told) → InPhases v → Plain v i → v.told i ≡ Some t → t.kind ≡ MessageKind.Kill → v.known v.acting t.receiver ≡ Here → InPhases (view_after v (Line.Label (Label.Served i)))
killed_phases v i t h plain told k here =
    subst InPhases (sym (let e_ : served_told (handled v i) (v.told i) ≡ view.ended (handled v i) t.receiver = grind (arith, nat_tests) in e_))
    (ends_phases v (view.ended (handled v i) t.receiver) t.receiver h here refl refl refl (λ j u e b z. ap (times j) (ended_off (handled v i) t.receiver z) ∙ front_spots v i j u plain e b z))

-- a process that is on no machine is forgotten by one
forgets_if : (phase : Phase) (m : ℕ) (b : Bool) (y : Known) → is_gone phase ≡ true → knows phase m y ≡ true → knows phase m (if b then Unknown else y) ≡ true
forgets_if phase m true y gone h = gone_unknown phase m gone
forgets_if phase m false y gone h = h

forgets_off : (v : View) (p : Pid) (z : Spot) → ids_at (view.forgotten v (Of p)) z ≡ ids_at v z
forgets_off v p (Queue m q) = refl
forgets_off v p _ = refl

pub buried_is : (v : View) (i : MsgId) (n : ℕ) (t : Told) (p : Pid) → v.told i ≡ Some t → t.about ≡ Of p → view_after v (Line.Buried i n) ≡ view.forgotten (handled v i) (Of p)
buried_is v i n t p told about = ap (λ (o : Option Told). view.buried_for (handled v i) o) told ∙ ap (view.forgotten (handled v i)) about

pub buried_phases : (v : View) (i : MsgId) (n : ℕ) (t : Told) (p : Pid) (h : InPhases v) → Plain v i → v.told i ≡ Some t → t.about ≡ Of p → is_gone (h.of p) ≡ true → InPhases (view_after v (Line.Buried i n))
buried_phases v i n t p h plain told about gone =
    let w = view.forgotten (handled v i) (Of p) in
    let a = v.acting in
    subst InPhases (sym (buried_is v i n t p told about)) (subst (λ (o : Option Pid). PhasesBut o w) (gone_due (h.of p) p gone)
    (learns_phases v w p (h.of p) h (none_only p) (still_learns v w p Unknown refl refl refl (λ j u e b z. ap (times j) (forgets_off (handled v i) p z) ∙ front_spots v i j u plain e b z)) (gone_token (h.of p) gone) (h.each p).apart
    (λ m. ap (knows (h.of p) m) (set_at v p Unknown m) ∙ forgets_if (h.of p) m (a == m) (v.known m p) gone ((h.each p).known m)) (gone_comes (h.of p) (v.come p) gone)
    (quiet_left v w p (h.of p) (h.of p) (gone_token (h.of p) gone) (gone_calls (h.of p) gone) (λ m s is. kept_awaited (a == m) Unknown (v.known m p) s (λ s e. cc) (sym (set_at v p Unknown m) ∙ is))
    (λ j x z. absurd (let f : None ≡ Some j = sym (gone_token (h.of p) gone) ∙ x in cc)))).phases)
