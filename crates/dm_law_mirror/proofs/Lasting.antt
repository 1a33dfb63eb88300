-- Each server is on a machine, or on its way to one, wherever the rule leads.
use Rattle.dm_law_mirror.proofs.Names.{◌≡◌, ◌≢◌, ◌⊎◌, ⊤, ℕ, ◌+◌, ◌==◌, ◌&&◌, not, Bool, true, false, List, [], ◌∷◌, refl, ap, ◌∙◌, sym, subst, inl, inr, arith, nat_tests, if◌then◌else◌, Option, None, Some, is_some, cases_Bool, false≢true, eqb_tells}
use Rattle.dm_law_mirror.proofs.Names.{Pid, pid_eq, pid_eq-is, MsgId, MessageKind, PlainProcess, is_server, Boot, OneKernel, IsValid, Step, Line, Stage, Label, View, Known, Unknown, Here, Frozen, Incoming}
use Rattle.dm_law_mirror.proofs.Names.{About, Of, Told, Point, first_point, moved, Spelled, group_of, at_record, receiver_of, Phase, Moves, IsIn, InPhases, is_away, is_between, sort_of, Leads, Phased, Life}
use Rattle.dm_law_rule.proofs.Phases.Net.{head_calm}
use Rattle.dm_law_rule.proofs.Phases.Always.{bury_over}
use Rattle.dm_onekernel.specs.Step as kernel
use Rattle.dm_law_rule.specs.View as view
use Rattle.dm_law_rule.specs.View.{NothingElse, Target, Place}
use Rattle.dm_law_rule.specs.Point.{seen}
use Rattle.dm_law_rule.specs.Rule.{is_waited_from}
use Rattle.dm_law_rule.specs.Phases.{knows}
use Rattle.dm_message.specs.Sorts as sort
use Rattle.std.specs.Prelude.{filter}
use Rattle.dm_message.specs.Sorts.{pulls_piece, brings_piece}
use Rattle.dm_law_rule.proofs.Letters.{letter_of}
use Rattle.dm_law_rule.proofs.Phases.Always.{phased_group, phased_start}
use Rattle.dm_law_rule.proofs.Phases.Answers.{Due, due}
use Rattle.dm_law_rule.proofs.Phases.Put.{of_same}
use Rattle.dm_law_rule.proofs.Phases.Stand.{calm_phases}
use Rattle.dm_law_rule.proofs.Trails.Steps.{two_apart, source_holds, destination_expects, coming_is, holds_on}
use Rattle.dm_law_rule.specs.Phases.{receiver_in}
use Rattle.dm_law_mirror.proofs.Route.Puts.{told_stays}
use Rattle.dm_law_mirror.proofs.Kernel.Sets.{eq_apart, eq_self}
use Rattle.dm_law_mirror.proofs.Numbering.{first_known, known_of_life}
use Rattle.dm_law_mirror.proofs.Residents.{OfBoard, OfManager, OfProcess, who}
use Rattle.dm_law_mirror.proofs.Names.{bind, first_life, process_named}
use Rattle.dm_law_mirror.proofs.Saying.{Rows, group_walk, is_calm}

-- on this machine or on its way to it
abbrev pub Lasts : View → Pid → Type 0
Lasts v p = (m : ℕ) × (is_away (v.known m p) ≡ false)

abbrev pub ServersLast : View → Type 0
ServersLast v = (p : Pid) → is_server p ≡ true → Lasts v p

-- on another than machine a
abbrev Elsewhere : View → ℕ → Pid → Type 0
Elsewhere v a p = (m : ℕ) × (m ≢ a) × (is_away (v.known m p) ≡ false)

-- What a line says that is no head: process or server p leaves the acting machine only where it is elsewhere, which E says; and it
-- doesn't end.
abbrev Stays : Type 0 → Pid → (MsgId → Option Told) → Line → Type 0
Stays E p told (Line.Head d) = ⊥
Stays E p told (Line.Migration Stage.Left q) = q ≡ p → E
Stays E p told (Line.Called q n) = q ≡ p → E
Stays E p told (Line.Label (Label.End q y)) = q ≡ p → ⊥
Stays E p told (Line.Label (Label.Served i)) = (t : Told) × (told i ≡ Some t) × (t.receiver ≡ p → ⊥)
Stays E p told (Line.Buried i n) = (t : Told) × (told i ≡ Some t) × (t.about ≡ Of p → ⊥)
Stays E p told l = ⊤

-- the view behind such a line
record Keeps (E : Type 0) (p : Pid) (v w : View) : Type 0 where
  acting : w.acting ≡ v.acting
  others : (n : ℕ) → n ≢ v.acting → w.known n p ≡ v.known n p
  told : (i : MsgId) (t : Told) → v.told i ≡ Some t → w.told i ≡ Some t
  lasts : is_away (v.known v.acting p) ≡ false → E ⊎ (is_away (w.known v.acting p) ≡ false)

keeps_still : (E : Type 0) (p : Pid) (v w : View) → w.acting ≡ v.acting → w.known ≡ v.known → w.told ≡ v.told → Keeps E p v w
keeps_still E p v w acting known told = record {
  acting = acting;
  others = λ n off. ap (λ (f : ℕ → Pid → Known). f n p) known;
  told = λ i t e. ap (λ (f : MsgId → Option Told). f i) told ∙ e;
  lasts = λ on. inr (ap (λ (f : ℕ → Pid → Known). is_away (f v.acting p)) known ∙ on);
}

-- one record changes
keeps_sets : (E : Type 0) (p : Pid) (v w : View) (q : Pid) (x : Known) → w.acting ≡ v.acting → w.known ≡ at_record v.known v.acting q x → w.told ≡ v.told → (q ≡ p → E ⊎ (is_away x ≡ false)) → Keeps E p v w
keeps_sets E p v w q x acting known told here = record {
  acting = acting;
  others = λ n off. ap (λ (f : ℕ → Pid → Known). f n p) known ∙ ap (λ (c : Bool). if c && pid_eq q p then x else v.known n p) (eq_apart v.acting n off);
  told = λ i t e. ap (λ (f : MsgId → Option Told). f i) told ∙ e;
  lasts = λ on. elim (cases_Bool (pid_eq q p)) [
    | inl same ↦ elim (here (pid_eq-is q p same)) as (λ z. E ⊎ (is_away (w.known v.acting p) ≡ false)) [
      | inl e ↦ inl e
      | inr there ↦ inr (ap is_away (at_acting true same) ∙ there)
    ]
    | inr off ↦ inr (ap is_away (at_acting false off) ∙ on)
  ];
}
  where
    at_acting : (c : Bool) → pid_eq q p ≡ c → w.known v.acting p ≡ (if c then x else v.known v.acting p)
    at_acting c e = ap (λ (f : ℕ → Pid → Known). f v.acting p) known ∙ ap (λ (d : Bool). if d && pid_eq q p then x else v.known v.acting p) (eq_self v.acting) ∙ ap (λ (d : Bool). if d then x else v.known v.acting p) e

frozen_line : (E : Type 0) (p : Pid) (v : View) (q : Pid) (a : About) → Keeps E p v (view.sets_off v q a)
frozen_line E p v q (Target m) = keeps_sets E p v (view.sets_off v q (Target m)) q (Frozen m) refl refl refl (λ e. inr refl)
frozen_line E p v q NothingElse = keeps_sets E p v (view.sets_off v q NothingElse) q _ refl refl refl (λ e. inr refl)
frozen_line E p v q (Of r) = keeps_sets E p v (view.sets_off v q (Of r)) q _ refl refl refl (λ e. inr refl)
frozen_line E p v q (Place r at moves) = keeps_sets E p v (view.sets_off v q (Place r at moves)) q _ refl refl refl (λ e. inr refl)

stage_line : (E : Type 0) (p : Pid) (v : View) (q : Pid) (s : Stage) → Stays E p v.told (Line.Migration s q) → Keeps E p v (view.after_stage v q s)
stage_line E p v q Stage.Frozen stays = frozen_line E p v q v.topic
stage_line E p v q Stage.Asked stays = keeps_still E p v v refl refl refl
stage_line E p v q Stage.Accepted stays = keeps_sets E p v (view.after_stage v q Stage.Accepted) q _ refl refl refl (λ e. inr refl)
stage_line E p v q Stage.StateTaken stays = keeps_still E p v (view.after_stage v q Stage.StateTaken) refl refl refl
stage_line E p v q Stage.MemoryTaken stays = keeps_still E p v (view.after_stage v q Stage.MemoryTaken) refl refl refl
stage_line E p v q Stage.Left stays = keeps_sets E p v (view.after_stage v q Stage.Left) q _ refl refl refl (λ e. inl (stays e))
stage_line E p v q Stage.Restarted stays = keeps_sets E p v (view.after_stage v q Stage.Restarted) q Here refl refl refl (λ e. inr refl)

-- another is forgotten
forgets : (E : Type 0) (p : Pid) (v : View) (i : MsgId) (a : About) → (a ≡ Of p → ⊥) → Keeps E p v (view.forgotten (view.handled v i) a)
forgets E p v i NothingElse off = keeps_still E p v (view.handled v i) refl refl refl
forgets E p v i (Target m) off = keeps_still E p v (view.handled v i) refl refl refl
forgets E p v i (Of q) off = keeps_sets E p v (view.forgotten (view.handled v i) (Of q)) q Unknown refl refl refl (λ e. absurd (off (ap Of e)))
forgets E p v i (Place q at moves) off = keeps_still E p v (view.handled v i) refl refl refl

-- another ends by a kill
kills : (E : Type 0) (p : Pid) (v : View) (i : MsgId) (t : Told) → (t.receiver ≡ p → ⊥) → Keeps E p v (view.served_told (view.handled v i) (Some t))
kills E p v i t off = elim (sort_of t.kind) as (λ s. Keeps E p v (view.ends_by s (view.handled v i) (Some t.receiver))) [
  | sort.Kills ↦ keeps_sets E p v (view.ended (view.handled v i) t.receiver) t.receiver Unknown refl refl refl (λ e. absurd (off e))
  | _ ↦ keeps_still E p v (view.handled v i) refl refl refl
]

label_line : (E : Type 0) (p : Pid) (v : View) (l : Label) → Stays E p v.told (Line.Label l) → Keeps E p v (view.after_label v l)
label_line E p v (Label.End q y) stays = keeps_sets E p v (view.ended v q) q Unknown refl refl refl (λ e. absurd (stays e))
label_line E p v (Label.Dropped i) stays = elim (receiver_of (v.told i)) as (λ o. Keeps E p v (view.dropped_for (view.handled v i) i o)) [
  | None ↦ keeps_still E p v (view.handled v i) refl refl refl
  | Some q ↦ keeps_still E p v (view.dropped_for (view.handled v i) i (Some q)) refl refl refl
]
label_line E p v (Label.Served i) (t, told, off) = subst (λ (o : Option Told). Keeps E p v (view.served_told (view.handled v i) o)) (sym told) (kills E p v i t off)
label_line E p v (Label.Created i q) stays = keeps_sets E p v (view.after_label v (Label.Created i q)) q Here refl refl refl (λ e. inr refl)
label_line E p v (Label.Ran q k) stays = keeps_still E p v (view.serving v q) refl refl refl
label_line E p v (Label.Receive q i) stays = keeps_still E p v (view.after_label v (Label.Receive q i)) refl refl refl
label_line E p v (Label.Refuse q i c) stays = keeps_still E p v (view.serving v q) refl refl refl
label_line E p v (Label.Gone i) stays = keeps_still E p v (view.handled v i) refl refl refl
label_line E p v (Label.Took i) stays = keeps_still E p v (view.handled v i) refl refl refl
label_line E p v (Label.NoSpace i s b) stays = keeps_still E p v (view.handled v i) refl refl refl
label_line E p v (Label.Asked i) stays = keeps_still E p v (view.handled v i) refl refl refl
label_line E p v _ stays = keeps_still E p v v refl refl refl

takes : (E : Type 0) (p : Pid) (v w : View) (b : ℕ) (o : Option MsgId) → Keeps E p v w → Keeps E p v (view.taken_id w b o)
takes E p v w b None h = h
takes E p v w b (Some i) h = record { acting = h.acting; others = h.others; told = h.told; lasts = h.lasts }

pieces : (E : Type 0) (p : Pid) (v : View) (i : MsgId) (o : Option Told) → Keeps E p v (view.after_proto (view.handled v i) o)
pieces E p v i None = keeps_still E p v (view.about (view.handled v i) NothingElse) refl refl refl
pieces E p v i (Some t) = grind (arith, nat_tests, keeps_still)

line_keeps : (E : Type 0) (p : Pid) (v : View) (l : Line) → Stays E p v.told l → Keeps E p v (view.view_after v l)
line_keeps E p v (Line.Head d) stays = absurd stays
line_keeps E p v (Line.Label l) stays = label_line E p v l stays
line_keeps E p v (Line.Put a b i k q) stays = record { acting = refl; others = λ n off. refl; told = λ j t e. told_stays v a b i k q j t e; lasts = λ on. inr on }
line_keeps E p v (Line.Packet a b k l) stays = keeps_still E p v (view.after_packet v a b l) refl refl refl
line_keeps E p v (Line.Taken a b n) stays =
    let w = view.with_pair v a b (record (v.pair a b) { taken = (v.pair a b).taken + 1; kept = filter (λ k. not (k == n)) (v.pair a b).kept }) in
    takes E p v w b (view.oldest (v.pair a b)) (keeps_still E p v w refl refl refl)
line_keeps E p v (Line.Early a b n) stays = keeps_still E p v (view.after_early v a b n) refl refl refl
line_keeps E p v (Line.Acked a b n) stays = keeps_still E p v (view.after_acked v a b n) refl refl refl
line_keeps E p v (Line.Queued i) stays = elim (receiver_of (v.told i)) as (λ o. Keeps E p v (view.queued_for (view.handled v i) i o)) [
  | None ↦ keeps_still E p v (view.handled v i) refl refl refl
  | Some q ↦ keeps_still E p v (view.queued_for (view.handled v i) i (Some q)) refl refl refl
]
line_keeps E p v (Line.Held i) stays = elim (receiver_of (v.told i)) as (λ o. Keeps E p v (view.held_for (view.handled v i) i o)) [
  | None ↦ keeps_still E p v (view.handled v i) refl refl refl
  | Some q ↦ keeps_still E p v (view.held_for (view.handled v i) i (Some q)) refl refl refl
]
line_keeps E p v (Line.Forwarded i m) stays = elim (receiver_of (v.told i)) as (λ o. Keeps E p v (view.forwarded_for (view.handled v i) o)) [
  | None ↦ keeps_still E p v (view.handled v i) refl refl refl
  | Some q ↦ keeps_still E p v (view.forwarded_for (view.handled v i) (Some q)) refl refl refl
]
line_keeps E p v (Line.Updated i n) stays = keeps_still E p v (view.handled v i) refl refl refl
line_keeps E p v (Line.Buried i n) (t, told, off) = subst (λ (o : Option Told). Keeps E p v (view.buried_for (view.handled v i) o)) (sym told) (forgets E p v i t.about off)
line_keeps E p v (Line.Migration s q) stays = stage_line E p v q s stays
line_keeps E p v (Line.SentOn q n) stays = keeps_still E p v (view.view_after v (Line.SentOn q n)) refl refl refl
line_keeps E p v (Line.Called q n) stays = keeps_sets E p v (view.view_after v (Line.Called q n)) q _ refl refl refl (λ e. inl (stays e))
line_keeps E p v (Line.Lacks q s b) stays = keeps_still E p v (view.view_after v (Line.Lacks q s b)) refl refl refl
line_keeps E p v (Line.Stays q) stays = keeps_sets E p v (view.view_after v (Line.Stays q)) q Here refl refl refl (λ e. inr refl)
line_keeps E p v (Line.Here i) stays = keeps_still E p v (view.handled v i) refl refl refl
line_keeps E p v (Line.NoMove i) stays = keeps_still E p v (view.handled v i) refl refl refl
line_keeps E p v (Line.Stale i) stays = keeps_still E p v (view.handled v i) refl refl refl
line_keeps E p v (Line.Proto i) stays = pieces E p v i (v.told i)
line_keeps E p v _ stays = keeps_still E p v v refl refl refl

-- Along the lines of a group of machine a.

record Along (before : View) (a : ℕ) (p : Pid) (v : View) : Type 0 where
  acting : v.acting ≡ a
  others : (n : ℕ) → n ≢ a → v.known n p ≡ before.known n p
  told : (i : MsgId) (t : Told) → before.told i ≡ Some t → v.told i ≡ Some t
  lasts : Elsewhere before a p ⊎ (is_away (v.known a p) ≡ false)

along_on : (before : View) (a : ℕ) (p : Pid) (v w : View) → Along before a p v → Keeps (Elsewhere before a p) p v w → Along before a p w
along_on before a p v w h k = record {
  acting = k.acting ∙ h.acting;
  others = λ n off. k.others n (λ e. off (e ∙ h.acting)) ∙ h.others n off;
  told = λ i t e. k.told i t (h.told i t e);
  lasts = elim h.lasts [
    | inl e ↦ inl e
    | inr on ↦ subst (λ (m : ℕ). Elsewhere before a p ⊎ (is_away (w.known m p) ≡ false)) h.acting (k.lasts (subst (λ (m : ℕ). is_away (v.known m p) ≡ false) (sym h.acting) on))
  ];
}

-- what was told before is told still
stays_told : (E : Type 0) (p : Pid) (f g : MsgId → Option Told) (l : Line) → ((i : MsgId) (t : Told) → f i ≡ Some t → g i ≡ Some t) → Stays E p f l → Stays E p g l
stays_told E p f g (Line.Label (Label.Served i)) more (t, told, off) = (t, more i t told, off)
stays_told E p f g (Line.Buried i n) more (t, told, off) = (t, more i t told, off)
stays_told E p f g _ more h = h

along_line : (before : View) (a : ℕ) (p : Pid) (s : OneKernel) (v : View) (l : Line) → Stays (Elsewhere before a p) p before.told l → Along before a p v → Along before a p (seen s v l)
along_line before a p s v l stays h =
    let k = along_on before a p v (view.view_after v l) h (line_keeps (Elsewhere before a p) p v l (stays_told (Elsewhere before a p) p before.told v.told l h.told stays)) in
    record { acting = k.acting; others = k.others; told = k.told; lasts = k.lasts }

-- What a group says of it.

calm_stays : (E : Type 0) (p : Pid) (f : MsgId → Option Told) (l : Line) → is_calm l ≡ true → Stays E p f l
calm_stays E p f (Line.Head d) e = absurd (false≢true e)
calm_stays E p f (Line.Migration Stage.Left q) e = absurd (false≢true e)
calm_stays E p f (Line.Called q n) e = absurd (false≢true e)
calm_stays E p f (Line.Label (Label.End q y)) e = absurd (false≢true e)
calm_stays E p f (Line.Label (Label.Served i)) e = absurd (false≢true e)
calm_stays E p f (Line.Buried i n) e = absurd (false≢true e)
calm_stays E p f _ e = tt

-- where all of it was taken, its destination has it
left_elsewhere : (pt : Point) (m : ℕ) (i : MsgId) (is : List MsgId) (t : Told) (p : Pid) → InPhases pt.view → pt.view.inbox m ≡ i ∷ is → pt.view.told i ≡ Some t → t.about ≡ Of p → t.kind ≡ MessageKind.AllTaken → Elsewhere pt.view m p
left_elsewhere pt m i is t p phases box told about kind =
    let o : Point = moved pt (Line.Head (Step.Turn m)) pt.kernel in
    let v = o.view in
    let h : InPhases v = calm_phases pt.view (view.after_head pt.view (Step.Turn m)) (head_calm pt.view (Step.Turn m)) phases in
    let u : Due o i t h = due o i is t h p box told (ap is_between kind) about (ap (λ (k : MessageKind). pulls_piece (sort_of k)) kind) (ap (λ (k : MessageKind). brings_piece (sort_of k) && not (is_waited_from i.from.home (v.known m p))) kind) in
    let k : u.k ≡ MessageKind.AllTaken = sym (ap (λ (y : Told). y.kind) u.told) ∙ kind in
    let same : u.p ≡ p = of_same u.p p (sym (ap (λ (y : Told). y.about) u.told) ∙ about) in
    let acts : m ≡ u.s = u.acting ∙ ap (λ (x : MessageKind). receiver_in x u.s u.d) k in
    let on : IsIn v p (Moves MessageKind.AllTaken u.s u.d (Some i)) =
    subst (λ (q : Pid). IsIn v q (Moves MessageKind.AllTaken u.s u.d (Some i))) same (subst (λ (x : MessageKind). IsIn v u.p (Moves x u.s u.d (Some i))) k (subst (λ (x : Phase). IsIn v u.p x) u.phase (h.each u.p))) in
    (u.d, λ e. two_apart v p MessageKind.AllTaken u.s u.d (Some i) on (e ∙ acts), ap is_away (destination_expects v p MessageKind.AllTaken u.s u.d (Some i) on refl refl))

-- where not all of it has come, its source has it
called_elsewhere : (v : View) (m : ℕ) (p : Pid) (from : ℕ) → InPhases v → v.known m p ≡ Incoming from → v.come p ≡ false → Elsewhere v m p
called_elsewhere v m p from h comes off =
    let c = coming_is (h.of p) m from (sym (ap (knows (h.of p) m) comes) ∙ (h.each p).known m) in
    let is : IsIn v p (Moves c.kind from m c.id) = subst (λ (x : Phase). IsIn v p x) c.is (h.each p) in
    (from, λ e. two_apart v p c.kind from m c.id is (sym e), ap is_away (source_holds v p c.kind from m c.id is (holds_on v p c.kind from m c.id is off)))

-- a process that was made is no server
made_apart : (pt : Point) (p : Pid) → Phased pt → is_some (pt.kernel.processes p) ≡ true → is_server p ≡ false
made_apart pt p h there = let least = h.sane.sound.made.least p there in grind (arith, nat_tests)

alive_some : (o : Option Life) (x : PlainProcess) → kernel.alive o ≡ Some x → is_some o ≡ true
alive_some o x e = grind (arith, nat_tests)

not_server : (p q : Pid) → is_server p ≡ true → is_server q ≡ false → q ≡ p → ⊥
not_server p q server off same = false≢true (sym off ∙ ap is_server same ∙ server)

pub told_to : (o : Option Told) (q : Pid) → receiver_of o ≡ Some q → (t : Told) × (o ≡ Some t) × (t.receiver ≡ q)
told_to None q e = absurd (let f : None ≡ Some q = e in cc)
told_to (Some t) q e = (t, refl, let f : t.receiver ≡ q = cc in f)

stays_rows : (pt : Point) (m : ℕ) (p : Pid) → Phased pt → is_server p ≡ true → Rows (Stays (Elsewhere pt.view m p) p pt.view.told) pt m
stays_rows pt m p h server = record {
  calm = calm_stays (Elsewhere pt.view m p) p pt.view.told;
  stays = λ i is t q box told about kind. tt;
  restarted = λ i is t q box told about kind. tt;
  left = λ i is t q box told about kind same. left_elsewhere pt m i is t p h.phases box told (about ∙ ap Of same) kind;
  buried = λ i t q n told about kind. (
    t,
    told,
    λ of_. (let over = bury_over pt i t p h told kind of_ in false≢true (sym (made_apart pt p h (ap is_some over.1)) ∙ server)),
  );
  created = λ i. tt;
  called = λ q from n is come same. called_elsewhere pt.view m p from h.phases (ap (pt.view.known m) (sym same) ∙ is) (ap pt.view.come (sym same) ∙ come);
  ends = λ q x y alive. not_server p q server (made_apart pt q h (alive_some (pt.kernel.processes q) x alive));
  serves = λ i msg there off.
      (let state = h.state in
      let (t, told, to) = told_to (pt.view.told i) msg.to (state.stands.told i msg.to (letter_of state.r state.e state.own pt.kernel i msg there state.sound)) in
      (t, told, λ same. not_server p msg.to server off (sym to ∙ same)));
}

-- the head says nothing of it
head_same : (v : View) (d : Step) → ((view.after_head v d).known ≡ v.known) × ((view.after_head v d).told ≡ v.told) × ((view.after_head v d).acting ≡ view.actor v d)
head_same v (Step.Turn m) = (refl, refl, refl)
head_same v (Step.Tick m) = (refl, refl, refl)
head_same v (Step.Deliver a c k) = (refl, refl, refl)
head_same v (Step.Migrate p m) = (refl, refl, refl)
head_same v (Step.CallOff p m) = (refl, refl, refl)

start_lasts : (v : View) (a : ℕ) (p : Pid) → Lasts v p → Elsewhere v a p ⊎ (is_away (v.known a p) ≡ false)
start_lasts v a p (m, on) = elim (eqb_tells m a) [
  | inl same ↦ inr (subst (λ (n : ℕ). is_away (v.known n p) ≡ false) same.1 on)
  | inr apart ↦ inl (m, apart.1, on)
]

lasts_group : (b : Boot) (pt : Point) (d : Step) (w : Spelled) → group_of b pt d ≡ Some w → Phased pt → ServersLast pt.view → ServersLast w.point.view
lasts_group b pt d w e h last p server =
    let v = pt.view in
    let a : ℕ = view.actor v d in
    let (known, told, acting) = head_same v d in
    let begun : View = (moved pt (Line.Head d) pt.kernel).view in
    let start : Along v a p begun = record {
      acting = acting;
      others = λ n off. ap (λ (f : ℕ → Pid → Known). f n p) known;
      told = λ i t same. ap (λ (f : MsgId → Option Told). f i) told ∙ same;
      lasts = elim (start_lasts v a p (last p server)) as (λ z. Elsewhere v a p ⊎ (is_away (begun.known a p) ≡ false)) [
        | inl there ↦ inl there
        | inr on ↦ inr (ap (λ (f : ℕ → Pid → Known). is_away (f a p)) known ∙ on)
      ];
    } in
    let end = group_walk (Stays (Elsewhere v a p) p v.told) b pt d w (Along v a p) (stays_rows pt a p h server) (along_line v a p) e start in
    elim end.lasts as (λ z. Lasts w.point.view p) [
      | inl there ↦ (there.0, ap is_away (end.others there.0 there.1) ∙ there.2)
      | inr on ↦ (a, on)
    ]

-- at the start they are on machine 0
lasts_start : (b : Boot) → IsValid b → ServersLast (first_point b).view
lasts_start b valid p server =
    let home : p.home ≡ 0 = elim (who p) as (λ z. p.home ≡ 0) [
      | OfProcess off ↦ absurd (false≢true (sym off ∙ server))
      | OfBoard is ↦ ap (λ (q : Pid). q.home) is
      | OfManager is ↦ ap (λ (q : Pid). q.home) is
    ] in
    let rest : Known = known_of_life (bind (process_named p b.processes) (first_life b)) in
    let here : (p.home == 0) ≡ true = ap (λ (n : ℕ). n == 0) home in (
      0,
      ap is_away (first_known b 0 p valid
          ∙ ap (λ (c : Bool). if c then (if is_server p then Here else rest) else Unknown) here
          ∙ ap (λ (c : Bool). if c then Here else rest) server),
    )

lasts_on : (b : Boot) (es : List Step) (pt end : Point) → Leads b pt es end → Phased pt → ServersLast pt.view → ServersLast end.view
lasts_on b [] pt end leads h s = subst (λ (q : Point). ServersLast q.view) leads s
lasts_on b (d ∷ es) pt end (w, fit, is, rest) h s = lasts_on b es w.point end rest (phased_group b pt d w fit is h) (lasts_group b pt d w is h s)

pub lasts_always : (b : Boot) (es : List Step) (pt : Point) → IsValid b → Leads b (first_point b) es pt → ServersLast pt.view
lasts_always b es pt valid leads = lasts_on b es (first_point b) pt leads (phased_start b valid) (lasts_start b valid)
