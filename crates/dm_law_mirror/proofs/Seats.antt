-- Where the manager is here, there is its seat.
use Rattle.dm_law_mirror.proofs.Names.{◌≡◌, ◌≢◌, ◌⊎◌, ⊤, ℕ, zero, suc, ◌+◌, ◌<◌, ◌≤◌, ◌==◌, ◌&&◌, Bool, true, false, List, [], ◌∷◌, length, refl, ap, ◌∙◌, sym, subst, inl, inr, arith, nat_tests, if◌then◌else◌, Option, None, Some, is_some}
use Rattle.dm_law_mirror.proofs.Names.{cases_Bool, false≢true, eqb-true, eqb_tells, Pid, pid_of, pid_eq, pid_eq-is, MsgId, MessageKind, manager, is_server, Boot, OneKernel, IsValid, first_number, Step, Line, Stage}
use Rattle.dm_law_mirror.proofs.Names.{Label, View, Known, Unknown, Here, Frozen, Incoming, Forward, About, Of, Told, Point, first_point, Spelled, group_of}
use Rattle.dm_law_mirror.proofs.Names.{at_record, is_here, Phase, Rests, Moves, InPhases, IsLeft, Asks, Comes, is_away, is_between, sort_of, times, standing, Inbox, Leads, Phased}
use Rattle.dm_law_mirror.proofs.Names.{NodeState, WorldState, Placed, History, StandsWith, Record, Resident, KnownStands, Run}
use Rattle.dm_kernel.specs.State.{KernelKnown, manager_in}
use Rattle.dm_world.specs.World.{seat_of}
use Rattle.dm_line.specs.Todo.{or}
use Rattle.std.specs.Option.{unwrap_or}
use Rattle.dm_law_rule.specs.View as view
use Rattle.dm_law_rule.specs.View.{NothingElse, Target, Place, has_seat}
use Rattle.dm_law_rule.specs.Point.{seen}
use Rattle.dm_law_rule.specs.Phases.{Nowhere, Over, knows, kind_leaves, kind_comes, token_in}
use Rattle.dm_law_rule.proofs.Hearing.{TurnsBack}
use Rattle.dm_law_mirror.proofs.Saying.{Rows, group_walk, is_calm}
use Rattle.dm_law_rule.proofs.Phases.Always.{phased_group, phased_start}
use Rattle.dm_message.specs.Sorts.{pulls_piece, brings_piece}
use Rattle.dm_message.specs.Sorts as sort
use Rattle.std.specs.Prelude.{filter, not}
use Rattle.dm_law_mirror.proofs.Kernel.Sets.{eq_apart, times_self}
use Rattle.dm_law_mirror.proofs.Numbering.{first_known}
use Rattle.dm_law_mirror.proofs.Residents.{made_no_server}
pub use Rattle.dm_law_always.proofs.Found.Groups.{here_is as is_here_is}

abbrev pub SeatStands : View → Type 0
SeatStands v = (n : ℕ) → v.known n manager ≡ Here → v.seat ≡ n

-- it is here on no machine
abbrev pub NoneHere : View → Type 0
NoneHere v = (n : ℕ) → v.known n manager ≡ Here → ⊥

-- What a line says that is no head: that the manager is here again is said only where it moves, by what N says; and no process that is
-- made is the manager.
abbrev Sits : Type 0 → Line → Type 0
Sits N (Line.Head d) = ⊥
Sits N (Line.Stays p) = p ≡ manager → N
Sits N (Line.Migration Stage.Restarted p) = p ≡ manager → N
Sits N (Line.Label (Label.Created i p)) = p ≡ manager → ⊥
Sits N l = ⊤

-- the view behind such a line
record Keeps (N : Type 0) (v w : View) : Type 0 where
  acting : w.acting ≡ v.acting
  others : (n : ℕ) → n ≢ v.acting → w.known n manager ≡ v.known n manager
  seat : ((w.seat ≡ v.seat) × ((n : ℕ) → w.known n manager ≡ Here → v.known n manager ≡ Here)) ⊎ ((w.seat ≡ v.acting) × N)

keeps_still : (N : Type 0) (v w : View) → w.acting ≡ v.acting → w.known ≡ v.known → w.seat ≡ v.seat → Keeps N v w
keeps_still N v w acting known seat = record {
  acting = acting;
  others = λ n off. ap (λ (f : ℕ → Pid → Known). f n manager) known;
  seat = inl (seat, λ n e. sym (ap (λ (f : ℕ → Pid → Known). f n manager) known) ∙ e);
}

-- another machine's record
record_others : (f : ℕ → Pid → Known) (m n : ℕ) (p : Pid) (x : Known) → n ≢ m → at_record f m p x n manager ≡ f n manager
record_others f m n p x off = ap (λ (c : Bool). if c && pid_eq p manager then x else f n manager) (eq_apart m n off)

-- it is here where it was
less_by : (f : ℕ → Pid → Known) (m n : ℕ) (p : Pid) (x : Known) (c d : Bool) → (m == n) ≡ c → pid_eq p manager ≡ d → (x ≡ Here → f m p ≡ Here) → (if c && d then x else f n manager) ≡ Here → f n manager ≡ Here
less_by f m n p x true true same is before e = (λ i. f (sym (eqb-true m n same) i) (sym (pid_eq-is p manager is) i)) ∙ before e
less_by f m n p x true false same is before e = e
less_by f m n p x false d same is before e = e

keeps_sets : (N : Type 0) (v w : View) (p : Pid) (x : Known) → w.acting ≡ v.acting → w.known ≡ at_record v.known v.acting p x → w.seat ≡ v.seat → (x ≡ Here → v.known v.acting p ≡ Here) → Keeps N v w
keeps_sets N v w p x acting known seat before = record {
  acting = acting;
  others = λ n off. ap (λ (f : ℕ → Pid → Known). f n manager) known ∙ record_others v.known v.acting n p x off;
  seat = inl (seat, λ n e. less_by v.known v.acting n p x (v.acting == n) (pid_eq p manager) refl refl before (sym (ap (λ (f : ℕ → Pid → Known). f n manager) known) ∙ e));
}

-- another than the manager is here
keeps_apart : (N : Type 0) (v w : View) (p : Pid) → w.acting ≡ v.acting → w.known ≡ at_record v.known v.acting p Here → w.seat ≡ v.seat → pid_eq p manager ≡ false → Keeps N v w
keeps_apart N v w p acting known seat off =
    let same : (n : ℕ) → w.known n manager ≡ v.known n manager = λ n. ap (λ (f : ℕ → Pid → Known). f n manager) known
    ∙ ap (λ (c : Bool). if (v.acting == n) && c then Here else v.known n manager) off ∙ spared (v.acting == n) (v.known n manager) in
    record { acting = acting; others = λ n apart. same n; seat = inl (seat, λ n e. sym (same n) ∙ e) }
  where
    spared : (c : Bool) (k : Known) → (if c && false then Here else k) ≡ k
    spared true k = refl
    spared false k = refl

-- and it again
keeps_here : (N : Type 0) (v w : View) (p : Pid) → w.acting ≡ v.acting → w.known ≡ at_record v.known v.acting p Here → w.seat ≡ (if pid_eq p manager then v.acting else v.seat) → (p ≡ manager → N) → Keeps N v w
keeps_here N v w p acting known seat moves = elim (cases_Bool (pid_eq p manager)) [
  | inl is ↦
      record {
        acting = acting;
        others = λ n off. ap (λ (f : ℕ → Pid → Known). f n manager) known ∙ record_others v.known v.acting n p Here off;
        seat = inr (seat ∙ ap (λ (c : Bool). if c then v.acting else v.seat) is, moves (pid_eq-is p manager is));
      }
  | inr off ↦ keeps_apart N v w p acting known (seat ∙ ap (λ (c : Bool). if c then v.acting else v.seat) off) off
]

not_manager : (p : Pid) → (p ≡ manager → ⊥) → pid_eq p manager ≡ false
not_manager p off = elim (cases_Bool (pid_eq p manager)) [ inl is ↦ absurd (off (pid_eq-is p manager is)) | inr apart ↦ apart ]

gone_here : (k : Known) (n : ℕ) → view.gone_to k n ≡ Here → k ≡ Here
gone_here (Frozen to) n e = cc
gone_here Unknown n e = e
gone_here Here n e = e
gone_here (Incoming from) n e = e
gone_here (Forward at moves) n e = e

back_here : (k : Known) (n : ℕ) → view.goes_back k n ≡ Here → k ≡ Here
back_here (Incoming from) n e = cc
back_here Unknown n e = e
back_here Here n e = e
back_here (Frozen to) n e = e
back_here (Forward at moves) n e = e

frozen_line : (N : Type 0) (v : View) (p : Pid) (a : About) → Keeps N v (view.sets_off v p a)
frozen_line N v p (Target m) = keeps_sets N v (view.sets_off v p (Target m)) p (Frozen m) refl refl refl (λ e. cc)
frozen_line N v p NothingElse = keeps_sets N v (view.sets_off v p NothingElse) p _ refl refl refl (λ e. cc)
frozen_line N v p (Of q) = keeps_sets N v (view.sets_off v p (Of q)) p _ refl refl refl (λ e. cc)
frozen_line N v p (Place q at moves) = keeps_sets N v (view.sets_off v p (Place q at moves)) p _ refl refl refl (λ e. cc)

stage_line : (N : Type 0) (v : View) (p : Pid) (s : Stage) → Sits N (Line.Migration s p) → Keeps N v (view.after_stage v p s)
stage_line N v p Stage.Frozen sits = frozen_line N v p v.topic
stage_line N v p Stage.Asked sits = keeps_still N v v refl refl refl
stage_line N v p Stage.Accepted sits = keeps_sets N v (view.after_stage v p Stage.Accepted) p _ refl refl refl (λ e. cc)
stage_line N v p Stage.StateTaken sits = keeps_still N v (view.after_stage v p Stage.StateTaken) refl refl refl
stage_line N v p Stage.MemoryTaken sits = keeps_still N v (view.after_stage v p Stage.MemoryTaken) refl refl refl
stage_line N v p Stage.Left sits = keeps_sets N v (view.after_stage v p Stage.Left) p (view.gone_to (v.known v.acting p) (v.moves p + 1)) refl refl refl (gone_here (v.known v.acting p) (v.moves p + 1))
stage_line N v p Stage.Restarted sits = keeps_here N v (view.after_stage v p Stage.Restarted) p refl refl refl sits

-- what a message tells of is forgotten
forgets : (N : Type 0) (v : View) (i : MsgId) (o : Option Told) → Keeps N v (view.buried_for (view.handled v i) o)
forgets N v i None = keeps_still N v (view.handled v i) refl refl refl
forgets N v i (Some t) = about_forgets t.about
  where
    about_forgets : (a : About) → Keeps N v (view.forgotten (view.handled v i) a)
    about_forgets NothingElse = keeps_still N v (view.handled v i) refl refl refl
    about_forgets (Target m) = keeps_still N v (view.handled v i) refl refl refl
    about_forgets (Of p) = keeps_sets N v (view.forgotten (view.handled v i) (Of p)) p Unknown refl refl refl (λ e. cc)
    about_forgets (Place p at moves) = keeps_still N v (view.handled v i) refl refl refl

-- a kill ends its receiver
kills : (N : Type 0) (v : View) (i : MsgId) (o : Option Told) → Keeps N v (view.served_told (view.handled v i) o)
kills N v i None = keeps_still N v (view.handled v i) refl refl refl
kills N v i (Some t) = elim (sort_of t.kind) as (λ s. Keeps N v (view.ends_by s (view.handled v i) (Some t.receiver))) [
  | sort.Kills ↦ keeps_sets N v (view.ended (view.handled v i) t.receiver) t.receiver Unknown refl refl refl (λ e. cc)
  | _ ↦ keeps_still N v (view.handled v i) refl refl refl
]

label_line : (N : Type 0) (v : View) (l : Label) → Sits N (Line.Label l) → Keeps N v (view.after_label v l)
label_line N v (Label.End p y) sits = keeps_sets N v (view.ended v p) p Unknown refl refl refl (λ e. cc)
label_line N v (Label.Dropped i) sits = elim (view.receiver_of (v.told i)) as (λ o. Keeps N v (view.dropped_for (view.handled v i) i o)) [
  | None ↦ keeps_still N v (view.handled v i) refl refl refl
  | Some p ↦ keeps_still N v (view.dropped_for (view.handled v i) i (Some p)) refl refl refl
]
label_line N v (Label.Served i) sits = kills N v i (v.told i)
label_line N v (Label.Created i p) sits = keeps_apart N v (view.after_label v (Label.Created i p)) p refl refl refl (not_manager p sits)
label_line N v (Label.Ran p k) sits = keeps_still N v (view.serving v p) refl refl refl
label_line N v (Label.Receive p i) sits = keeps_still N v (view.after_label v (Label.Receive p i)) refl refl refl
label_line N v (Label.Refuse p i c) sits = keeps_still N v (view.serving v p) refl refl refl
label_line N v (Label.Gone i) sits = keeps_still N v (view.handled v i) refl refl refl
label_line N v (Label.Took i) sits = keeps_still N v (view.handled v i) refl refl refl
label_line N v (Label.NoSpace i s b) sits = keeps_still N v (view.handled v i) refl refl refl
label_line N v (Label.Asked i) sits = keeps_still N v (view.handled v i) refl refl refl
label_line N v _ sits = keeps_still N v v refl refl refl

-- one of a stream is taken
takes : (N : Type 0) (v w : View) (b : ℕ) (o : Option MsgId) → Keeps N v w → Keeps N v (view.taken_id w b o)
takes N v w b None h = h
takes N v w b (Some i) h = record { acting = h.acting; others = h.others; seat = h.seat }

-- a piece comes
pieces : (N : Type 0) (v : View) (i : MsgId) (o : Option Told) → Keeps N v (view.after_proto (view.handled v i) o)
pieces N v i None = keeps_still N v (view.about (view.handled v i) NothingElse) refl refl refl
pieces N v i (Some t) = grind (arith, nat_tests, keeps_still)

line_keeps : (N : Type 0) (v : View) (l : Line) → Sits N l → Keeps N v (view.view_after v l)
line_keeps N v (Line.Head d) sits = absurd sits
line_keeps N v (Line.Label l) sits = label_line N v l sits
line_keeps N v (Line.Put a b i k q) sits = keeps_still N v (view.after_put v a b i k q) refl refl refl
line_keeps N v (Line.Packet a b k l) sits = keeps_still N v (view.after_packet v a b l) refl refl refl
line_keeps N v (Line.Taken a b n) sits =
    let w = view.with_pair v a b (record (v.pair a b) { taken = (v.pair a b).taken + 1; kept = filter (λ k. not (k == n)) (v.pair a b).kept }) in
    takes N v w b (view.oldest (v.pair a b)) (keeps_still N v w refl refl refl)
line_keeps N v (Line.Early a b n) sits = keeps_still N v (view.after_early v a b n) refl refl refl
line_keeps N v (Line.Acked a b n) sits = keeps_still N v (view.after_acked v a b n) refl refl refl
line_keeps N v (Line.Queued i) sits = elim (view.receiver_of (v.told i)) as (λ o. Keeps N v (view.queued_for (view.handled v i) i o)) [
  | None ↦ keeps_still N v (view.handled v i) refl refl refl
  | Some p ↦ keeps_still N v (view.queued_for (view.handled v i) i (Some p)) refl refl refl
]
line_keeps N v (Line.Held i) sits = elim (view.receiver_of (v.told i)) as (λ o. Keeps N v (view.held_for (view.handled v i) i o)) [
  | None ↦ keeps_still N v (view.handled v i) refl refl refl
  | Some p ↦ keeps_still N v (view.held_for (view.handled v i) i (Some p)) refl refl refl
]
line_keeps N v (Line.Forwarded i m) sits = elim (view.receiver_of (v.told i)) as (λ o. Keeps N v (view.forwarded_for (view.handled v i) o)) [
  | None ↦ keeps_still N v (view.handled v i) refl refl refl
  | Some p ↦ keeps_still N v (view.forwarded_for (view.handled v i) (Some p)) refl refl refl
]
line_keeps N v (Line.Updated i n) sits = keeps_still N v (view.handled v i) refl refl refl
line_keeps N v (Line.Buried i n) sits = forgets N v i (v.told i)
line_keeps N v (Line.Migration s p) sits = stage_line N v p s sits
line_keeps N v (Line.SentOn p n) sits = keeps_still N v (view.view_after v (Line.SentOn p n)) refl refl refl
line_keeps N v (Line.Called p n) sits = keeps_sets N v (view.view_after v (Line.Called p n)) p (view.goes_back (v.known v.acting p) (v.moves p)) refl refl refl (back_here (v.known v.acting p) (v.moves p))
line_keeps N v (Line.Lacks p s b) sits = keeps_still N v (view.view_after v (Line.Lacks p s b)) refl refl refl
line_keeps N v (Line.Stays p) sits = keeps_here N v (view.view_after v (Line.Stays p)) p refl refl refl sits
line_keeps N v (Line.Here i) sits = keeps_still N v (view.handled v i) refl refl refl
line_keeps N v (Line.NoMove i) sits = keeps_still N v (view.handled v i) refl refl refl
line_keeps N v (Line.Stale i) sits = keeps_still N v (view.handled v i) refl refl refl
line_keeps N v (Line.Proto i) sits = pieces N v i (v.told i)
line_keeps N v _ sits = keeps_still N v v refl refl refl

-- Along the lines of a group.

record Along (before v : View) : Type 0 where
  acting : v.acting ≡ before.acting
  others : (n : ℕ) → n ≢ before.acting → v.known n manager ≡ before.known n manager
  seats : SeatStands v

along_on : (before v w : View) → Along before v → Keeps (NoneHere before) v w → Along before w
along_on before v w h k = record {
  acting = k.acting ∙ h.acting;
  others = λ n off. k.others n (λ e. off (e ∙ h.acting)) ∙ h.others n off;
  seats = elim k.seat [
    | inl same ↦ λ n e. same.0 ∙ h.seats n (same.1 n e)
    | inr again ↦ λ n e. elim (eqb_tells n v.acting) [
      | inl here ↦ again.0 ∙ sym here.1
      | inr apart ↦ absurd (again.1 n (sym (h.others n (λ f. apart.1 (f ∙ sym h.acting))) ∙ sym (k.others n apart.1) ∙ e))
    ]
  ];
}

about_keeps : (N : Type 0) (v w : View) (a : About) → Keeps N v w → Keeps N v (view.about w a)
about_keeps N v w a h = record { acting = h.acting; others = h.others; seat = h.seat }

along_line : (before : View) (s : OneKernel) (v : View) (l : Line) → Sits (NoneHere before) l → Along before v → Along before (seen s v l)
along_line before s v l sits h = along_on before v (seen s v l) h (about_keeps (NoneHere before) v (view.view_after v l) _ (line_keeps (NoneHere before) v l sits))

child_apart : (m n : ℕ) → pid_of m (first_number + n) ≡ manager → ⊥
child_apart m n e = false≢true (sym (made_no_server m n) ∙ ap is_server e)

-- A turn: a migration of the manager that is over or turns back is said at the front of an inbox, and so the manager moves.

moves_none : (k : MessageKind) (s d : ℕ) (c e : Bool) → (if c then kind_leaves k d Here else if e then kind_comes k s Here else is_away Here) ≡ false
moves_none k s d true e = refl
moves_none k s d false true = refl
moves_none k s d false false = refl

token_moves : (v : View) (phase : Phase) (i : MsgId) → token_in phase ≡ Some i → ((n : ℕ) → knows phase n (v.known n manager) ≡ true) → NoneHere v
token_moves v (Moves k s d o) i e knows_ n here = false≢true (sym (moves_none k s d (s == n) (d == n)) ∙ sym (ap (knows (Moves k s d o) n) here) ∙ knows_ n)
token_moves v Nowhere i e knows_ n here = cc
token_moves v (Rests at) i e knows_ n here = cc
token_moves v (Over at) i e knows_ n here = cc

-- it tells between kernels, and brings or asks for no piece
record IsEnd (k : MessageKind) : Type 0 where
  between : is_between k ≡ true
  pulls : pulls_piece (sort_of k) ≡ false
  brings : brings_piece (sort_of k) ≡ false

end_of : (k : MessageKind) → (k ≡ MessageKind.Restart) ⊎ TurnsBack k → IsEnd k
end_of k h = elim h [
  | inl restart ↦ subst IsEnd (sym restart) (record { between = refl; pulls = refl; brings = refl })
  | inr turns ↦ elim turns [
    | inl refuse ↦ subst IsEnd (sym refuse) (record { between = refl; pulls = refl; brings = refl })
    | inr call ↦ subst IsEnd (sym call) (record { between = refl; pulls = refl; brings = refl })
  ]
]

not_left : (v : View) (phase : Phase) (i : MsgId) (t : Told) → IsEnd t.kind → IsLeft v manager phase i t → ⊥
not_left v phase i t h (Asks s d j pulls told way is first) = false≢true (sym h.pulls ∙ pulls)
not_left v phase i t h (Comes s d brings told way off first) = false≢true (sym h.brings ∙ brings)

back_moves : (v : View) (m : ℕ) (i : MsgId) (is : List MsgId) (t : Told) → InPhases v → v.inbox m ≡ i ∷ is → v.told i ≡ Some t → (t.kind ≡ MessageKind.Restart) ⊎ TurnsBack t.kind → t.about ≡ Of manager → NoneHere v
back_moves v m i is t phases box told kind about =
    let h = end_of t.kind kind in
    let stands : 1 ≤ standing v i (Inbox m) = subst (λ (ids : List MsgId). 1 ≤ times i ids) (sym box) (times_self i is) in
    let phase = phases.each manager in
    elim (phase.alone i t (Inbox m) told h.between about stands) [
      | inl token ↦ token_moves v (phases.of manager) i token phase.known
      | inr left ↦ absurd (not_left v (phases.of manager) i t h left)
    ]

calm_sits : (N : Type 0) (l : Line) → is_calm l ≡ true → Sits N l
calm_sits N (Line.Head d) e = absurd (false≢true e)
calm_sits N (Line.Stays p) e = absurd (false≢true e)
calm_sits N (Line.Migration Stage.Restarted p) e = absurd (false≢true e)
calm_sits N (Line.Label (Label.Created i p)) e = absurd (false≢true e)
calm_sits N _ e = tt

sits_rows : (pt : Point) (m : ℕ) (N : Type 0) → (NoneHere pt.view → N) → InPhases pt.view → Rows (Sits N) pt m
sits_rows pt m N none phases = record {
  calm = calm_sits N;
  stays = λ i is t p box told about kind same. none (back_moves pt.view m i is t phases box told (inr kind) (about ∙ ap Of same));
  restarted = λ i is t p box told about kind same. none (back_moves pt.view m i is t phases box told (inl kind) (about ∙ ap Of same));
  left = λ i is t p box told about kind. tt;
  buried = λ i t p n told about kind. tt;
  created = λ i. child_apart m (pt.kernel.made m);
  called = λ p from n is come. tt;
  ends = λ p x y alive. tt;
  serves = λ i msg there off. tt;
}

-- the head of a group changes none of it
head_along : (v : View) (d : Step) → SeatStands v → (Along (view.after_head v d) (view.after_head v d)) × ((view.after_head v d).known ≡ v.known)
head_along v (Step.Turn m) h = (record { acting = refl; others = λ n off. refl; seats = h }, refl)
head_along v (Step.Tick m) h = (record { acting = refl; others = λ n off. refl; seats = h }, refl)
head_along v (Step.Deliver a c k) h = (record { acting = refl; others = λ n off. refl; seats = h }, refl)
head_along v (Step.Migrate p m) h = (record { acting = refl; others = λ n off. refl; seats = h }, refl)
head_along v (Step.CallOff p m) h = (record { acting = refl; others = λ n off. refl; seats = h }, refl)

none_same : (f g : ℕ → Pid → Known) → f ≡ g → ((n : ℕ) → f n manager ≡ Here → ⊥) → (n : ℕ) → g n manager ≡ Here → ⊥
none_same f g e h n here = h n (ap (λ (k : ℕ → Pid → Known). k n manager) e ∙ here)

pub seat_group : (b : Boot) (pt : Point) (d : Step) (w : Spelled) → group_of b pt d ≡ Some w → InPhases pt.view → SeatStands pt.view → SeatStands w.point.view
seat_group b pt d w e phases h =
    let v = view.after_head pt.view d in
    let (first, known) = head_along pt.view d h in
    (group_walk (Sits (NoneHere v)) b pt d w (Along v) (sits_rows pt (view.actor pt.view d) (NoneHere v) (none_same pt.view.known v.known (sym known)) phases) (along_line v) e
    (record { acting = first.acting; others = first.others; seats = first.seats })).seats

-- wherever the rule leads
seat_start : (b : Boot) → IsValid b → SeatStands (first_point b).view
seat_start b valid n here = elim (eqb_tells 0 n) [
  | inl same ↦ same.1
  | inr apart ↦
      let off : (0 == n) ≡ false = eq_apart 0 n (λ e. apart.1 (sym e)) in
      let unknown : (first_point b).view.known n manager ≡ Unknown = first_known b n manager valid ∙ ap (λ (c : Bool). if c then Here else Unknown) off in
      absurd (let f : Unknown ≡ Here = sym unknown ∙ here in cc)
]

seat_on : (b : Boot) (es : List Step) (pt end : Point) → Leads b pt es end → Phased pt → SeatStands pt.view → SeatStands end.view
seat_on b [] pt end leads h s = subst (λ (q : Point). SeatStands q.view) leads s
seat_on b (d ∷ es) pt end (w, fit, is, rest) h s = seat_on b es w.point end rest (phased_group b pt d w fit is h) (seat_group b pt d w is h.phases s)

pub seat_always : (b : Boot) (es : List Step) (pt : Point) → IsValid b → Leads b (first_point b) es pt → SeatStands pt.view
seat_always b es pt valid leads = seat_on b es (first_point b) pt leads (phased_start b valid) (seat_start b valid)

-- The world's first machine with the manager is the seat.

-- a machine has the manager where it is said to be here
has_by : (l : Placed) (queue held : List MsgId) (k : Known) (r : Option KernelKnown) → KnownStands l manager queue held k r → is_some (manager_in r) ≡ is_here k
has_by l queue held Unknown None h = refl
has_by l queue held Here (Some (Record.Here (Resident.Manager g))) h = refl
has_by l queue held Here (Some (Record.Here (Resident.Board v))) h = absurd (let f : Some (Resident.Manager l.manager) ≡ Some (Resident.Board v) = h.0.1 in cc)
has_by l queue held Here (Some (Record.Here (Resident.Process x))) h = absurd (let f : Some (Resident.Manager l.manager) ≡ Some (Resident.Process (record x { queue = h.0.0 })) = h.0.1 in cc)
has_by l queue held (Frozen to) (Some (Record.Frozen d)) h = refl
has_by l queue held (Incoming from) (Some (Record.Incoming a)) h = refl
has_by l queue held (Forward to moves) (Some (Record.Forward at n)) h = refl
has_by l queue held k r h = absurd h

abbrev has_manager : (ℕ → NodeState) → ℕ → Bool
has_manager nodes m = is_some (manager_in ((nodes m).kernel.records manager))

has_manager_is : (b : Boot) (w : WorldState) (pt : Point) (l : Placed) (h : History) (n : ℕ) → StandsWith b w pt l h → n < pt.kernel.machines → has_manager w.nodes n ≡ is_here (pt.view.known n manager)
has_manager_is b w pt l h n stands below =
    let k = (stands.nodes n below).kernel in
    has_by l (pt.view.queue n manager) (pt.view.held n manager) (pt.view.known n manager) ((w.nodes n).kernel.records manager) (k.known manager)

none_of : (n : ℕ) (nodes : ℕ → NodeState) → ((m : ℕ) → m < n → has_manager nodes m ≡ false) → seat_of n nodes ≡ None
none_of zero nodes h = refl
none_of (suc n) nodes h =
    ap (λ (o : Option ℕ). or o (if has_manager nodes n then Some n else None)) (none_of n nodes (λ m less. h m (omega (arith, less))))
    ∙ ap (λ (c : Bool). if c then Some n else None) (h n (omega arith))

-- the only one that has it
only_of : (n k : ℕ) (nodes : ℕ → NodeState) → k < n → has_manager nodes k ≡ true → ((m : ℕ) → m < n → m ≢ k → has_manager nodes m ≡ false) → seat_of n nodes ≡ Some k
only_of zero k nodes less has off = absurd (omega (arith, less))
only_of (suc n) k nodes less has off = elim (eqb_tells n k) [
  | inl same ↦
      ap (λ (o : Option ℕ). or o (if has_manager nodes n then Some n else None)) (none_of n nodes (λ m small. off m (omega (arith, small)) (λ e. (let f : n ≡ k = same.1 in omega (arith, e, f, small)))))
      ∙ ap (λ (c : Bool). if c then Some n else None) (ap (has_manager nodes) same.1 ∙ has) ∙ ap Some same.1
  | inr apart ↦
      let below : k < n = (let e : n ≢ k = apart.1 in omega (arith, less, e)) in
      ap (λ (o : Option ℕ). or o (if has_manager nodes n then Some n else None)) (only_of n k nodes below has (λ m small. off m (omega (arith, small))))
]

pub seat_said : (b : Boot) (w : WorldState) (pt : Point) (l : Placed) (h : History) → Run b pt → SeatStands pt.view → StandsWith b w pt l h → (c : Bool) → has_seat pt.view ≡ c → seat_of (length b.machines) w.nodes ≡ (if c then Some pt.view.seat else None)
seat_said b w pt l h run seats stands true here =
    let v = pt.view in
    let machines = run.based.machines in
    let known : v.known v.seat manager ≡ Here = is_here_is (v.known v.seat manager) here in
    let within : v.seat < pt.kernel.machines = run.found.known_within v.seat manager (λ e. (let f : Here ≡ Unknown = sym known ∙ e in cc)) in
    only_of (length b.machines) v.seat w.nodes (subst (λ (n : ℕ). v.seat < n) machines within) (has_manager_is b w pt l h v.seat stands within ∙ here)
    (λ m less apart. has_manager_is b w pt l h m stands (subst (λ (n : ℕ). m < n) (sym machines) less) ∙ not_here m apart (is_here (v.known m manager)) refl)
  where
    not_here : (m : ℕ) → m ≢ pt.view.seat → (d : Bool) → is_here (pt.view.known m manager) ≡ d → is_here (pt.view.known m manager) ≡ false
    not_here m apart true e = absurd (apart (sym (seats m (is_here_is (pt.view.known m manager) e))))
    not_here m apart false e = e
seat_said b w pt l h run seats stands false away =
    none_of (length b.machines) w.nodes (λ m less. has_manager_is b w pt l h m stands (subst (λ (n : ℕ). m < n) (sym run.based.machines) less) ∙ nowhere m (is_here (pt.view.known m manager)) refl)
  where
    nowhere : (m : ℕ) (d : Bool) → is_here (pt.view.known m manager) ≡ d → is_here (pt.view.known m manager) ≡ false
    nowhere m true e =
        let here : pt.view.known m manager ≡ Here = is_here_is (pt.view.known m manager) e in
        absurd (false≢true (sym away ∙ ap (λ (n : ℕ). is_here (pt.view.known n manager)) (seats m here) ∙ ap is_here here))
    nowhere m false e = e

-- what the first machine with the manager has
or_has : (n s : ℕ) (nodes : ℕ → NodeState) (o : Option ℕ) (c : Bool) → has_manager nodes n ≡ c → or o (if c then Some n else None) ≡ Some s → (o ≡ Some s → (s < n) × (has_manager nodes s ≡ true)) → (s < suc n) × (has_manager nodes s ≡ true)
or_has n s nodes (Some x) c is e h = let k = h e in let less = k.0 in (omega (arith, less), k.1)
or_has n s nodes None true is e h = let f : n ≡ s = cc in (omega (arith, f), ap (has_manager nodes) (sym f) ∙ is)
or_has n s nodes None false is e h = absurd (none_some s e)
  where
    none_some : (s : ℕ) → None ≡ Some s → ⊥
    none_some s e = cc

pub seat_has : (n s : ℕ) (nodes : ℕ → NodeState) → seat_of n nodes ≡ Some s → (s < n) × (has_manager nodes s ≡ true)
seat_has zero s nodes e = absurd (let f : None ≡ Some s = e in cc)
seat_has (suc n) s nodes e = or_has n s nodes (seat_of n nodes) (has_manager nodes n) refl e (seat_has n s nodes)

or_none : (n : ℕ) (o : Option ℕ) (c : Bool) → or o (if c then Some n else None) ≡ None → (o ≡ None) × (c ≡ false)
or_none n (Some x) c e = absurd (let f : Some x ≡ None = e in cc)
or_none n None true e = absurd (let f : Some n ≡ None = e in cc)
or_none n None false e = (refl, refl)

pub none_has : (n : ℕ) (nodes : ℕ → NodeState) → seat_of n nodes ≡ None → (m : ℕ) → m < n → has_manager nodes m ≡ false
none_has zero nodes e m less = absurd (omega (arith, less))
none_has (suc n) nodes e m less =
    let k = or_none n (seat_of n nodes) (has_manager nodes n) e in
    elim (eqb_tells m n) [
      | inl same ↦ ap (has_manager nodes) same.1 ∙ k.1
      | inr apart ↦ none_has n nodes k.0 m (let differ : m ≢ n = apart.1 in omega (arith, less, differ))
    ]

-- the same machine acts in two worlds where the one that acts in the first is the same in the second
pub seat_same : (n : ℕ) (w u : ℕ → NodeState) (o q : Option ℕ) → seat_of n w ≡ o → seat_of n u ≡ q → unwrap_or q 0 ≡ unwrap_or o 0 → u (unwrap_or o 0) ≡ w (unwrap_or o 0) → q ≡ o
seat_same n w u None None is there e same = refl
seat_same n w u (Some s) (Some t) is there e same = ap Some e
seat_same n w u None (Some t) is there e same =
    let k = seat_has n t u there in
    let less = k.0 in
    let here : has_manager w 0 ≡ true = ap (λ (x : NodeState). is_some (manager_in (x.kernel.records manager))) (sym same ∙ ap u (sym e)) ∙ k.1 in
    absurd (false≢true (sym (none_has n w is 0 (omega (arith, less))) ∙ here))
seat_same n w u (Some s) None is there e same =
    let k = seat_has n s w is in
    let less = k.0 in
    let here : has_manager u 0 ≡ true = ap (λ (x : NodeState). is_some (manager_in (x.kernel.records manager))) (ap u e ∙ same) ∙ k.1 in
    absurd (false≢true (sym (none_has n u there 0 (omega (arith, less))) ∙ here))
