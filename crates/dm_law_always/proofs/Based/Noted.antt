-- What follows a request to move is here on no machine: each group keeps it. Only between two lines of a group it may be here.
use Rattle.dm_law_always.proofs.Names.{forwards_on, gives_piece, updates, Addresses, plain_kind, manager, ◌≡◌, ℕ, ◌==◌, ◌&&◌, Bool, true, false, List, [], ◌∷◌, ◌++◌, refl, ap, ◌∙◌, sym, subst, ⊤, if◌then◌else◌, false≢true, is_some, Option}
use Rattle.dm_law_always.proofs.Names.{None, Some, Pid, pid_of, pid_eq, MsgId, MessageKind, Stage, Boot, Label, OneKernel, PlainMessage, MoveNote, Outcome, with_sent, without_note, bind, bind-is, first_number, Step, Line, View, Told, Known}
use Rattle.dm_law_always.proofs.Names.{Here, Frozen, Incoming, front_of, gone_to, handled, receiver_of, oldest, view_after, is_here, is_away, at_record, Point, label_of, kernel_after, after_line, after, moved, Part, Says, Routes, Spelled}
use Rattle.dm_law_always.proofs.Names.{lines_of, puts, behind, spelled, group_of, group_is, sends_on, to_kernel, IsNetLine, queued_known, held_known, dropped_known, forwarded_known, proto_known, by_step, by_parts, by_outcome, by_round}
use Rattle.dm_law_always.proofs.Names.{ends_move-is, by_handles, by_hears, by_net, by_migrates, by_forwards, Phased, KnownStands, pid_eq-is, pid_eq-same, left_parts, served_told, migrates, filter, not, ◌+◌, answers_move, leaves_for, aim}
use Rattle.dm_law_always.proofs.Names.{sets, arith, calls_off, by_calls_off, ◌||◌, buries, ends_with, is_server, length, map, preds_of, Life, Unknown}
use Rattle.dm_onekernel.specs.Pieces as pieces
use Rattle.dm_onekernel.specs.Step as kernel
use Rattle.dm_law_rule.specs.Rule as rule
use Rattle.dm_law_rule.specs.View as view
use Rattle.dm_law_always.proofs.Fits.Serves.{asked_noted}
use Rattle.dm_law_always.proofs.Based.Groups.{Begins, begins}
use Rattle.dm_law_always.proofs.Based.Needs.{Resting}
use Rattle.dm_law_always.proofs.Based.Rows.{turned, resting, unborn}
use Rattle.dm_law_always.proofs.Based.Sets.{set_all, killed_or}
use Rattle.dm_law_rule.proofs.Phases.EndLines.{taken_known}

-- all processes but one, if there is one
abbrev pub Apart : Option Pid → Pid → Type 0
Apart None p = ⊤
Apart (Some q) p = pid_eq q p ≡ false

pub record Away (o : Option Pid) (s : OneKernel) (v : View) : Type 0 where
  pub away : (p : Pid) (n : MoveNote) → s.notes p ≡ Some n → Apart o p → (m : ℕ) → is_here (v.known m p) ≡ false

abbrev At : Option Pid → Point → Type 0
At o pt = Away o pt.kernel pt.view

-- no new note, and no process comes here
away_on : (o : Option Pid) (s t : OneKernel) (v w : View) → ((p : Pid) (n : MoveNote) → t.notes p ≡ Some n → s.notes p ≡ Some n) → ((m : ℕ) (p : Pid) → is_here (w.known m p) ≡ true → is_here (v.known m p) ≡ true) → Away o s v → Away o t w
away_on o s t v w notes known h = search (arith, w.known, h.away)

-- labels
abbrev IsCalm : Line → Type 0
IsCalm (Line.Label (Label.Asked i)) = ⊥
IsCalm (Line.Label (Label.Created i p)) = ⊥
IsCalm (Line.Migration Stage.Restarted p) = ⊥
IsCalm (Line.Stays p) = ⊥
IsCalm l = ⊤

abbrev Fewer : OneKernel → OneKernel → Type 0
Fewer s t = (p : Pid) (n : MoveNote) → t.notes p ≡ Some n → s.notes p ≡ Some n

abbrev NotesBy : OneKernel → Label → OneKernel → Type 0
NotesBy s (Label.Asked i) t = ⊤
NotesBy s l t = Fewer s t

fewer_sent : (s u : OneKernel) (o : Option PlainMessage) → Fewer s u → Fewer s (with_sent u o)
fewer_sent s u o h1 = search arith

fewer_by : (s t : OneKernel) (l : Label) → Fewer s t → NotesBy s l t
fewer_by s t l h1 = search arith

unnoted : (s : OneKernel) (p : Pid) (id : MsgId) → Fewer s (without_note s p id)
unnoted s p id = search (arith, s.notes)

step_notes : (s t : OneKernel) (l : Label) → kernel.step s l ≡ Some t → NotesBy s l t
step_notes s t l =
    let same : (u : OneKernel) → Fewer s u → NotesBy s l u = λ u h. fewer_by s u l h in
    by_step (NotesBy s l) s t l (search (arith, fewer_by, fewer_sent, unnoted))

-- what is known
same_here : (v w : View) → ((m : ℕ) (p : Pid) → w.known m p ≡ v.known m p) → (m : ℕ) (p : Pid) → is_here (w.known m p) ≡ true → is_here (v.known m p) ≡ true
same_here v w same m p e = ap is_here (sym (same m p)) ∙ e

set_here : (v w : View) (p : Pid) (k : Known) → w.known ≡ at_record v.known v.acting p k → (is_here k ≡ true → is_here (v.known v.acting p) ≡ true) → (m : ℕ) (q : Pid) → is_here (w.known m q) ≡ true → is_here (v.known m q) ≡ true
set_here v w p k known here m q e = search (arith, set_all, v.known, v.acting)

gone_here : (k : Known) (n : ℕ) → is_here (gone_to k n) ≡ true → is_here k ≡ true
gone_here k n h1 = search arith

back_here : (k : Known) (n : ℕ) → is_here (view.goes_back k n) ≡ true → is_here k ≡ true
back_here k n h1 = search arith

served_here : (v : View) (o : Option Told) (m : ℕ) (q : Pid) → is_here ((served_told v o).known m q) ≡ true → is_here (v.known m q) ≡ true
served_here v o m q h1 = search (arith, killed_or, v.known, set_here)

buried_here : (v : View) (o : Option Told) (m : ℕ) (q : Pid) → is_here ((view.buried_for v o).known m q) ≡ true → is_here (v.known m q) ≡ true
buried_here v None m q e = e
buried_here v (Some t) m q e = by t.about e
  where
    by : (a : view.About) → is_here ((view.forgotten v a).known m q) ≡ true → is_here (v.known m q) ≡ true
    by (view.Of p) e_ = set_here v (view.forgotten v (view.Of p)) p Unknown refl (λ f. absurd (false≢true f)) m q e_
    by _ e_ = e_

line_here : (v : View) (l : Line) → IsCalm l → (m : ℕ) (q : Pid) → is_here ((view_after v l).known m q) ≡ true → is_here (v.known m q) ≡ true
line_here v (Line.Label l) calm = search (arith, set_here, served_here, same_here, dropped_known)
line_here v (Line.Head (Step.Turn m)) calm = λ n q e. e
line_here v (Line.Head (Step.Tick m)) calm = λ n q e. e
line_here v (Line.Head (Step.Deliver a b k)) calm = λ n q e. e
line_here v (Line.Head (Step.Migrate p m)) calm = λ n q e. e
line_here v (Line.Head (Step.CallOff p m)) calm = λ n q e. e
line_here v (Line.Queued i) calm = same_here v (view_after v (Line.Queued i)) (queued_known (handled v i) i (receiver_of (v.told i)))
line_here v (Line.Held i) calm = same_here v (view_after v (Line.Held i)) (held_known (handled v i) i (receiver_of (v.told i)))
line_here v (Line.Forwarded i to) calm = same_here v (view_after v (Line.Forwarded i to)) (forwarded_known (handled v i) (receiver_of (v.told i)))
line_here v (Line.Proto i) calm = same_here v (view_after v (Line.Proto i)) (proto_known (handled v i) (v.told i))
line_here v (Line.Taken a b n) calm =
    let p = v.pair a b in
    same_here v (view_after v (Line.Taken a b n)) (taken_known (view.with_pair v a b (record p { taken = p.taken + 1; kept = filter (λ k. not (k == n)) p.kept })) b (oldest p))
line_here v (Line.Migration Stage.Frozen p) calm = let set = sets v p v.topic in set_here v (view_after v (Line.Migration Stage.Frozen p)) p (Frozen (aim v v.topic)) set.known (λ e. absurd (false≢true e))
line_here v (Line.Migration Stage.Accepted p) calm = set_here v (view_after v (Line.Migration Stage.Accepted p)) p (Incoming (front_of (v.inbox v.acting))) refl (λ e. absurd (false≢true e))
line_here v (Line.Migration Stage.Left p) calm = set_here v (view_after v (Line.Migration Stage.Left p)) p (gone_to (v.known v.acting p) (v.moves p + 1)) refl (gone_here (v.known v.acting p) (v.moves p + 1))
line_here v (Line.Buried i n) calm = buried_here (handled v i) (v.told i)
line_here v (Line.Called p n) calm = set_here v (view_after v (Line.Called p n)) p (view.goes_back (v.known v.acting p) (v.moves p)) refl (back_here (v.known v.acting p) (v.moves p))
line_here v (Line.Migration Stage.Restarted p) calm = absurd calm
line_here v (Line.Stays p) calm = absurd calm
line_here v _ calm = λ m q e. e

-- a line
none_notes : (s t : OneKernel) → Some s ≡ Some t → Fewer s t
none_notes s t e = let f : s ≡ t = cc in subst (Fewer s) f (λ p n is. is)

label_notes : (s t : OneKernel) (l : Label) → IsCalm (Line.Label l) → kernel.step s l ≡ Some t → Fewer s t
label_notes s t (Label.Asked i) calm is = absurd calm
label_notes s t l calm is = step_notes s t l is

line_notes : (s t : OneKernel) (l : Line) → IsCalm l → kernel_after s (label_of l) ≡ Some t → Fewer s t
line_notes s t (Line.Label l) calm is = label_notes s t l calm is
line_notes s t _ calm is = none_notes s t is

line_away : (o : Option Pid) (pt : Point) (t : OneKernel) (l : Line) → IsCalm l → kernel_after pt.kernel (label_of l) ≡ Some t → At o pt → At o (moved pt l t)
line_away o pt t l calm is = away_on o pt.kernel t pt.view (moved pt l t).view (line_notes pt.kernel t l calm is) (line_here pt.view l calm)

-- lines, parts
abbrev AreCalm : List Line → Type 0
AreCalm [] = ⊤
AreCalm (l ∷ ls) = IsCalm l × AreCalm ls

lines_away : (o : Option Pid) (ls : List Line) (pt next : Point) → AreCalm ls → after pt ls ≡ Some next → At o pt → At o next
lines_away o [] pt next calm is h = let f : pt ≡ next = cc in subst (At o) f h
lines_away o (l ∷ ls) pt next calm is h =
    let (mid, first, rest) = bind-is (after_line pt l) (λ (q : Point). after q ls) next is in
    let (t, step, last) = bind-is (kernel_after pt.kernel (label_of l)) (λ s. Some (moved pt l s)) mid first in
    let f : moved pt l t ≡ mid = cc in
    lines_away o ls mid next calm.1 rest (subst (At o) f (line_away o pt t l calm.0 step h))

abbrev pub CalmPart : Part → Type 0
CalmPart (Says l) = IsCalm l
CalmPart _ = ⊤

abbrev pub AllCalm : List Part → Type 0
AllCalm [] = ⊤
AllCalm (p ∷ ps) = CalmPart p × AllCalm ps

put_calm : (v : View) (b : ℕ) (i : MsgId) (k : MessageKind) (q : Pid) → AreCalm (puts v b i k q)
put_calm v b i k q = search arith

part_calm : (pt : Point) (p : Part) (ls : List Line) → CalmPart p → lines_of pt p ≡ Some ls → AreCalm ls
part_calm pt p ls h1 h2 = search (arith, pt.addresses, bind-is, pt.kernel.bag, pt.view, put_calm, pt.view.told)

parts_away : (o : Option Pid) (ps : List Part) (pt : Point) (w : Spelled) → AllCalm ps → spelled pt ps ≡ Some w → At o pt → At o w.point
parts_away o qs q w calm is = by_parts (λ ps pt v. AllCalm ps → At o pt → At o v.point) (λ pt calm h. h)
    (λ p ps pt next ls z lines leads rest calm h. rest calm.1 (lines_away o ls pt next (part_calm pt p ls calm.0 lines) leads h)) qs q w is calm

-- a first line, and the rest
record Then (pt : Point) (l : Line) (ps : List Part) (w : Spelled) : Type 0 where
  kernel : OneKernel
  step : kernel_after pt.kernel (label_of l) ≡ Some kernel
  rest : Spelled
  is : spelled (moved pt l kernel) ps ≡ Some rest
  point : rest.point ≡ w.point

then_of : (pt : Point) (l : Line) (ps : List Part) (w : Spelled) → spelled pt (Says l ∷ ps) ≡ Some w → Then pt l ps w
then_of pt l ps w e =
    let (next, leads, more) = bind-is (after pt (l ∷ [])) (λ (q : Point). bind (spelled q ps) (λ (z : Spelled). Some (behind (l ∷ []) z))) w e in
    let (z, is, end) = bind-is (spelled next ps) (λ (z : Spelled). Some (behind (l ∷ []) z)) w more in
    let (mid, first, last) = bind-is (after_line pt l) (λ (q : Point). after q []) next leads in
    let (s, step, then_) = bind-is (kernel_after pt.kernel (label_of l)) (λ s. Some (moved pt l s)) mid first in
    search arith

-- a process is asked to move: only it may be here
asked_away : (pt : Point) (t : OneKernel) (id : MsgId) (m : PlainMessage) → pt.kernel.bag id ≡ Some m → kernel.step pt.kernel (Label.Asked id) ≡ Some t → At None pt → At (Some m.to) (moved pt (Line.Label (Label.Asked id)) t)
asked_away pt t id m h1 h2 h3 = search (arith, pt.kernel, m.to, t.notes, m.sender, bind-is)

-- its request is answered
answered_away : (pt : Point) (t : OneKernel) (id : MsgId) (r : Outcome) (p : Pid) → pt.kernel.noted id ≡ Some p → kernel.step pt.kernel (Label.Answered id r) ≡ Some t → At (Some p) pt → At None (moved pt (Line.Label (Label.Answered id r)) t)
answered_away pt t id r p h1 h2 h3 = search (arith, pt.kernel, bind-is, ends_move-is)

-- it leaves
leaves_away : (pt : Point) (p : Pid) → Resting pt.view p → At (Some p) pt → At None (moved pt (Line.Migration Stage.Frozen p) pt.kernel)
leaves_away pt p rests h = search (arith, pt.kernel, pid_eq-is, line_away)
  where
    away_off : (k : Known) → is_away k ≡ true → is_here k ≡ false
    away_off Here e = absurd (false≢true e)
    away_off _ e = refl

    mine : (m : ℕ) → is_here ((moved pt (Line.Migration Stage.Frozen p) pt.kernel).view.known m p) ≡ false
    mine m =
        let v = pt.view in
        let set = sets v p v.topic in
        ap (λ (f : ℕ → Pid → Known). is_here (f m p)) set.known ∙ by (v.acting == m) refl
      where
        by : (c : Bool) → (pt.view.acting == m) ≡ c → is_here (at_record pt.view.known pt.view.acting p (Frozen (aim pt.view pt.view.topic)) m p) ≡ false
        by true e = ap (λ (c : Bool). is_here (if c && pid_eq p p then Frozen (aim pt.view pt.view.topic) else pt.view.known m p)) e ∙ ap (λ (c : Bool). is_here (if c then Frozen (aim pt.view pt.view.topic) else pt.view.known m p)) (pid_eq-same p)
        by false e = ap (λ (c : Bool). is_here (if c && pid_eq p p then Frozen (aim pt.view pt.view.topic) else pt.view.known m p)) e ∙ away_off (pt.view.known m p) (rests.away m e)

-- a process comes here
comes_away : (pt : Point) (t : OneKernel) (l : Line) (p : Pid) → Fewer pt.kernel t → (view_after pt.view l).known ≡ at_record pt.view.known pt.view.acting p Here → At None pt → At (Some p) (moved pt l t)
comes_away pt t l p fewer known h = search (arith, set_all, pt.view.known, pt.view.acting, pid_eq-same, h.away)

-- and follows no request
free_away : (pt : Point) (p : Pid) → ((n : MoveNote) → pt.kernel.notes p ≡ Some n → ⊥) → At (Some p) pt → At None pt
free_away pt p free h = search (arith, pt.kernel.notes, pid_eq-is, h.away)

none_free : (o : Option MoveNote) (n : MoveNote) → o ≡ None → o ≡ Some n → ⊥
none_free o n e f = let g : None ≡ Some n = sym e ∙ f in cc

-- groups
abbrev Keeps : Point → List Part → Type 0
Keeps pt ps = (w : Spelled) → spelled pt ps ≡ Some w → At None pt → At None w.point

calm_keeps : (pt : Point) (ps : List Part) → AllCalm ps → Keeps pt ps
calm_keeps pt ps calm w is h = parts_away None ps pt w calm is h

-- a line by which a process comes here, and follows no request
comes_keeps : (pt : Point) (l : Line) (p : Pid) (ps : List Part) → (view_after pt.view l).known ≡ at_record pt.view.known pt.view.acting p Here → ((t : OneKernel) → kernel_after pt.kernel (label_of l) ≡ Some t → Fewer pt.kernel t) → ((n : MoveNote) → pt.kernel.notes p ≡ Some n → ⊥) → AllCalm ps → Keeps pt (Says l ∷ ps)
comes_keeps pt l p ps known fewer free calm w is h =
    let g = then_of pt l ps w is in
    let mid = moved pt l g.kernel in
    let on = free_away mid p (λ n e. free n (fewer g.kernel g.step p n e)) (comes_away pt g.kernel l p (fewer g.kernel g.step) known h) in
    subst (At None) g.point (parts_away None ps mid g.rest calm g.is on)

-- or follows one, and its end is answered
answers_keeps : (pt : Point) (l : Line) (p : Pid) (n : MoveNote) (r : Outcome) → label_of l ≡ None → (view_after pt.view l).known ≡ at_record pt.view.known pt.view.acting p Here → pt.kernel.noted n.id ≡ Some p → Keeps pt (Says l ∷ answers_move n.id r)
answers_keeps pt l p n r none known noted w is h =
    let g = then_of pt l (answers_move n.id r) w is in
    let mid = moved pt l g.kernel in
    let same : pt.kernel ≡ g.kernel = (let e : Some pt.kernel ≡ Some g.kernel = sym (ap (kernel_after pt.kernel) none) ∙ g.step in cc) in
    let k = then_of mid (Line.Label (Label.Answered n.id r)) (Routes (pieces.answer_id n.id) ∷ []) g.rest g.is in
    let on = comes_away pt g.kernel l p (λ q z e. ap (λ (u : OneKernel). u.notes q) same ∙ e) known h in
    let done = answered_away mid k.kernel n.id r p (ap (λ (u : OneKernel). u.noted n.id) (sym same) ∙ noted) k.step on in
    subst (At None) (k.point ∙ g.point) (parts_away None (Routes (pieces.answer_id n.id) ∷ []) (moved mid (Line.Label (Label.Answered n.id r)) k.kernel) k.rest (tt, tt) k.is done)

-- a process that is asked to move is there already
moved_keeps : (pt : Point) (id : MsgId) (m : PlainMessage) → pt.kernel.bag id ≡ Some m → Keeps pt (rule.says (Label.Asked id) ∷ answers_move id Outcome.Done)
moved_keeps pt id m there w is h =
    let l = Line.Label (Label.Asked id) in
    let g = then_of pt l (answers_move id Outcome.Done) w is in
    let mid = moved pt l g.kernel in
    let k = then_of mid (Line.Label (Label.Answered id Outcome.Done)) (Routes (pieces.answer_id id) ∷ []) g.rest g.is in
    let on = asked_away pt g.kernel id m there g.step h in
    let done = answered_away mid k.kernel id Outcome.Done m.to (asked_noted pt.kernel g.kernel id m g.step there) k.step on in
    subst (At None) (k.point ∙ g.point) (parts_away None (Routes (pieces.answer_id id) ∷ []) (moved mid (Line.Label (Label.Answered id Outcome.Done)) k.kernel) k.rest (tt, tt) k.is done)

-- or it leaves
sets_keeps : (pt : Point) (id : MsgId) (m : PlainMessage) (to : ℕ) → pt.kernel.bag id ≡ Some m → Resting pt.view m.to → Keeps pt (rule.says (Label.Asked id) ∷ leaves_for m.to to)
sets_keeps pt id m to there rests w is h =
    let l = Line.Label (Label.Asked id) in
    let ps = Says (Line.Migration Stage.Asked m.to) ∷ to_kernel MessageKind.Ask to ∷ [] in
    let g = then_of pt l (leaves_for m.to to) w is in
    let mid = moved pt l g.kernel in
    let f = Line.Migration Stage.Frozen m.to in
    let k = then_of mid f ps g.rest g.is in
    let same : mid.kernel ≡ k.kernel = (let e : Some mid.kernel ≡ Some k.kernel = k.step in cc) in
    let on = leaves_away mid m.to (record { here = rests.here; away = rests.away }) (asked_away pt g.kernel id m there g.step h) in
    subst (At None) (k.point ∙ g.point) (parts_away None ps (moved mid f k.kernel) k.rest (tt, (tt, tt)) k.is (subst (λ (u : OneKernel). At None (moved mid f u)) same on))

pub or_true : (c : Bool) → (c || true) ≡ true
or_true c = search arith

-- rows of a turn
drops_calm : (ids : List MsgId) (ps : List Part) → AllCalm ps → AllCalm (rule.drop_parts ids ++ ps)
drops_calm [] ps h = h
drops_calm (i ∷ is) ps h = (tt, drops_calm is ps h)

buries_calm : (ms : List ℕ) → AllCalm (map (to_kernel MessageKind.Bury) ms)
buries_calm [] = tt
buries_calm (m ∷ ms) = (tt, buries_calm ms)

ends_calm : (o : Point) (m : ℕ) (p : Pid) → AllCalm (ends_with o m p)
ends_calm o m p = drops_calm (o.view.queue m p) (buries o m p) (buries_calm (preds_of o m p))

routes_calm : (o : Option PlainMessage) → AllCalm (rule.routes o)
routes_calm o = search arith

round_calm : (b : Boot) (o : Point) (m : ℕ) (q : Option Pid) (ps : List Part) → rule.goes_round b o m q ≡ Some ps → AllCalm ps
round_calm b o m q ps = by_round AllCalm b o m q ps (tt, tt) (λ p x is alive. record {
  runs = λ k rest stops. (
    tt,
    stops AllCalm (record {
      over = tt;
      replies = λ n r. (tt, tt);
      sends = λ id. (tt, (tt, tt));
      waits = (tt, tt);
      outputs = λ word. (tt, tt);
      ends = λ y. (tt, ends_calm o m p);
    }),
  );
  takes = λ mask id first. (tt, tt);
  refuses = λ id r. (tt, tt);
})

forwards_calm : (a : Addresses) (id : MsgId) (k : MessageKind) (sender : Pid) (to : ℕ) → AllCalm (forwards_on a id k sender to)
forwards_calm a id k sender to = by_forwards AllCalm a id k sender to (tt, (tt, tt)) (tt, (tt, (tt, tt)))

handles_keeps : (b : Boot) (o : Point) (m : ℕ) (id : MsgId) (msg : PlainMessage) (ps : List Part) → Begins o m → o.kernel.bag id ≡ Some msg → rule.handles b o m id msg ≡ Some ps → Keeps (turned o m) ps
handles_keeps b o m id msg ps begins there =
    let pt = turned o m in
    let calm : (qs : List Part) → AllCalm qs → Keeps pt qs = λ qs c. calm_keeps pt qs c in
    by_handles (Keeps pt) b o m id msg ps (record {
      created = λ fixed.
          (let child = pid_of m (first_number + o.kernel.made m) in
          let born = unborn o m begins.rooted in
          comes_keeps pt (Line.Label (Label.Created id child)) child (Routes (pieces.answer_id id) ∷ []) refl (λ t step. step_notes pt.kernel t (Label.Created id child) step)
          (λ n noted. (let (x, alive) = begins.sane.sound.notes.lives child n noted in begins.known.home child (ap (λ (c : Bool). is_server child || c) (ap (λ (l : Option Life). is_some (kernel.alive l)) alive) ∙ or_true (is_server child)) (born.unknown child.home))) (tt, tt));
      no_space = λ fixed slots blocks. calm (rule.says (Label.NoSpace id slots blocks) ∷ Routes (pieces.answer_id id) ∷ []) (tt, (tt, tt));
      took = λ fixed sent. calm (rule.says (Label.Took id) ∷ rule.routes sent) (tt, routes_calm sent);
      queued = λ to user. calm (Says (Line.Queued id) ∷ []) (tt, tt);
      served = λ to mild. calm (rule.says (Label.Served id) ∷ []) (tt, tt);
      answers = λ to mild i. calm (rule.says (Label.Served id) ∷ Routes i ∷ []) (tt, (tt, tt));
      kills = λ to kills. calm (rule.says (Label.Served id) ∷ ends_with o m msg.to) (tt, ends_calm o m msg.to);
      moved = λ to what. moved_keeps pt id msg there;
      sets_off = λ x to what apart. sets_keeps pt id msg x there (resting pt.view msg.to begins.phases to.known);
      gone = λ to. calm (rule.says (Label.Gone id) ∷ Routes (pieces.answer_id id) ∷ []) (tt, (tt, tt));
      dropped = λ to. calm (rule.says (Label.Dropped id) ∷ []) (tt, tt);
      leaving = λ n to. calm (Says (Line.Held id) ∷ []) (tt, tt);
      coming = λ n to. calm (Says (Line.Held id) ∷ []) (tt, tt);
      forwarded = λ n c to. calm (forwards_on o.addresses id (plain_kind msg.what) msg.sender n) (forwards_calm o.addresses id (plain_kind msg.what) msg.sender n);
    })

sends_calm : (to : ℕ) (ids : List MsgId) (ps : List Part) → AllCalm ps → AllCalm (sends_on to ids ++ ps)
sends_calm to [] ps h = h
sends_calm to (i ∷ is) ps h = (tt, sends_calm to is ps h)

hears_keeps : (b : Boot) (o : Point) (m : ℕ) (i : MsgId) (q : Option Told) (ps : List Part) → Begins o m → rule.hears b o m i q ≡ Some ps → Keeps (turned o m) ps
hears_keeps b o m i q ps begins =
    let pt = turned o m in
    let calm : (qs : List Part) → AllCalm qs → Keeps pt qs = λ qs c. calm_keeps pt qs c in
    by_hears (Keeps pt) b o m i q ps (λ t there. record {
      buried = λ p about kind. calm (Says (Line.Buried i (length (preds_of o m p))) ∷ buries o m p) (tt, buries_calm (preds_of o m p));
      stale = λ p about late. calm (Says (Line.Stale i) ∷ []) (tt, tt);
      told = λ p x about sized due. record {
        accepted = λ ask. calm (Says (Line.Migration Stage.Accepted p) ∷ to_kernel MessageKind.PullState i.from.home ∷ []) (tt, (tt, tt));
        lacks = λ slots blocks. calm (Says (Line.Lacks p slots blocks) ∷ to_kernel MessageKind.Refuse i.from.home ∷ []) (tt, (tt, tt));
        stays = λ kind free. comes_keeps pt (Line.Stays p) p [] refl (λ t step. none_notes pt.kernel t step) (λ n noted. none_free (pt.kernel.notes p) n free noted) tt;
        stays_asked = λ kind n noted. answers_keeps pt (Line.Stays p) p n Outcome.Stayed refl refl (begins.sane.sound.notes.noted p n noted);
        state = calm (gives_piece i MessageKind.State) (tt, (tt, tt));
        next_chunk = calm (Says (Line.Proto i) ∷ to_kernel MessageKind.PullState i.from.home ∷ []) (tt, (tt, tt));
        last_chunk = calm (Says (Line.Migration Stage.StateTaken p) ∷ to_kernel MessageKind.PullBlock i.from.home ∷ []) (tt, (tt, tt));
        memory = calm (gives_piece i MessageKind.Memory) (tt, (tt, tt));
        next_block = calm (Says (Line.Proto i) ∷ to_kernel MessageKind.PullBlock i.from.home ∷ []) (tt, (tt, tt));
        server_chunk = λ server. calm (Says (Line.Migration Stage.StateTaken p) ∷ Says (Line.Migration Stage.MemoryTaken p) ∷ to_kernel MessageKind.AllTaken i.from.home ∷ []) (tt, (tt, (tt, tt)));
        last_block = calm (Says (Line.Migration Stage.MemoryTaken p) ∷ to_kernel MessageKind.AllTaken i.from.home ∷ []) (tt, (tt, tt));
        left = λ ids to leaves. calm (left_parts i p ids to) (tt, sends_calm to ids (Says (Line.Migration Stage.Left p) ∷ to_kernel MessageKind.Restart i.from.home ∷ []) (tt, (tt, tt)));
        restarted = λ kind free. comes_keeps pt (Line.Migration Stage.Restarted p) p [] refl (λ t step. none_notes pt.kernel t step) (λ n noted. none_free (pt.kernel.notes p) n free noted) tt;
        restarted_asked = λ kind n noted. answers_keeps pt (Line.Migration Stage.Restarted p) p n Outcome.Done refl refl (begins.sane.sound.notes.noted p n noted);
      };
      updated = λ kind. calm (updates o i t) (tt, tt);
      updated_none = λ kind at_. calm (Says (Line.Updated i 0) ∷ []) (tt, tt);
      no_move = λ at_. calm (Says (Line.NoMove i) ∷ []) (tt, tt);
      leaving = λ to at_. calm (Says (Line.Held i) ∷ []) (tt, tt);
      coming = λ from at_. calm (Says (Line.Held i) ∷ []) (tt, tt);
      forwarded = λ to moves at_. calm (forwards_on o.addresses i t.kind manager to) (forwards_calm o.addresses i t.kind manager to);
      stays_here = λ at_. calm (Says (Line.Here i) ∷ []) (tt, tt);
      frozen = λ to at_. calm (leaves_for t.receiver to) (tt, (tt, (tt, tt)));
    })

-- the other directives
net_calm : (l : Line) → IsNetLine l → IsCalm l
net_calm l h1 = search arith

outcome_keeps : (b : Boot) (pt : Point) (d : Step) (ps : List Part) → Phased pt → KnownStands pt.kernel pt.view → rule.outcome b pt d ≡ Some ps → Keeps (moved pt (Line.Head d) pt.kernel) ps
outcome_keeps b pt d ps h known = by_outcome (λ x xs. Keeps (moved pt (Line.Head x) pt.kernel) xs) b pt d ps (record {
  round = λ m xs box e. calm_keeps (turned pt m) xs (round_calm b pt m _ xs e);
  handles = λ m i is msg xs box there e. handles_keeps b pt m i msg xs (begins pt m h known) there e;
  hears = λ m i is xs box none e. hears_keeps b pt m i (pt.view.told i) xs (begins pt m h known) e;
  ticks = λ m xs net. calm_keeps (moved pt (Line.Head (Step.Tick m)) pt.kernel) xs ((by_net AllCalm tt (λ l ps net h. (net_calm l net, h)) (λ a b l ps h. (tt, h))) xs net);
  delivers = λ a c k xs net. calm_keeps (moved pt (Line.Head (Step.Deliver a c k)) pt.kernel) xs ((by_net AllCalm tt (λ l ps net h. (net_calm l net, h)) (λ a b l ps h. (tt, h))) xs net);
  asks = λ p m. calm_keeps (moved pt (Line.Head (Step.Migrate p m)) pt.kernel) (migrates pt p) (by_migrates AllCalm pt p (tt, tt) (tt, tt) (λ a here knows. (tt, tt)));
  calls = λ p m. calm_keeps (moved pt (Line.Head (Step.CallOff p m)) pt.kernel) (calls_off pt m p (pt.view.known m p)) (by_calls_off AllCalm pt m p (tt, tt) (λ from is come. (tt, sends_calm from (pt.view.held m p) (to_kernel MessageKind.CallOff from ∷ []) (tt, tt))));
})

pub noted_group : (b : Boot) (pt : Point) (d : Step) (w : Spelled) → group_of b pt d ≡ Some w → Phased pt → KnownStands pt.kernel pt.view → Away None pt.kernel pt.view → Away None w.point.kernel w.point.view
noted_group b pt d w e phased known h =
    let g = group_is b pt d w e in
    subst (At None) g.point (outcome_keeps b pt d g.parts phased known g.is g.rest g.said (line_away None pt pt.kernel (Line.Head d) tt refl h))

pub noted_start : (s : OneKernel) (v : View) → ((p : Pid) (n : MoveNote) → s.notes p ≡ Some n → ⊥) → Away None s v
noted_start s v none = record { away = λ p n noted apart m. absurd (none p n noted) }
