-- A process follows a request to move only while it moves.
use Rattle.dm_law_moves.proofs.Names.{◌≡◌, ℕ, ◌==◌, Bool, true, false, refl, ap, ◌∙◌, sym, if◌then◌else◌, Option, Some, false≢true, Pid, MsgId, MessageKind, Boot, Point, View, Known, Phase, Nowhere, Rests, Over, Moves, knows, is_here, IsIn}
use Rattle.dm_law_moves.proofs.Names.{first_point, eq_self, run_always, nat_tests, arith, FollowsWhileMoving, MoveNote, Based, List, [], ◌∷◌, ◌++◌, None, pid_eq, Stage, Outcome, manager, Label, OneKernel, PlainMessage, PlainWhat, with_sent}
use Rattle.dm_law_moves.proofs.Names.{Step, Line, Told, Here, Addresses, label_of, Part, Says, Spelled, spelled, outcome, sends_on, to_kernel, forwards_on, answers_move, leaves_for, IsNetLine, by_round, by_handles, by_hears, by_forwards}
use Rattle.dm_law_moves.proofs.Names.{by_migrates, by_outcome, by_step, bind-is, said_by, plain_kind, asked_noted, ends_move-is, begun, asks, ◌+◌, ◌≤◌, id_eq, id_eq-is, id_eq-same, in_bag, entry, reception, replay, Sound, after_step}
use Rattle.dm_law_moves.proofs.Names.{not_true, by_calls_off, ends_with, ends_kept, buries_kept, preds_of, living_phase, is_gone}
use Rattle.dm_onekernel.specs.Step as kernel
use Rattle.dm_law_rule.specs.Rule as rule
use Rattle.dm_law_moves.proofs.Open.Moves.{leads_of}
use Rattle.dm_law_moves.proofs.Ends.Open.{moving_in}
use Rattle.dm_law_moves.proofs.Leading.{All, Saying, Behind, whatever_put, parts_lead, net_says, next_of}
use Rattle.dm_law_moves.proofs.Pending.Pairs.{unnoted_in}

at_here : (m : ℕ) (k : Known) (c d : Bool) → (if m == m then c else d) ≡ true → c ≡ true
at_here m k c d e = sym (ap (λ (x : Bool). if x then c else d) (eq_self m)) ∙ e

pub noted_moves : (b : Boot) (pt : Point) (h : Based b pt) (p : Pid) (n : MoveNote) → pt.kernel.notes p ≡ Some n → moving_in (h.phased.phases.of p) ≡ 1
noted_moves b pt h p n noted =
    let (x, alive) = h.phased.sane.sound.notes.lives p n noted in
    by_phase (h.phased.phases.of p) (h.phased.phases.each p).known (living_phase pt p x (h.phased.phases.of p) h.phased alive (h.phased.phases.each p))
  where
    by_phase : (y : Phase) → ((m : ℕ) → knows y m (pt.view.known m p) ≡ true) → is_gone y ≡ false → moving_in y ≡ 1
    by_phase Nowhere known there = absurd (false≢true (sym there))
    by_phase (Rests at_) known there =
        let k = pt.view.known at_ p in
        absurd (false≢true (sym (h.noted.away p n noted tt at_) ∙ at_here at_ k (is_here k) _ (known at_)))
    by_phase (Over at_) known there = absurd (false≢true (sym there))
    by_phase (Moves k s d o) known there = refl

is_moves : (v : View) (p : Pid) (y : Phase) → IsIn v p y → moving_in y ≡ 1 → (kind : MessageKind) × (source : ℕ) × (destination : ℕ) × (id : Option MsgId) × IsIn v p (Moves kind source destination id)
is_moves v p (Moves k s d o) is e = (k, s, d, o, is)
is_moves v p _ is e = cc

pub follows_while_moving : FollowsWhileMoving
follows_while_moving b es ls pt p n valid leads noted =
    let h = (run_always b es pt valid (leads_of b es ls (first_point b) pt leads)).run in
    let phases = h.based.phased.phases in
    is_moves pt.view p (phases.of p) (phases.each p) (noted_moves b pt h.based p n noted)

-- The parts of a group, by what they say of requests to move: none is asked or answered; a process comes here, and its request is answered; a process is asked that is here already, or sets off.

-- a step by which a process follows a request to move, or has followed it
abbrev pub marks_note : Option Label → Bool
marks_note (Some (Label.Asked i)) = true
marks_note (Some (Label.Answered i r)) = true
marks_note _ = false

abbrev pub IsUnmarked : Line → Type 0
IsUnmarked l = marks_note (label_of l) ≡ false

abbrev pub AllUnmarked : List Part → Type 0
AllUnmarked = All (Saying IsUnmarked)

-- the line by which a move ends so, where the process is then
abbrev pub EndLine : Pid → Outcome → Line → Type 0
EndLine q Outcome.Done l = l ≡ Line.Migration Stage.Restarted q
EndLine q Outcome.Stayed l = l ≡ Line.Stays q
EndLine q Outcome.Ended l = ⊥

pub data Row (o : Point) (d : Step) (ps : List Part) : Type 0 where
  Plain : AllUnmarked ps → Row o d ps
  Ends : (q : Pid) → (n : MoveNote) → (l : Line) → (r : Outcome) → o.kernel.notes q ≡ Some n → EndLine q r l → ps ≡ Says l ∷ answers_move n.id r → Row o d ps
  IsHere : (id : MsgId) → (msg : PlainMessage) → o.kernel.bag id ≡ Some msg → (begun o d).view.known (begun o d).view.acting msg.to ≡ Here → ps ≡ rule.says (Label.Asked id) ∷ answers_move id Outcome.Done → Row o d ps
  Leaves : (id : MsgId) → (msg : PlainMessage) → (to : ℕ) → ((p : Pid) → asks p (Line.Head d) ≡ false) → o.kernel.bag id ≡ Some msg → (begun o d).view.known (begun o d).view.acting msg.to ≡ Here → msg.what ≡ PlainWhat.Move to → ps ≡ rule.says (Label.Asked id) ∷ leaves_for msg.to to → Row o d ps

-- rows of a turn
ends_unmarked : (o : Point) (m : ℕ) (p : Pid) → AllUnmarked (ends_with o m p)
ends_unmarked o m p = ends_kept AllUnmarked tt (λ i xs h. (refl, h)) (λ to xs h. (tt, h)) o m p

routes_unmarked : (o : Option PlainMessage) → AllUnmarked (rule.routes o)
routes_unmarked None = tt
routes_unmarked (Some m) = (tt, tt)

round_unmarked : (b : Boot) (o : Point) (m : ℕ) (q : Option Pid) (ps : List Part) → rule.goes_round b o m q ≡ Some ps → AllUnmarked ps
round_unmarked b o m q ps = by_round AllUnmarked b o m q ps (refl, tt) (λ p x is alive. record {
  runs = λ k rest stops. (
    refl,
    stops AllUnmarked (search (arith, ends_unmarked)),
  );
  takes = λ mask id first. (refl, tt);
  refuses = λ id r. (refl, tt);
})

forwards_unmarked : (a : Addresses) (id : MsgId) (k : MessageKind) (sender : Pid) (to : ℕ) → AllUnmarked (forwards_on a id k sender to)
forwards_unmarked a id k sender to = by_forwards AllUnmarked a id k sender to (refl, (tt, tt)) (refl, (tt, (tt, tt)))

handles_row : (b : Boot) (o : Point) (m : ℕ) (id : MsgId) (msg : PlainMessage) (ps : List Part) → o.kernel.bag id ≡ Some msg → rule.handles b o m id msg ≡ Some ps → Row o (Step.Turn m) ps
handles_row b o m id msg ps there = by_handles (Row o (Step.Turn m)) b o m id msg ps (record {
  created = λ fixed. Plain (refl, (tt, tt));
  no_space = λ fixed slots blocks. Plain (refl, (tt, tt));
  took = λ fixed sent. Plain (refl, routes_unmarked sent);
  queued = λ to user. Plain (refl, tt);
  served = λ to mild. Plain (refl, tt);
  answers = λ to mild i. Plain (refl, (tt, tt));
  kills = λ to kills. Plain (refl, ends_unmarked o m msg.to);
  moved = λ to what. IsHere id msg there to.known refl;
  sets_off = λ n to what apart. Leaves id msg n (λ p. refl) there to.known what refl;
  gone = λ to. Plain (refl, (tt, tt));
  dropped = λ to. Plain (refl, tt);
  leaving = λ n to. Plain (refl, tt);
  coming = λ n to. Plain (refl, tt);
  forwarded = λ n c to. Plain (forwards_unmarked o.addresses id (plain_kind msg.what) msg.sender n);
})

sends_unmarked : (to : ℕ) (ids : List MsgId) (ps : List Part) → AllUnmarked ps → AllUnmarked (sends_on to ids ++ ps)
sends_unmarked to [] ps h = h
sends_unmarked to (i ∷ is) ps h = (tt, sends_unmarked to is ps h)

hears_row : (b : Boot) (o : Point) (m : ℕ) (id : MsgId) (q : Option Told) (ps : List Part) → rule.hears b o m id q ≡ Some ps → Row o (Step.Turn m) ps
hears_row b o m id q ps = by_hears (Row o (Step.Turn m)) b o m id q ps (λ t is. record {
  stale = λ p about late. Plain (refl, tt);
  buried = λ p about kind. Plain (refl, buries_kept AllUnmarked tt (λ to xs h. (tt, h)) (preds_of o m p));
  told = λ p x about alive due. record {
    accepted = λ ask. Plain (refl, (tt, tt));
    lacks = λ slots blocks. Plain (refl, (tt, tt));
    stays = λ kind free. Plain (refl, tt);
    stays_asked = λ kind n noted. Ends p n (Line.Stays p) Outcome.Stayed noted refl refl;
    restarted_asked = λ kind n noted. Ends p n (Line.Migration Stage.Restarted p) Outcome.Done noted refl refl;
    state = Plain (refl, (tt, tt));
    next_chunk = Plain (refl, (tt, tt));
    last_chunk = Plain (refl, (tt, tt));
    server_chunk = λ server. Plain (refl, (refl, (tt, tt)));
    memory = Plain (refl, (tt, tt));
    next_block = Plain (refl, (tt, tt));
    last_block = Plain (refl, (tt, tt));
    left = λ ids to frozen. Plain (refl, sends_unmarked to ids (Says (Line.Migration Stage.Left p) ∷ to_kernel MessageKind.Restart id.from.home ∷ []) (refl, (tt, tt)));
    restarted = λ kind free. Plain (refl, tt);
  };
  updated = λ kind. Plain (refl, tt);
  updated_none = λ kind at_. Plain (refl, tt);
  no_move = λ at_. Plain (refl, tt);
  leaving = λ to at_. Plain (refl, tt);
  coming = λ from at_. Plain (refl, tt);
  forwarded = λ to moves at_. Plain (forwards_unmarked o.addresses id t.kind manager to);
  stays_here = λ at_. Plain (refl, tt);
  frozen = λ to at_. Plain (refl, (refl, (tt, tt)));
})

pub net_unmarked : (l : Line) → IsNetLine l → IsUnmarked l
net_unmarked l h = grind (arith, nat_tests)

pub outcome_row : (b : Boot) (o : Point) (d : Step) (ps : List Part) → outcome b o d ≡ Some ps → Row o d ps
outcome_row b o d ps = by_outcome (Row o) b o d ps (record {
  round = λ m xs box e. Plain (round_unmarked b o m (rule.first_runnable o.kernel (o.view.queue m) (o.view.ring m)) xs e);
  handles = λ m i is msg xs box there e. handles_row b o m i msg xs there e;
  hears = λ m i is xs box none e. hears_row b o m i (o.view.told i) xs e;
  ticks = λ m xs net. Plain (net_says IsUnmarked net_unmarked xs net);
  delivers = λ a c k xs net. Plain (net_says IsUnmarked net_unmarked xs net);
  asks = λ p m. Plain (by_migrates AllUnmarked o p (refl, tt) (refl, tt) (λ n off is. (tt, tt)));
  calls = λ p m. Plain (by_calls_off AllUnmarked o m p (refl, tt) (λ from is come. (refl, sends_unmarked from (o.view.held m p) (to_kernel MessageKind.CallOff from ∷ []) (tt, tt))));
})

-- what a process follows behind a step
sent_notes : (u : OneKernel) (o : Option PlainMessage) (p : Pid) → (with_sent u o).notes p ≡ u.notes p
sent_notes u None p = refl
sent_notes u (Some m) p = refl

pub plain_notes : (p : Pid) (ps : List Part) (pt : Point) (w : Spelled) → AllUnmarked ps → spelled pt ps ≡ Some w → w.point.kernel.notes p ≡ pt.kernel.notes p
plain_notes p ps pt w so is =
    let notes_behind : (p : Pid) (x : Option MoveNote) (pt : Point) (q : Part) → Saying IsUnmarked q → pt.kernel.notes p ≡ x → Behind (λ z. z.kernel.notes p ≡ x) pt q = λ p x pt q so h.
    let step_notes : (p : Pid) (s t : OneKernel) (l : Label) → marks_note (Some l) ≡ false → kernel.step s l ≡ Some t → t.notes p ≡ s.notes p = λ p s t l quiet. by_step (λ u. u.notes p ≡ s.notes p) s t l (search (arith, sent_notes)) in
    search (arith, whatever_put, pt.kernel, step_notes) in
    parts_lead (λ z. z.kernel.notes p ≡ pt.kernel.notes p) (λ q a b k l h. h) (Saying IsUnmarked) (notes_behind p (pt.kernel.notes p)) ps pt w so is refl

abbrev pub noted_if : Pid → Pid → Option MoveNote → Option MoveNote → Option MoveNote
noted_if q p now was = if pid_eq q p then now else was

pub asked_notes : (s t : OneKernel) (id : MsgId) (m : PlainMessage) (p : Pid) → s.bag id ≡ Some m → kernel.step s (Label.Asked id) ≡ Some t → t.notes p ≡ noted_if m.to p (Some (record { id = id; asker = m.sender })) (s.notes p)
asked_notes s t id m p there is = search (arith, bind-is, s.bag, t.notes, s.notes)

-- a request is answered, and its answer goes
pub answers_notes : (pt : Point) (id : MsgId) (r : Outcome) (q p : Pid) (w : Spelled) → pt.kernel.noted id ≡ Some q → spelled pt (answers_move id r) ≡ Some w → w.point.kernel.notes p ≡ noted_if q p None (pt.kernel.notes p)
answers_notes pt id r q p w noted e = search (arith, next_of, said_by, plain_notes, pt.kernel, bind-is, ends_move-is)

pub end_label : (q : Pid) (r : Outcome) (l : Line) → EndLine q r l → label_of l ≡ None
end_label q Outcome.Done l e = ap label_of e
end_label q Outcome.Stayed l e = ap label_of e
end_label q Outcome.Ended l e = absurd e

pub ends_notes : (pt : Point) (q p : Pid) (n : MoveNote) (l : Line) (r : Outcome) (w : Spelled) → pt.kernel.noted n.id ≡ Some q → EndLine q r l → spelled pt (Says l ∷ answers_move n.id r) ≡ Some w
    → w.point.kernel.notes p ≡ noted_if q p None (pt.kernel.notes p)
ends_notes pt q p n l r w noted end e = search (arith, next_of, n.id, said_by, end_label, pt.kernel, answers_notes)

pub here_notes : (pt : Point) (id : MsgId) (m : PlainMessage) (p : Pid) (w : Spelled) → pt.kernel.bag id ≡ Some m → pid_eq m.to p ≡ false → spelled pt (rule.says (Label.Asked id) ∷ answers_move id Outcome.Done) ≡ Some w
    → w.point.kernel.notes p ≡ pt.kernel.notes p
here_notes pt id m p w there off e = search (arith, next_of, said_by, answers_notes, m.to, asked_noted, pt.kernel, asked_notes, m.sender, pt.kernel.notes)

pub here_gone : (pt : Point) (id : MsgId) (m : PlainMessage) (p : Pid) (w : Spelled) → pt.kernel.bag id ≡ Some m → pid_eq m.to p ≡ true → spelled pt (rule.says (Label.Asked id) ∷ answers_move id Outcome.Done) ≡ Some w
    → w.point.kernel.notes p ≡ None
here_gone pt id m p w there same e = search (arith, next_of, said_by, answers_notes, m.to, asked_noted, pt.kernel)

pub leaves_notes : (pt : Point) (id : MsgId) (m : PlainMessage) (to : ℕ) (p : Pid) (w : Spelled) → pt.kernel.bag id ≡ Some m → spelled pt (rule.says (Label.Asked id) ∷ leaves_for m.to to) ≡ Some w
    → w.point.kernel.notes p ≡ noted_if m.to p (Some (record { id = id; asker = m.sender })) (pt.kernel.notes p)
leaves_notes pt id m to p w there e = search (arith, next_of, m.to, said_by, plain_notes, asked_notes, pt.kernel)

-- Requests to move, by the steps of the kernel without machines: each is asked once at most, and answered where nobody follows it any more; and what its answer says was said.

-- steps that say of this request that it is asked, or answered
abbrev pub asked_by : MsgId → Label → Bool
asked_by i (Label.Asked j) = id_eq i j
asked_by i l = false

abbrev pub answered_by : MsgId → Label → Bool
answered_by i (Label.Answered j o) = id_eq i j
answered_by i l = false

abbrev pub one_for : Bool → ℕ
one_for c = if c then 1 else 0

abbrev pub of_labels : (Label → Bool) → List Label → ℕ
of_labels f [] = 0
of_labels f (l ∷ ls) = one_for (f l) + of_labels f ls

-- any other step leaves who follows it
sent_noted : (u : OneKernel) (o : Option PlainMessage) (i : MsgId) → (with_sent u o).noted i ≡ u.noted i
sent_noted u None i = refl
sent_noted u (Some m) i = refl

step_noted : (i : MsgId) (s t : OneKernel) (l : Label) → asked_by i l ≡ false → answered_by i l ≡ false → kernel.step s l ≡ Some t → t.noted i ≡ s.noted i
step_noted i s t l one two =
    let swap : (i j : MsgId) → id_eq i j ≡ false → id_eq j i ≡ false = λ i j off. not_true (id_eq j i) (λ e. false≢true (sym off ∙ ap (id_eq i) (id_eq-is j i e) ∙ id_eq-same i)) in
    by_step (λ u. u.noted i ≡ s.noted i) s t l (search (arith, s.noted, swap, sent_noted))

-- it is asked
record Begins (s t : OneKernel) (i : MsgId) : Type 0 where
  message : PlainMessage
  there : s.bag i ≡ Some message
  gone : t.bag i ≡ None
  noted : t.noted i ≡ Some message.to

-- it is answered
record Closes (s t : OneKernel) (i : MsgId) : Type 0 where
  process : Pid
  was : s.noted i ≡ Some process
  now : t.noted i ≡ None

-- how often it was asked and answered, by what has entered and who follows it
pub record Counted (i : MsgId) (e : MsgId → ℕ) (s : OneKernel) (a b : ℕ) : Type 0 where
  pub once : a + in_bag (s.bag i) ≤ e i
  pub sum : a ≡ b + in_bag (s.noted i)

counted_step : (i : MsgId) (r e : MsgId → ℕ) (s t : OneKernel) (l : Label) (a b : ℕ) (c d : Bool) → asked_by i l ≡ c → answered_by i l ≡ d → kernel.step s l ≡ Some t → Sound r e s → Counted i e s a b
    → Counted i (λ j. e j + entry j s t) t (a + one_for c) (b + one_for d)
counted_step i r e s t (Label.Asked j) a b true d one two is h k =
    let begins_at : (s t : OneKernel) (i : MsgId) → kernel.step s (Label.Asked i) ≡ Some t → Begins s t i = λ s t i is. search (arith, bind-is, s.bag, asked_noted, id_eq-same) in
    let at_ : j ≡ i = sym (id_eq-is i j one) in
    let g = begins_at s t i (ap (λ (x : MsgId). kernel.step s (Label.Asked x)) (sym at_) ∙ is) in
    let free : in_bag (s.noted i) ≡ 0 = ap in_bag (unnoted_in r e s i g.message h g.there) in
    let was : in_bag (s.bag i) ≡ 1 = ap in_bag g.there in
    let gone : in_bag (t.bag i) ≡ 0 = ap in_bag g.gone in
    let now : in_bag (t.noted i) ≡ 1 = ap in_bag g.noted in
    let none : one_for d ≡ 0 = ap one_for (sym two) in
    let once = k.once in
    let sum = k.sum in
    record { once = omega (arith, once, was, gone); sum = omega (arith, sum, free, now, none) }
counted_step i r e s t (Label.Answered j o) a b c true one two is h k =
    let closes_at : (s t : OneKernel) (i : MsgId) (o : Outcome) → kernel.step s (Label.Answered i o) ≡ Some t → Closes s t i = λ s t i o is. search (arith, bind-is, s.noted, s.notes, ends_move-is, id_eq-same) in
    search (arith, id_eq-is, closes_at, s.noted, t.noted, k.once, k.sum, t.bag, s.bag)
counted_step i r e s t l a b false false one two is h k =
    let same : in_bag (t.noted i) ≡ in_bag (s.noted i) = ap in_bag (step_noted i s t l one two is) in
    let once = k.once in
    let sum = k.sum in
    let more : in_bag (t.bag i) ≤ in_bag (s.bag i) + (entry i s t) = grind (arith, nat_tests) in
    record { once = omega (arith, once, more); sum = omega (arith, sum, same) }
counted_step i r e s t _ a b true d one two is h k = absurd (false≢true one)
counted_step i r e s t _ a b false true one two is h k = absurd (false≢true two)

-- along a run
pub record Counts (i : MsgId) (t : OneKernel) (a b : ℕ) : Type 0 where
  pub once : a ≤ 1
  pub sum : a ≡ b + in_bag (t.noted i)

pub run_counts : (i : MsgId) (ls : List Label) (r e : MsgId → ℕ) (s t : OneKernel) (a b : ℕ) → replay s ls ≡ Some t → Sound r e s → Counted i e s a b → Counts i t (a + of_labels (asked_by i) ls) (b + of_labels (answered_by i) ls)
run_counts i [] r e s t a b is h k = search (arith, h.entered.once, k.once, k.sum, t.noted, s.noted)
run_counts i (l ∷ ls) r e s t a b is h k =
    let (u, first, rest) = bind-is (kernel.step s l) (λ (x : OneKernel). replay x ls) t is in
    let next = after_step r e s u l first h in
    let c = run_counts i ls (λ j. r j + reception j l) (λ j. e j + entry j s u) u t (a + one_for (asked_by i l)) (b + one_for (answered_by i l)) rest next.sound
    (counted_step i r e s u l a b (asked_by i l) (answered_by i l) refl refl first h k) in
    let once = c.once in
    let sum = c.sum in
    record { once = omega (arith, once); sum = omega (arith, sum) }
