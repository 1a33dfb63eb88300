-- A turn that handles a message of the bag, or serves a process: each process stays in a phase.
use Rattle.dm_law_rule.proofs.Names.{◌≡◌, ℕ, ◌+◌, Bool, true, false, List, [], ◌∷◌, refl, ap, ◌∙◌, subst, if◌then◌else◌, Option, None, Some, Pid, pid_of, MsgId, MessageKind, Label, plain_kind, PlainMessage, Boot, Why, first_number, bind, times}
use Rattle.dm_law_rule.proofs.Names.{OneKernel, answer_id, Line, View, Told, Unknown, Here, view_after, Point, label_of, kernel_after, moved, Part, Says, Routes, Spelled, spelled, forwards_on, ◌==◌, Outcome, PlainWhat, answers_move, leaves_for}
use Rattle.dm_law_rule.proofs.Names.{seen, move_target, NothingElse, option_map_or, ends_with}
use Rattle.dm_law_rule.specs.Rule as rule
use Rattle.dm_law_rule.proofs.Hushed.{is_put}
use Rattle.dm_law_rule.proofs.Pairs.Lines.{touches, pair_same}
use Rattle.dm_law_rule.proofs.States.{PairsFit, State, says_next}
use Rattle.dm_law_rule.proofs.Said.{fits_as}
use Rattle.dm_law_rule.proofs.Telling.{Sane, sane_line}
use Rattle.dm_law_rule.proofs.Phases.Calm.{calm_about, calm_same, Plain}
use Rattle.dm_law_rule.proofs.Phases.Quiet.{Tame, Mild, is_kill, AllQuiet, parts_settle, plain_in_bag, line_calm}
use Rattle.dm_law_rule.proofs.Phases.Stand.{InPhases, calm_phases}
use Rattle.dm_law_rule.proofs.Phases.Hears.{forwards_quiet}
use Rattle.dm_law_rule.proofs.Handled.{asked_state}
use Rattle.dm_law_rule.proofs.Phases.Answers.{Whole}
use Rattle.dm_law_rule.proofs.Phases.Rests.{asked_row}
use Rattle.dm_law_rule.proofs.Phases.Lives.{killed_phases, made_phases, front_spots, ends_phases}
use Rattle.dm_law_rule.proofs.Serving.{by_round, by_handles, ends_kept}
use Rattle.dm_law_rule.proofs.Turns.{created_off, ended_off}

pub record Fit (pt : Point) : Type 0 where
  pub phases : InPhases pt.view
  pub sane : Sane pt
  pub fits : PairsFit pt.view

pub quiet_parts : (parts : List Part) (pt : Point) (w : Spelled) → Fit pt → AllQuiet pt.view parts → spelled pt parts ≡ Some w → InPhases w.point.view
quiet_parts parts pt w h quiet e = calm_phases pt.view w.point.view (parts_settle parts pt.view pt w quiet (record { calm = calm_same pt.view; sane = h.sane; fits = h.fits }) e).calm h.phases

-- a line after which the phases are known, and then quiet parts
line_first : (pt : Point) (l : Line) (ps : List Part) (w : Spelled) → Fit pt → is_put l ≡ false → touches l ≡ false → ((s : OneKernel) → kernel_after pt.kernel (label_of l) ≡ Some s → InPhases (seen pt.kernel pt.view l))
    → ((s : OneKernel) → (next : Fit (moved pt l s)) → (rest : Spelled) → spelled (moved pt l s) ps ≡ Some rest → InPhases rest.point.view) → spelled pt (Says l ∷ ps) ≡ Some w → InPhases w.point.view
line_first pt l ps w h quiet calm phases go e =
    let k = says_next pt l ps w e in
    let next : Fit (moved pt l k.s) = record {
      phases = phases k.s k.is;
      sane = sane_line pt (moved pt l k.s) l quiet (ap (λ (o : Option OneKernel). bind o (λ s. Some (moved pt l s))) k.is) h.sane;
      fits = fits_as pt.view (seen pt.kernel pt.view l) (pair_same pt.view l calm) h.fits;
    } in
    subst (λ (q : Point). InPhases q.view) k.point (go k.s next k.rest k.more)

-- what follows an end
over_quiet : (v : View) (o : Point) (m : ℕ) (p : Pid) → AllQuiet v (ends_with o m p)
over_quiet v o m p = ends_kept (AllQuiet v) tt (λ i ps h. (tt, h)) (λ to ps h. (refl, h)) o m p

-- a process ends
ends_row : (pt : Point) (p : Pid) (y : Why) (o : Point) (m : ℕ) (w : Spelled) → Fit pt → pt.view.known pt.view.acting p ≡ Here → spelled pt (rule.says (Label.End p y) ∷ ends_with o m p) ≡ Some w → InPhases w.point.view
ends_row pt p y o m w h here e =
    -- an end by a call or a fault
    let end_line_phases : InPhases (view_after pt.view (Line.Label (Label.End p y))) = ends_phases pt.view (view_after pt.view (Line.Label (Label.End p y))) p h.phases here refl refl refl (λ j t e b z. ap (times j) (ended_off pt.view p z)) in
    line_first pt (Line.Label (Label.End p y)) (ends_with o m p) w h refl refl (λ s k. end_line_phases)
    (λ s next rest more. quiet_parts (ends_with o m p) (moved pt (Line.Label (Label.End p y)) s) rest next (over_quiet (view_after pt.view (Line.Label (Label.End p y))) o m p) more) e

-- the phases behind parts
abbrev Into : Point → List Part → Type 0
Into pt ps = (w : Spelled) → spelled pt ps ≡ Some w → InPhases w.point.view

-- a message of the bag, at the front of the inbox
pub record Front (pt : Point) (i : MsgId) (msg : PlainMessage) : Type 0 where
  pub there : pt.kernel.bag i ≡ Some msg
  pub told : Told
  pub is : pt.view.told i ≡ Some told
  pub state : State None pt
  pub others : List MsgId
  pub front : pt.view.inbox pt.view.acting ≡ i ∷ others

front_tame : (pt : Point) (i : MsgId) (msg : PlainMessage) → Fit pt → Front pt i msg → Tame pt.view i
front_tame pt i msg h f = record { what = f.told; told = f.is; plain = plain_in_bag pt i msg h.sane f.there f.told f.is }

front_mild : (pt : Point) (i : MsgId) (msg : PlainMessage) → Fit pt → Front pt i msg → is_kill (plain_kind msg.what) ≡ false → Mild pt.view i
unfolding front_tame
front_mild pt i msg h f spares = record { tame = front_tame pt i msg h f; spares = ap is_kill (h.sane.tells.kind i msg f.told f.there f.is) ∙ spares }

-- a kill ends its receiver
killed_row : (pt : Point) (i : MsgId) (msg : PlainMessage) (o : Point) (m : ℕ) (w : Spelled) (h : Fit pt) → Front pt i msg → plain_kind msg.what ≡ MessageKind.Kill → pt.view.known pt.view.acting msg.to ≡ Here → spelled pt (rule.says (Label.Served i) ∷ ends_with o m msg.to) ≡ Some w → InPhases w.point.view
killed_row pt i msg o m w h f k here e =
    let l = Line.Label (Label.Served i) in
    let same : f.told.receiver ≡ msg.to = h.sane.tells.receiver i msg f.told f.there f.is in
    line_first pt l (ends_with o m msg.to) w h refl refl
    (λ s is. killed_phases pt.view i f.told h.phases (plain_in_bag pt i msg h.sane f.there) f.is (h.sane.tells.kind i msg f.told f.there f.is ∙ k) (ap (pt.view.known pt.view.acting) same ∙ here))
    (λ s next rest more. quiet_parts (ends_with o m msg.to) (moved pt l s) rest next (over_quiet (view_after pt.view l) o m msg.to) more) e

-- a kernel makes a process, of which nothing is known yet, or has no room
creates_row : (pt : Point) (i : MsgId) (msg : PlainMessage) (child : Pid) (room : Bool) (slots blocks : ℕ) (w : Spelled) (h : Fit pt) → Front pt i msg → ((m : ℕ) → pt.view.known m child ≡ Unknown)
    → spelled pt ((if room then rule.says (Label.Created i child) else rule.says (Label.NoSpace i slots blocks)) ∷ Routes (answer_id i) ∷ []) ≡ Some w → InPhases w.point.view
creates_row pt i msg child true slots blocks w h f unknown e =
    let l = Line.Label (Label.Created i child) in
    let created_phases : (v : View) (i : MsgId) (p : Pid) → InPhases v → Plain v i → ((m : ℕ) → v.known m p ≡ Unknown) → InPhases (view_after v (Line.Label (Label.Created i p))) =
    λ v i p h plain unknown. made_phases v (view_after v (Line.Label (Label.Created i p))) p h unknown refl refl refl (λ j t e b z. ap (times j) (created_off v i p z) ∙ front_spots v i j t plain e b z) in
    line_first pt l (Routes (answer_id i) ∷ []) w h refl refl (λ s k. created_phases pt.view i child h.phases (plain_in_bag pt i msg h.sane f.there) unknown)
    (λ s next rest more. quiet_parts (Routes (answer_id i) ∷ []) (moved pt l s) rest next (tt, tt) more) e
creates_row pt i msg child false slots blocks w h f unknown e = quiet_parts (rule.says (Label.NoSpace i slots blocks) ∷ Routes (answer_id i) ∷ []) pt w h (tt, (tt, tt)) e

-- a process is asked to move to another machine, and leaves
asks_row : (pt : Point) (i : MsgId) (msg : PlainMessage) (to : ℕ) (w : Spelled) (h : Fit pt) → Front pt i msg → msg.what ≡ PlainWhat.Move to → pt.view.known pt.view.acting msg.to ≡ Here → (pt.view.acting == to) ≡ false
    → spelled pt (rule.says (Label.Asked i) ∷ leaves_for msg.to to) ≡ Some w → InPhases w.point.view
asks_row pt i msg to w h f what here apart e =
    let l = Line.Label (Label.Asked i) in
    let k = says_next pt l (leaves_for msg.to to) w e in
    let next = moved pt l k.s in
    let calm = calm_about pt.view (view_after pt.view l) next.view.topic (line_calm pt k.s l h.sane tt k.is) in
    let whole : Whole next = record { state = asked_state pt i f.others k.s f.state f.front k.is; fits = fits_as pt.view next.view refl h.fits; phases = calm_phases pt.view next.view calm h.phases } in
    subst (λ (q : Point). InPhases q.view) k.point (asked_row next msg.to to k.rest whole (ap (λ (o : Option PlainMessage). option_map_or (λ m. move_target m.what) o NothingElse) f.there ∙ ap move_target what) here apart k.more).phases

-- a message of the bag is handled, where nothing is known of the process that would be made next
pub phases_handles : (b : Boot) (o pt : Point) (m : ℕ) (i : MsgId) (msg : PlainMessage) (parts : List Part) (w : Spelled) (h : Fit pt) → Front pt i msg → ((n : ℕ) → pt.view.known n (pid_of m (first_number + o.kernel.made m)) ≡ Unknown)
    → pt.view.known pt.view.acting msg.to ≡ o.view.known m msg.to → pt.view.acting ≡ m
    → rule.handles b o m i msg ≡ Some parts → spelled pt parts ≡ Some w → InPhases w.point.view
phases_handles b o pt m i msg parts w h f unknown known acting is = by_handles (Into pt) b o m i msg parts (record {
  created = λ fixed w. creates_row pt i msg (pid_of m (first_number + o.kernel.made m)) true 0 0 w h f unknown;
  no_space = λ fixed slots blocks w. creates_row pt i msg (pid_of m (first_number + o.kernel.made m)) false slots blocks w h f unknown;
  took = λ fixed sent w. quiet_parts (rule.says (Label.Took i) ∷ rule.routes sent) pt w h (
    tt,
    elim sent as (λ o. AllQuiet pt.view (rule.routes o))
        [ None ↦ tt | Some m ↦ (tt, tt) ],
  );
  queued = λ to user w. quiet_parts (Says (Line.Queued i) ∷ []) pt w h (front_tame pt i msg h f, tt);
  served = λ to mild w. quiet_parts (rule.says (Label.Served i) ∷ []) pt w h (front_mild pt i msg h f mild, tt);
  answers = λ to mild j w. quiet_parts (rule.says (Label.Served i) ∷ Routes j ∷ []) pt w h (front_mild pt i msg h f mild, (tt, tt));
  kills = λ to kills w. killed_row pt i msg o m w h f ((elim (plain_kind msg.what) as (λ k. is_kill k ≡ true → k ≡ MessageKind.Kill)
      [ MessageKind.Kill ↦ λ e. refl | _ ↦ λ e. cc ]) kills) (known ∙ to.known);
  moved = λ to what w. quiet_parts (rule.says (Label.Asked i) ∷ answers_move i Outcome.Done) pt w h (tt, (tt, (tt, tt)));
  sets_off = λ machine to what apart w. asks_row pt i msg machine w h f what (known ∙ to.known) (ap (λ (a : ℕ). a == machine) acting ∙ apart);
  gone = λ to w. quiet_parts (rule.says (Label.Gone i) ∷ Routes (answer_id i) ∷ []) pt w h (tt, (tt, tt));
  dropped = λ to w. quiet_parts (rule.says (Label.Dropped i) ∷ []) pt w h (tt, tt);
  leaving = λ n to w. quiet_parts (Says (Line.Held i) ∷ []) pt w h (front_tame pt i msg h f, tt);
  coming = λ n to w. quiet_parts (Says (Line.Held i) ∷ []) pt w h (front_tame pt i msg h f, tt);
  forwarded = λ n c to w. quiet_parts (forwards_on o.addresses i (plain_kind msg.what) msg.sender n) pt w h (forwards_quiet pt.view o.addresses i (plain_kind msg.what) msg.sender n (front_tame pt i msg h f));
}) is w

-- a process of the ring is served, where it is here
pub phases_round : (b : Boot) (o pt : Point) (m : ℕ) (p : Option Pid) (parts : List Part) (w : Spelled) (h : Fit pt) → ((q : Pid) → p ≡ Some q → pt.view.known pt.view.acting q ≡ Here) → rule.goes_round b o m p ≡ Some parts → spelled pt parts ≡ Some w → InPhases w.point.view
phases_round b o pt m p parts w h here is = by_round (Into pt) b o m p parts (λ w. quiet_parts (Says (Line.Idle m) ∷ []) pt w h (tt, tt)) (λ q x at alive. record {
  runs = λ k rest stops w. (
      let l = Line.Label (Label.Ran q k) in
      line_first pt l rest w h refl refl (λ s e. calm_phases pt.view (view_after pt.view l) (line_calm pt s l h.sane tt e) h.phases)
      (λ s next v more. stops (Into (moved pt l s)) (record {
        over = λ w. quiet_parts [] (moved pt l s) w next tt;
        replies = λ n r w. quiet_parts (rule.says (Label.Call q n r) ∷ []) (moved pt l s) w next (tt, tt);
        sends = λ id w. quiet_parts (rule.says (Label.Send q id) ∷ Routes id ∷ []) (moved pt l s) w next (tt, (tt, tt));
        waits = λ w. quiet_parts (rule.says (Label.Wait q) ∷ []) (moved pt l s) w next (tt, tt);
        outputs = λ word w. quiet_parts (rule.says (Label.Out q word) ∷ []) (moved pt l s) w next (tt, tt);
        ends = λ y w. ends_row (moved pt l s) q y o m w next (here q at);
      }) v more)
      );
  takes = λ mask id first w. quiet_parts (rule.says (Label.Receive q id) ∷ []) pt w h (tt, tt);
  refuses = λ id r w. quiet_parts (rule.says (Label.Refuse q id r) ∷ []) pt w h (tt, tt);
}) is w
