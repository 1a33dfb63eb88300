-- Each group keeps the marks of each process in order, and so they are wherever the rule leads.
use Rattle.dm_law_moves.proofs.Names.{◌≡◌, ℕ, ◌==◌, Bool, true, false, List, [], ◌∷◌, refl, ap, ◌∙◌, sym, subst, if◌then◌else◌, Option, None, Some, Pid, MsgId, PlainMessage, Boot, manager, Step, Line, View}
use Rattle.dm_law_moves.proofs.Names.{Told, About, Of, Known, first_view, target_of, is_between, is_due, Point, first_point, Part, Spelled, spelled, told_step, process_told, migrates, group_of, bind-is, IsNet, not_true}
use Rattle.dm_law_moves.proofs.Names.{front_way, Phased, phased_start, phased_group, Calm, calm_same, calm_in, told_some, head_calm, net_parts, migrates_quiet, Tame, plain_in_bag, parts_settle, InPhases, State, PairsFit, Sane, LeadsBy}
use Rattle.dm_law_moves.proofs.Names.{begun, begun_sane, Mark, marks, in_order, StepsInOrder, plain_by, by_migrates, by_outcome, nat_tests, arith, NothingElse, Label, Says, said_by, moved, calm_about, view_after, line_calm, part_sane}
use Rattle.dm_law_moves.proofs.Names.{move_target, Target, Here, sort_of, MessageKind, option_map_or, IsValid, inl, inr, cases_Bool, false≢true, gives_piece, to_kernel, label_of, is_put, touches, Spot, ids_at, handled}
use Rattle.dm_law_moves.proofs.Names.{proto_off, proto_known, ◌&&◌, not, pulls_piece, brings_piece, is_stale, is_waited_from, Due, Remains, due, due_or_left, stale_left, calm_phases, called_parts, by_calls_off, rooted, bind, told_here}
use Rattle.dm_law_moves.proofs.Names.{by_known, told_ended, buried, tells_end, bury_is, buries_kept, preds_of}
use Rattle.dm_law_rule.specs.Rule as rule
use Rattle.dm_law_rule.proofs.Groups as groups
use Rattle.dm_law_moves.proofs.Stages.Spares.{mark_in, spares_same, spares_calm, Marked, none_marked, order-append, open-append, open_after, marks-append, marks_of, group_says}
use Rattle.dm_law_moves.proofs.Stages.Rows.{about_others, plain_others, row_marked, AllMild, mild_marks, net_marks, TameAt, parts_spare}
use Rattle.dm_law_moves.proofs.Stages.Steps.{freezes_row, setting_row, told_marked, round_mild, handles_mild, Hears, Calms, Freezes, Handled, Spared, SetsOff, freezes, forwards_mild}
use Rattle.dm_law_moves.proofs.Names.{Size, size_of}
use Rattle.dm_law_moves.proofs.Leading.{next_of, line_fits}
use Rattle.dm_law_moves.proofs.Stages.Rows.{Handling, left_row, line_and_parts}
use Rattle.dm_law_moves.proofs.Stages.Steps.{heard_due, called_row}
use Rattle.dm_law_moves.proofs.Stages.Waits.{group_waits}

-- where the parts of a turn begin
pub record Turning (o pt : Point) (m : ℕ) : Type 0 where
  pub sane : Sane pt
  pub fits : PairsFit pt.view
  pub state : State None pt
  pub phases : InPhases pt.view
  pub same : (q : Pid) → pt.view.known pt.view.acting q ≡ o.view.known m q
  pub topic : pt.view.topic ≡ NothingElse

abbrev MarkedBy : Point → Spelled → List Part → Type 0
MarkedBy pt w ps = (p : Pid) → Marked pt.view w.point.view p (marks_of p ps)

-- parts that leave all processes alone
mild_marked : (pt : Point) (front : Option MsgId) (ps : List Part) (w : Spelled) → Sane pt → PairsFit pt.view → TameAt pt.view front → ((p : Pid) → AllMild p front ps) → spelled pt ps ≡ Some w → MarkedBy pt w ps
mild_marked pt front ps w sane fits tame mild e p =
    none_marked pt.view w.point.view p (marks_of p ps) (mild_marks p front ps (mild p)) (parts_spare p front ps pt.view pt w (mild p) (record { spares = spares_same pt.view p; sane = sane; fits = fits; tame = tame }) e).spares

tame_front : (v : View) (i : MsgId) → Tame v i → TameAt v (Some i)
tame_front v i tame j e = let f : i ≡ j = cc in subst (Tame v) f tame

-- a message that is left over
remains_marked : (o pt : Point) (m : ℕ) (i : MsgId) (is : List MsgId) (t : Told) (l : Line) (ps : List Part) (w : Spelled) → (h : Turning o pt m) → pt.view.inbox pt.view.acting ≡ i ∷ is → pt.view.told i ≡ Some t → Remains pt i t h.phases → label_of l ≡ None → is_put l ≡ false → touches l ≡ false
    → ((z : Spot) → ids_at (view_after pt.view l) z ≡ ids_at (handled pt.view i) z) → ((n : ℕ) (p : Pid) → (view_after pt.view l).known n p ≡ pt.view.known n p) → ((p : Pid) → marks_of p (Says l ∷ ps) ≡ []) → ((p : Pid) → AllMild p None ps) → spelled pt (Says l ∷ ps) ≡ Some w → MarkedBy pt w (Says l ∷ ps)
remains_marked o pt m i is t l ps w h front told r none quiet calm off known unmarked mild n =
    row_marked pt.view w.point.view r.p (λ p. marks_of p (Says l ∷ ps))
    (left_row pt i is t r.p (h.phases.of r.p) l ps w (record { sane = h.sane; fits = h.fits; front = front; others = about_others pt.view i t r.p told r.about }) (h.phases.each r.p) told r.left none quiet calm off known unmarked mild n)

-- what asks for a piece, and is left over, is answered all the same
pull_marked : (o pt : Point) (m : ℕ) (i : MsgId) (is : List MsgId) (t : Told) (q : Pid) (room : Bool × ℕ × ℕ) (x : Size) (k : MessageKind) (ps : List Part) (w : Spelled) → (h : Turning o pt m) → pt.view.inbox pt.view.acting ≡ i ∷ is → pt.view.told i ≡ Some t → Remains pt i t h.phases
    → pulls_piece (sort_of k) ≡ true → told_step o m i q room x (sort_of k) ≡ Some ps → spelled pt ps ≡ Some w → MarkedBy pt w ps
pull_marked o pt m i is t q room x k ps w h front told r pulls e n = by_pull k pulls e
  where
    gives : (c : MessageKind) → gives_piece i c ≡ ps → MarkedBy pt w ps
    gives c f = subst (MarkedBy pt w) f
        (remains_marked o pt m i is t (Line.Proto i) (to_kernel c i.from.home ∷ []) w h front told r refl refl refl (λ z. proto_off (handled pt.view i) (pt.view.told i) z) (λ n p. proto_known (handled pt.view i) (pt.view.told i) n p) (λ p. refl) (λ p. (tt, tt)) (ap (spelled pt) f ∙ n))

    by_pull : (k : MessageKind) → pulls_piece (sort_of k) ≡ true → told_step o m i q room x (sort_of k) ≡ Some ps → MarkedBy pt w ps
    by_pull MessageKind.PullState pulls e = gives MessageKind.State (let f : gives_piece i MessageKind.State ≡ ps = cc in f)
    by_pull MessageKind.PullBlock pulls e = gives MessageKind.Memory (let f : gives_piece i MessageKind.Memory ≡ ps = cc in f)
    by_pull _ pulls e = absurd (false≢true pulls)

-- and what isn't stale
fresh_marked : (b : Boot) (o pt : Point) (m : ℕ) (i : MsgId) (is : List MsgId) (t : Told) (q : Pid) (x : Size) (ps : List Part) (w : Spelled) → Turning o pt m → pt.view.inbox pt.view.acting ≡ i ∷ is → pt.view.told i ≡ Some t → t.about ≡ Of q → is_stale pt pt.view.acting i t.kind q ≡ false
    → told_step o m i q (rule.fits (rule.free_room b o m) x.blocks) x (sort_of t.kind) ≡ Some ps → spelled pt ps ≡ Some w → MarkedBy pt w ps
fresh_marked b o pt m i is t q x ps w h front told about fresh e n =
    let room = rule.fits (rule.free_room b o m) x.blocks in
    let handling : Handling pt i is q = record { sane = h.sane; fits = h.fits; front = front; others = about_others pt.view i t q told about } in
    let due_marked : Due pt i t h.phases → MarkedBy pt w ps = λ u. told_marked o pt m i is t q room x t.kind ps w (heard_due pt i is t q handling h.phases told about u) refl e n in
    let told_plain : (k : MessageKind) → is_between k ≡ false → told_step o m i q room x (sort_of k) ≡ Some ps → ⊥ = λ k plain e. grind (arith, nat_tests) in
    elim (cases_Bool (is_between t.kind)) [
      | inl between ↦ elim (cases_Bool (pulls_piece (sort_of t.kind))) [
        | inl pulls ↦ elim (due_or_left pt i is t h.phases front told between) [
          | inl u ↦ due_marked u
          | inr r ↦ pull_marked o pt m i is t q room x t.kind ps w h front told r pulls e n
        ]
        | inr none ↦ due_marked (due pt i is t h.phases q front told between about none fresh)
      ]
      | inr plain ↦ absurd (told_plain t.kind plain e)
    ]

piece_marked : (b : Boot) (o pt : Point) (m : ℕ) (i : MsgId) (is : List MsgId) (t : Told) (q : Pid) (stale : Bool) (ps : List Part) (w : Spelled) → Turning o pt m → pt.view.inbox pt.view.acting ≡ i ∷ is → pt.view.told i ≡ Some t → t.about ≡ Of q → is_stale pt pt.view.acting i t.kind q ≡ stale
    → (if stale then Some (Says (Line.Stale i) ∷ []) else bind (size_of o.kernel q) (λ x. told_step o m i q (rule.fits (rule.free_room b o m) x.blocks) x (sort_of t.kind))) ≡ Some ps → spelled pt ps ≡ Some w → MarkedBy pt w ps
piece_marked b o pt m i is t q true ps w h front told about stale e n =
    let f : Says (Line.Stale i) ∷ [] ≡ ps = cc in
    let r = stale_left pt i is t h.phases q front told about stale in
    subst (MarkedBy pt w) f (remains_marked o pt m i is t (Line.Stale i) [] w h front told r refl refl refl (λ z. refl) (λ n p. refl) (λ p. refl) (λ p. tt) (ap (spelled pt) f ∙ n))
piece_marked b o pt m i is t q false ps w h front told about stale e n =
    let (x, there, last) = bind-is (size_of o.kernel q) (λ x. told_step o m i q (rule.fits (rule.free_room b o m) x.blocks) x (sort_of t.kind)) ps e in
    fresh_marked b o pt m i is t q x ps w h front told about stale last n

-- that a process has ended, or something of its migration
over_marked : (b : Boot) (o pt : Point) (m : ℕ) (i : MsgId) (is : List MsgId) (t : Told) (q : Pid) (over : Bool) (ps : List Part) (w : Spelled) → Turning o pt m → pt.view.inbox pt.view.acting ≡ i ∷ is → pt.view.told i ≡ Some t → t.about ≡ Of q → is_stale pt pt.view.acting i t.kind q ≡ is_stale o m i t.kind q → tells_end (sort_of t.kind) ≡ over
    → (if over then Some (buried o m i q) else if is_stale o m i t.kind q then Some (Says (Line.Stale i) ∷ []) else bind (size_of o.kernel q) (λ x. told_step o m i q (rule.fits (rule.free_room b o m) x.blocks) x (sort_of t.kind))) ≡ Some ps → spelled pt ps ≡ Some w → MarkedBy pt w ps
over_marked b o pt m i is t q true ps w h front told about same over e n =
    let f : buried o m i q ≡ ps = cc in
    subst (MarkedBy pt w) f (mild_marked pt (Some i) (buried o m i q) w h.sane h.fits (tame_front pt.view i (record { what = t; told = told; plain = ap is_between (bury_is t.kind over) }))
    (λ me. (refl, buries_kept (AllMild me (Some i)) tt (λ to xs k. (tt, k)) (preds_of o m q))) (ap (spelled pt) f ∙ n))
over_marked b o pt m i is t q false ps w h front told about same over e n = piece_marked b o pt m i is t q (is_stale o m i t.kind q) ps w h front told about same e n

kernel_marked : (b : Boot) (o pt : Point) (m : ℕ) (i : MsgId) (is : List MsgId) (t : Told) (a : About) (ps : List Part) (w : Spelled) → Turning o pt m → pt.view.inbox pt.view.acting ≡ i ∷ is → pt.view.told i ≡ Some t → t.about ≡ a → rule.kernel_hears b o m i t.kind a ≡ Some ps → spelled pt ps ≡ Some w → MarkedBy pt w ps
kernel_marked b o pt m i is t (Of q) ps w h front told about e n =
    let same : is_stale pt pt.view.acting i t.kind q ≡ is_stale o m i t.kind q = ap (λ (k : Known). brings_piece (sort_of t.kind) && not (is_waited_from i.from.home k)) (h.same q) in
    over_marked b o pt m i is t q (tells_end (sort_of t.kind)) ps w h front told about same refl e n
kernel_marked b o pt m i is t _ ps w h front told about e n = cc

process_marked : (o pt : Point) (m : ℕ) (i : MsgId) (is : List MsgId) (t : Told) (k : Known) (ps : List Part) (w : Spelled) → Turning o pt m → pt.view.inbox pt.view.acting ≡ i ∷ is → pt.view.told i ≡ Some t → is_between t.kind ≡ false → o.view.known m t.receiver ≡ k → Hears k i t ps → spelled pt ps ≡ Some w → MarkedBy pt w ps
process_marked o pt m i is t k ps w h front told plain known (Calms mild) n =
    mild_marked pt (Some i) ps w h.sane h.fits (tame_front pt.view i (record { what = t; told = told; plain = plain })) mild n
process_marked o pt m i is t k ps w h front told plain known (Freezes here are) n =
    let q = t.receiver in
    let to = target_of (Some t) in
    let here_ = h.same q ∙ known ∙ here in
    subst (MarkedBy pt w) (sym are)
    (row_marked pt.view w.point.view q (λ p. marks_of p (freezes q to))
    (freezes_row pt i is q to w (record { sane = h.sane; fits = h.fits; front = front; others = plain_others pt.view i t q told plain }) h.topic here_ (ap (spelled pt) (sym are) ∙ n)))

process_hears : (o : Point) (m : ℕ) (id : MsgId) (t : Told) (k : Known) (ps : List Part) → process_told o m id t k ≡ Some ps → Hears k id t ps
process_hears o m id t Here ps e = let own : (k : MessageKind) → told_here o m id t (sort_of k) ≡ Some ps → Hears Here id t ps = λ k f. grind (arith, nat_tests) in own t.kind e
process_hears o m id t k ps e = let away : (l : Known) → by_known o id t.kind manager None (told_ended id (sort_of t.kind)) l ≡ Some ps → Hears l id t ps = λ l f. grind (arith, nat_tests, forwards_mild) in away k e

hears_by : (b : Boot) (o pt : Point) (m : ℕ) (i : MsgId) (is : List MsgId) (t : Told) (c : Bool) (ps : List Part) (w : Spelled) → Turning o pt m → (t.receiver.num == 0) ≡ c → pt.view.inbox pt.view.acting ≡ i ∷ is → pt.view.told i ≡ Some t
    → (if c then rule.kernel_hears b o m i t.kind t.about else process_told o m i t (o.view.known m t.receiver)) ≡ Some ps → spelled pt ps ≡ Some w → MarkedBy pt w ps
hears_by b o pt m i is t true ps w h c front told e n = kernel_marked b o pt m i is t t.about ps w h front told refl e n
hears_by b o pt m i is t false ps w h c front told e n = search (process_marked, plain_by, process_hears)

hears_marked : (b : Boot) (o pt : Point) (m : ℕ) (i : MsgId) (is : List MsgId) (q : Option Told) (ps : List Part) (w : Spelled) → Turning o pt m → pt.view.inbox pt.view.acting ≡ i ∷ is → pt.view.told i ≡ q → rule.hears b o m i q ≡ Some ps → spelled pt ps ≡ Some w → MarkedBy pt w ps
hears_marked b o pt m i is None ps w h front told e n = cc
hears_marked b o pt m i is (Some t) ps w h front told e n = hears_by b o pt m i is t (t.receiver.num == 0) ps w h refl front told e n

-- a turn
front_tame : (pt : Point) (i : MsgId) (is : List MsgId) (msg : PlainMessage) → Sane pt → State None pt → pt.view.inbox pt.view.acting ≡ i ∷ is → pt.kernel.bag i ≡ Some msg → Tame pt.view i
front_tame pt i is msg sane state front there =
    let (q, way) = front_way pt i is state front in
    let (t, told) = told_some (pt.view.told i) q (state.stands.told i q way) in
    record { what = t; told = told; plain = plain_in_bag pt i msg sane there t told }

handled_marked : (o pt : Point) (m : ℕ) (i : MsgId) (is : List MsgId) (msg : PlainMessage) (ps : List Part) (w : Spelled) → Turning o pt m → pt.view.inbox pt.view.acting ≡ i ∷ is → pt.kernel.bag i ≡ Some msg → Handled o m i msg ps
    → spelled pt ps ≡ Some w → MarkedBy pt w ps
handled_marked o pt m i is msg ps w h box there (Spared mild) e p = mild_marked pt (Some i) ps w h.sane h.fits (tame_front pt.view i (front_tame pt i is msg h.sane h.state box there)) mild e p
handled_marked o pt m i is msg ps w h box there (SetsOff to here what are) e p =
    let q = msg.to in
    let l = Line.Label (Label.Asked i) in
    let n = next_of pt (Says l) (freezes q to) w (ap (spelled pt) (sym are) ∙ e) in
    let k = said_by pt n.next l n.steps in
    let calm : Calm pt.view n.next.view = subst (λ (x : Point). Calm pt.view x.view) k.is (calm_about pt.view (view_after pt.view l) (moved pt l k.kernel).view.topic (line_calm pt k.kernel l h.sane tt k.step)) in
    let sane = part_sane pt n.next (Says l) n.steps.lines refl n.steps.are n.steps.leads h.sane in
    let fits : PairsFit n.next.view = subst (λ (x : Point). PairsFit x.view) k.is (line_fits pt k.kernel l refl h.fits) in
    let topic : n.next.view.topic ≡ Target to = sym (ap (λ (x : Point). x.view.topic) k.is) ∙ ap (λ (o : Option PlainMessage). option_map_or (λ m. move_target m.what) o NothingElse) there ∙ ap move_target what in
    let known : n.next.view.known n.next.view.acting q ≡ Here = sym (ap (λ (x : Point). x.view.known x.view.acting q) k.is) ∙ h.same q ∙ here in
    let row = row_marked n.next.view n.rest.point.view q (λ r. marks_of r (freezes q to)) (setting_row n.next q to n.rest sane fits topic known n.more) p in
    subst (λ (xs : List Part). Marked pt.view w.point.view p (marks_of p xs)) (sym are) (subst (λ (x : Point). Marked pt.view x.view p (marks_of p (freezes q to))) n.point (λ a b h k da db waits. row a b (calm_in pt.view n.next.view p a calm h) k da db (λ none f s is. waits none f s (sym (calm.known f p) ∙ is))))

-- behind the head of a group
-- the directive to migrate
outcome_marked : (b : Boot) (pt : Point) (d : Step) (ps : List Part) (w : Spelled) → Phased pt → rule.outcome b pt d ≡ Some ps → spelled (begun pt d) ps ≡ Some w → MarkedBy (begun pt d) w ps
outcome_marked b pt d ps w h is =
    let turning : (o : Point) (m : ℕ) → Phased o → Turning o (begun o (Step.Turn m)) m = λ o m h. record {
      sane = begun_sane o (Step.Turn m) h.sane;
      fits = (let f = groups.fits o.view h.pairs in record { within = f.within; home = f.home });
      state = groups.begun o (Step.Turn m) h.state (groups.turn_off o.view m) (λ i. refl);
      phases = calm_phases o.view (begun o (Step.Turn m)).view (head_calm o.view (Step.Turn m)) h.phases;
      same = λ q. refl;
      topic = refl;
    } in
    let net_marked : (pt : Point) (ps : List Part) (w : Spelled) → IsNet ps → spelled pt ps ≡ Some w → MarkedBy pt w ps =
    λ pt ps w net n p. none_marked pt.view w.point.view p (marks_of p ps) (net_marks p ps net) (spares_calm pt.view w.point.view p (net_parts ps pt w net n)) in
    by_outcome (λ x xs. (u : Spelled) → spelled (begun pt x) xs ≡ Some u → MarkedBy (begun pt x) u xs) b pt d ps (record {
      round = λ m xs box e u. (
          let t = turning pt m h in
          mild_marked (begun pt (Step.Turn m)) None xs u t.sane t.fits (λ i k. cc) (λ p. round_mild p None b pt m (rule.first_runnable pt.kernel (pt.view.queue m) (pt.view.ring m)) xs e)
          );
      handles = λ m i is msg xs box there e u. (
          let start = begun pt (Step.Turn m) in
          let t = turning pt m h in
          handled_marked pt start m i is msg xs u t box there (handles_mild b pt m i msg xs e)
          );
      hears = λ m i is xs box none e u. hears_marked b pt (begun pt (Step.Turn m)) m i is (pt.view.told i) xs u (turning pt m h) box refl e;
      ticks = λ m xs net u. net_marked (begun pt (Step.Tick m)) xs u net;
      delivers = λ a c k xs net u. net_marked (begun pt (Step.Deliver a c k)) xs u net;
      asks = λ q m u n p. (
          let start = begun pt (Step.Migrate q m) in
          let fits = groups.fits pt.view h.pairs in
          let settled = parts_settle (migrates pt q) start.view start u (migrates_quiet start.view pt q) (record { calm = calm_same start.view; sane = begun_sane pt (Step.Migrate q m) h.sane; fits = record { within = fits.within; home = fits.home } }) n in
          none_marked start.view u.point.view p (marks_of p (migrates pt q)) (by_migrates (λ (ps : List Part). marks_of p ps ≡ []) pt q refl refl (λ n off is. refl)) (spares_calm start.view u.point.view p settled.calm)
          );
      calls = λ q m u n p. (
          let start = begun pt (Step.CallOff q m) in
          let sane = begun_sane pt (Step.CallOff q m) h.sane in
          let fits : PairsFit start.view = (let f = groups.fits pt.view h.pairs in record { within = f.within; home = f.home }) in
          let phases : InPhases start.view = calm_phases pt.view start.view (head_calm pt.view (Step.CallOff q m)) h.phases in
          by_calls_off (λ ps. spelled start ps ≡ Some u → Marked start.view u.point.view p (marks_of p ps)) pt m q
          (λ said. none_marked start.view u.point.view p [] refl (line_and_parts start p (Line.NoCall q) [] u refl refl refl sane fits (spares_same start.view p) tt said))
          (λ from is come said. row_marked start.view u.point.view q (λ r. marks_of r (called_parts q (pt.view.held m q) from))
          (called_row start q (pt.view.held m q) from u sane fits phases is come said) p) n
          );
    }) is w

-- a group
pub group_marked : (b : Boot) (pt : Point) (d : Step) (w : Spelled) → group_of b pt d ≡ Some w → Phased pt → (p : Pid) → Marked pt.view w.point.view p (marks p w.lines)
group_marked b pt d w e h p =
    let g = group_says b pt d w e in
    -- a message of the bag
    let head_marked : (u v w : View) (p : Pid) (ms : List Mark) → Calm u v → Marked v w p ms → Marked u w p ms = λ u v w p ms c m a b h k da db waits. m a b (calm_in u v p a c h) k da db (λ none f s is. waits none f s (sym (c.known f p) ∙ is)) in
    subst (Marked pt.view w.point.view p) (sym (g.marked p))
    (subst (λ (x : Point). Marked pt.view x.view p (marks_of p g.parts)) g.point
    (head_marked pt.view (begun pt d).view g.rest.point.view p (marks_of p g.parts) (head_calm pt.view d) (outcome_marked b pt d g.parts g.rest h g.is g.said p)))

-- groups
pub not_due : (v : View) (h : InPhases v) (p : Pid) → is_due (h.of p) ≡ false
not_due v h p = not_true (is_due (h.of p)) (λ e. let f : None ≡ Some p = h.put p e in cc)

-- the marks of a run are in order, and the last that is open is the phase's
pub record RunMarked (end : Point) (p : Pid) (o : Option Mark) (ls : List Line) : Type 0 where
  pub phased : Phased end
  pub order : in_order o (marks p ls) ≡ true
  pub last : open_after o (marks p ls) ≡ mark_in (phased.phases.of p)

run_marked : (b : Boot) (es : List Step) (ls : List Line) (pt end : Point) (p : Pid) → LeadsBy b pt es ls end → (h : Phased pt) → RunMarked end p (mark_in (h.phases.of p)) ls
run_marked b [] ls pt end p (none, at) h =
    let o = mark_in (h.phases.of p) in
    subst (λ (x : Point). RunMarked x p o ls) at (record { phased = h; order = ap (λ (xs : List Line). in_order o (marks p xs)) none; last = ap (λ (xs : List Line). open_after o (marks p xs)) none })
run_marked b (d ∷ ds) ls pt end p (w, rest, fit, is, split, more) h =
    let k = phased_group b pt d w fit is h in
    let o = mark_in (h.phases.of p) in
    let g = group_marked b pt d w is h p (h.phases.of p) (k.phases.of p) (h.phases.each p) (k.phases.each p) (not_due pt.view h.phases p) (not_due w.point.view k.phases p)
    (group_waits b pt d w p (h.phases.of p) h (rooted pt h.sane h.ground) (h.phases.each p) (not_due pt.view h.phases p) is) in
    let later = run_marked b ds rest w.point end p more k in
    record {
      phased = later.phased;
      order = ap (λ (xs : List Line). in_order o (marks p xs)) split ∙ ap (in_order o) (marks-append p w.lines rest)
          ∙ order-append o (marks p w.lines) (marks p rest) g.0 (ap (λ (x : Option Mark). in_order x (marks p rest)) g.1 ∙ later.order);
      last = ap (λ (xs : List Line). open_after o (marks p xs)) split ∙ ap (open_after o) (marks-append p w.lines rest)
          ∙ open-append o (marks p w.lines) (marks p rest) ∙ ap (λ (x : Option Mark). open_after x (marks p rest)) g.1 ∙ later.last;
    }

-- wherever the rule leads
pub marked_always : (b : Boot) (es : List Step) (ls : List Line) (pt : Point) (p : Pid) → IsValid b → LeadsBy b (first_point b) es ls pt → RunMarked pt p None ls
marked_always b es ls pt p valid leads =
    let h = phased_start b valid in
    let none : mark_in (h.phases.of p) ≡ None = grind (arith, nat_tests, (h.phases.each p), (not_due (first_view b) h.phases p)) in
    subst (λ (o : Option Mark). RunMarked pt p o ls) none (run_marked b es ls (first_point b) pt p leads h)

pub steps_in_order : StepsInOrder
steps_in_order b es ls pt p valid leads = (marked_always b es ls pt p valid leads).order
