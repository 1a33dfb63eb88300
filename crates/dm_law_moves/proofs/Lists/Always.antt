-- No message is queued for a server: each line keeps it, where what it queues is for a process.
use Rattle.dm_law_moves.proofs.Names.{◌≡◌, ℕ, ◌≤◌, Bool, true, false, List, [], ◌∷◌, refl, ap, ◌∙◌, arith, Some, Pid, MsgId, PlainMessage, Boot, id_eq-same, Step, Line, Part, Spelled, Point, moved, group_of, Inbox, View, is_server, Run}
use Rattle.dm_law_moves.proofs.Names.{ListsAlways, some_is, by_outcome, by_group, run_always, sym, inl, inr, Option, None, cases_Bool, false≢true, Spot, Queue, Held, StandsOutside, StandsRight, standing, is_kernels, stands_right}
use Rattle.dm_law_moves.proofs.Names.{kernels_fresh, IsQueued, IsUserFor, IsFor, ListsForTheirs, user_kind, nat_tests, subst, ⊤, plain_kind, Label, bind-is, Stage, lines_of, spelled, after_line, after, at_record, Told, view_after, handled}
use Rattle.dm_law_moves.proofs.Names.{receiver_of, IsNetLine, IsNet, is_put, hushed, line_view, set_all, killed_or, told_kept, by_parts, migrates, hears, by_migrates, IsHeardLine, Kept, kept_forward, hears_kept, goes_round, handles, Loose}
use Rattle.dm_law_moves.proofs.Names.{loose_round, loose_handles, sets, seen, calls_off, calls_off_kept}
use Rattle.dm_law_rule.specs.Rule as rule
use Rattle.dm_law_rule.specs.View as view
use Rattle.dm_law_moves.proofs.At.RestQueues.{dropped_always, lists_stand}
use Rattle.dm_law_moves.proofs.After.{keeps_always}
use Rattle.dm_law_moves.proofs.Leading.{All, lines_are, Saying, net_says}

-- what is queued is so
abbrev pub LineOk : (MsgId → Type 0) → Line → Type 0
LineOk ok (Line.Queued i) = ok i
LineOk ok l = ⊤

abbrev pub PartOk : (MsgId → Type 0) → Part → Type 0
PartOk ok = Saying (LineOk ok)

abbrev pub AllOk : (MsgId → Type 0) → List Part → Type 0
AllOk ok = All (PartOk ok)

-- what the net says
net_ok : (ok : MsgId → Type 0) (l : Line) → IsNetLine l → LineOk ok l
net_ok ok (Line.Queued i) h = absurd h
net_ok ok _ h = tt

-- a message that was told of is for no server
pub record ForProcess (v : View) (i : MsgId) : Type 0 where
  pub what : Told
  pub told : v.told i ≡ Some what
  pub process : is_server what.receiver ≡ false

-- since a point nothing was told anew, and for servers there are no queues
pub record NoQueues (before v : View) : Type 0 where
  pub told : (i : MsgId) (t : Told) → before.told i ≡ Some t → v.told i ≡ Some t
  pub none : (m : ℕ) (p : Pid) → is_server p ≡ true → v.queue m p ≡ []

same_queues : (before v w : View) → w.told ≡ v.told → w.queue ≡ v.queue → NoQueues before v → NoQueues before w
same_queues before v w told queue h = grind (arith, nat_tests)

set_queue : (before v w : View) (q : Pid) (xs : List MsgId) → w.told ≡ v.told → w.queue ≡ at_record v.queue v.acting q xs → (is_server q ≡ true → xs ≡ []) → NoQueues before v → NoQueues before w
set_queue before v w q xs told queue new h = record {
  told = λ i t e. ap (λ (f : MsgId → Option Told). f i) told ∙ h.told i t e;
  none = λ m p e. ap (λ (f : ℕ → Pid → List MsgId). f m p) queue ∙ set_all (λ n r ys. is_server r ≡ true → ys ≡ []) v.queue v.acting q xs new (λ n r off. h.none n r) m p e;
}

stage_queue : (v : View) (p : Pid) (s : Stage) → (view.after_stage v p s).queue ≡ v.queue
stage_queue v p Stage.Frozen = (sets v p v.topic).queue
stage_queue v p _ = refl

-- a machine forgets a process
buried_queue : (v : View) (o : Option Told) → (view.buried_for v o).queue ≡ v.queue
buried_queue v o = grind (arith, nat_tests)

-- and lines that do
dropped_queues : (before v : View) (i : MsgId) (o : Option Pid) → (view.dropped_for (handled v i) i o).told ≡ v.told → NoQueues before v → NoQueues before (view.dropped_for (handled v i) i o)
dropped_queues before v i None told h = same_queues before v (handled v i) told refl h
dropped_queues before v i (Some p) told h = grind (arith, nat_tests, set_queue)

label_queues : (before v : View) (l : Label) → NoQueues before v → NoQueues before (view_after v (Line.Label l))
label_queues before v (Label.Receive p id) h = grind (arith, nat_tests, set_queue)
label_queues before v (Label.Dropped id) h = dropped_queues before v id (receiver_of (v.told id)) (hushed v (Line.Label (Label.Dropped id)) refl).told h
label_queues before v (Label.Served id) h = same_queues before v (view_after v (Line.Label (Label.Served id))) (hushed v (Line.Label (Label.Served id)) refl).told (grind (arith, nat_tests, killed_or)) h
label_queues before v any_ h = same_queues before v (view_after v (Line.Label any_)) refl refl h

quiet_queues : (before v : View) (l : Line) → is_put l ≡ false → (view_after v l).queue ≡ v.queue → NoQueues before v → NoQueues before (view_after v l)
quiet_queues before v l put queue h = same_queues before v (view_after v l) (hushed v l put).told queue h

pub line_queues : (before v : View) (l : Line) → LineOk (ForProcess before) l → NoQueues before v → NoQueues before (view_after v l)
line_queues before v (Line.Label l) e h = label_queues before v l h
line_queues before v (Line.Queued id) e h = search (arith, e.process, set_queue)
line_queues before v (Line.Put a b id k q) e h = record { told = λ j t f. told_kept v a b id k q j t (h.told j t f); none = h.none }
line_queues before v (Line.SentOn p k) e h = set_queue before v (view_after v (Line.SentOn p k)) p [] refl refl (λ f. refl) h
line_queues before v (Line.Head d) e h = quiet_queues before v (Line.Head d) refl (grind (arith, nat_tests)) h
line_queues before v (Line.Taken a b k) e h = let taken_queue : (v : View) (b : ℕ) (o : Option MsgId) → (view.taken_id v b o).queue ≡ v.queue = λ v b o. grind (arith, nat_tests) in search (quiet_queues, taken_queue)
line_queues before v (Line.Held id) e h = quiet_queues before v (Line.Held id) refl (grind (arith, nat_tests)) h
line_queues before v (Line.Forwarded id m) e h = quiet_queues before v (Line.Forwarded id m) refl (grind (arith, nat_tests)) h
line_queues before v (Line.Proto id) e h = quiet_queues before v (Line.Proto id) refl (grind (arith, nat_tests)) h
line_queues before v (Line.Buried id n) e h = quiet_queues before v (Line.Buried id n) refl (buried_queue (handled v id) (v.told id)) h
line_queues before v (Line.Migration s p) e h = quiet_queues before v (Line.Migration s p) refl (stage_queue v p s) h
line_queues before v any_ e h = quiet_queues before v any_ refl refl h

-- lines, one after another
abbrev LinesOk : (MsgId → Type 0) → List Line → Type 0
LinesOk ok [] = ⊤
LinesOk ok (l ∷ ls) = LineOk ok l × LinesOk ok ls

lines_queues : (before : View) (ls : List Line) (pt next : Point) → LinesOk (ForProcess before) ls → after pt ls ≡ Some next → NoQueues before pt.view → NoQueues before next.view
lines_queues before [] pt next ok e h = let f : pt ≡ next = cc in subst (λ (q : Point). NoQueues before q.view) f h
lines_queues before (l ∷ ls) pt next ok e h =
    let (mid, first, rest) = bind-is (after_line pt l) (λ (q : Point). after q ls) next e in
    lines_queues before ls mid next ok.1 rest (subst (NoQueues before) (sym (line_view pt mid l first)) (same_queues before (view_after pt.view l) (seen pt.kernel pt.view l) refl refl (line_queues before pt.view l ok.0 h)))

-- what a part says
part_ok : (ok : MsgId → Type 0) (pt : Point) (p : Part) (ls : List Line) → PartOk ok p → lines_of pt p ≡ Some ls → LinesOk ok ls
part_ok ok pt p ls h is = lines_are (LinesOk ok) pt p ls
    (record { says = λ l e. (subst (PartOk ok) e h, tt); put = λ none a b i k q. (tt, tt); goes = λ none a b n i k q l. (tt, (tt, tt)); packet = λ none a b n l. (tt, tt) }) is

ok_line : (ok : MsgId → Type 0) (l : Line) → IsHeardLine l → LineOk ok l
ok_line ok (Line.Queued i) h = absurd h
ok_line ok _ h = tt

ok_kept : (ok : MsgId → Type 0) → Kept (AllOk ok)
ok_kept ok = record { none = tt; says = λ l ps h k. (ok_line ok l h, k); again = λ i to ps k. (tt, k); owns = λ k q to ps h. (tt, h); answers = λ i r. (tt, (tt, tt)) }

ok_loose : (ok : MsgId → Type 0) → Loose (AllOk ok)
ok_loose ok = record { none = tt; label = λ l ps h. (tt, h); routes = λ i ps h. (tt, h); buries = λ to ps h. (tt, h) }

-- Messages wait only where a machine has a list for them.

outcome_ok : (b : Boot) (pt : Point) (d : Step) (ps : List Part) → Run b pt → rule.outcome b pt d ≡ Some ps → AllOk (ForProcess pt.view) ps
outcome_ok b pt d ps h is =
    let front_process : (b : Boot) (pt : Point) (m : ℕ) (i : MsgId) (is : List MsgId) (msg : PlainMessage) → Run b pt → pt.view.inbox m ≡ i ∷ is → pt.kernel.bag i ≡ Some msg → is_server msg.to ≡ false → ForProcess pt.view i =
    λ b pt m i is msg h box there process.
    let (t, told) = some_is (pt.view.told i) (h.found.told i (Inbox m) (grind (arith, nat_tests, id_eq-same))) in
    record { what = t; told = told; process = ap is_server (h.based.phased.sane.tells.receiver i msg t there told) ∙ process } in
    let nets_ok : (ok : MsgId → Type 0) (ps : List Part) → IsNet ps → AllOk ok ps = λ ok. net_says (LineOk ok) (net_ok ok) in
    let hears_ok : (ok : MsgId → Type 0) (b : Boot) (pt : Point) (m : ℕ) (id : MsgId) (o : Option Told) (ps : List Part) → hears b pt m id o ≡ Some ps → AllOk ok ps =
    λ ok b pt m id o ps e. hears_kept (AllOk ok) (ok_kept ok) b pt m id o ps e in
    let round_ok : (ok : MsgId → Type 0) (b : Boot) (pt : Point) (m : ℕ) (o : Option Pid) (ps : List Part) → goes_round b pt m o ≡ Some ps → AllOk ok ps = λ ok b pt m o ps e. loose_round (AllOk ok) (ok_loose ok) b pt m o ps (tt, tt) e in
    let migrates_ok : (ok : MsgId → Type 0) (pt : Point) (p : Pid) → AllOk ok (migrates pt p) = λ ok pt p. by_migrates (AllOk ok) pt p (tt, tt) (tt, tt) (λ n off is. (tt, tt)) in
    let handles_ok : (ok : MsgId → Type 0) (b : Boot) (pt : Point) (m : ℕ) (id : MsgId) (msg : PlainMessage) (ps : List Part) → (is_server msg.to ≡ false → ok id) → handles b pt m id msg ≡ Some ps → AllOk ok ps =
    λ ok b pt m id msg ps need e.
    loose_handles (AllOk ok) (AllOk ok) (ok_loose ok) (λ qs h. h) b pt m id msg ps (λ here. (need here.process, tt)) (tt, tt) (λ to here what apart. (tt, (tt, (tt, (tt, tt)))))
    (λ to moves at_. kept_forward (AllOk ok) (ok_kept ok) pt.addresses id (plain_kind msg.what) msg.sender to) e in
    let calls_ok : (ok : MsgId → Type 0) (pt : Point) (m : ℕ) (p : Pid) → AllOk ok (calls_off pt m p (pt.view.known m p)) = λ ok pt m p. calls_off_kept (AllOk ok) (ok_kept ok) pt m p in
    by_outcome (λ x. AllOk (ForProcess pt.view)) b pt d ps (search (round_ok, handles_ok, front_process, hears_ok, nets_ok, migrates_ok, calls_ok)) is

abbrev NoneQueued : View → Type 0
NoneQueued v = (m : ℕ) (p : Pid) → is_server p ≡ true → v.queue m p ≡ []

queues_group : (b : Boot) (pt : Point) (d : Step) (w : Spelled) → group_of b pt d ≡ Some w → Run b pt → NoneQueued pt.view → NoneQueued w.point.view
queues_group b pt d w e h none = by_group (λ v. NoneQueued v.point.view) b pt d w (λ ps rest is said. (
    let first : NoQueues pt.view pt.view = record { told = λ i t f. f; none = none } in
    let parts_queues : (before : View) (ps : List Part) (pt : Point) (w : Spelled) → AllOk (ForProcess before) ps → spelled pt ps ≡ Some w → NoQueues before pt.view → NoQueues before w.point.view = λ before qs q w ok is h.
    by_parts (λ ps pt v. AllOk (ForProcess before) ps → NoQueues before pt.view → NoQueues before v.point.view) (λ pt ok h. h)
    (λ p ps pt next ls z lines leads rest ok h. rest ok.1 (lines_queues before ls pt next (part_ok (ForProcess before) pt p ls ok.0 lines) leads h)) qs q w is ok h in
    (parts_queues pt.view ps (moved pt (Line.Head d) pt.kernel) rest (outcome_ok b pt d ps h is) said (line_queues pt.view pt.view (Line.Head d) tt first)).none
    )) e

-- wherever the rule leads
pub lists_always : ListsAlways
lists_always b es pt valid way =
    let none = keeps_always b (λ q. NoneQueued q.view) (λ q d w fit is run h. queues_group b q d w is run h) valid (λ m p e. refl) es pt way in
    record { stand = lists_stand b pt (run_always b es pt valid way).run (dropped_always b es pt valid way); server = none }

-- a message that stands and has entered is in the bag
queued_by : (b : Boot) (pt : Point) (p : Pid) (i : MsgId) (z : Spot) (o : Option PlainMessage) (h : Run b pt) → pt.kernel.bag i ≡ o → IsQueued (h.based.phased.state.e i) p o → 1 ≤ standing pt.view i z → IsUserFor pt p i
queued_by b pt p i z (Some x) h is q least = record { message = x; there = is; user = user_kind x.what (q.is x refl).1; receiver = (q.is x refl).0 }
queued_by b pt p i z None h is q least =
    let state = h.based.phased.state in
    let right : StandsRight {M = PlainMessage} i None (standing pt.view i) = stands_right pt i state None is in
    absurd (elim (cases_Bool (is_kernels i)) [
      | inl own ↦ (let none = kernels_fresh state.r state.e pt.kernel i state.sound own in let some = q.entered in omega (arith, none, some))
      | inr other ↦ nowhere (is_kernels i) other right
    ])
  where
    nowhere : (c : Bool) → c ≡ false → StandsOutside c (standing pt.view i) → ⊥
    nowhere true e k = false≢true (sym e)
    nowhere false e k = let none = k z in omega (arith, none, least)

-- wherever the rule leads
pub lists_for_theirs : ListsForTheirs
lists_for_theirs b es pt valid leads =
    let h = (run_always b es pt valid leads).run in
    let held_by : (b : Boot) (pt : Point) (m : ℕ) (p : Pid) (i : MsgId) → Run b pt → 1 ≤ standing pt.view i (Held m p) → IsFor pt p i = λ b pt m p i h least.
    let (t, told, to) = h.based.held m p i least in
    record { told = t; is = told; receiver = to; of_bag = λ x there. sym (h.based.phased.sane.tells.receiver i x t there told) ∙ to } in
    record {
      queue = λ m p i least. queued_by b pt p i (Queue m p) (pt.kernel.bag i) h refl (h.based.queued m p i least) least;
      held = λ m p i least. held_by b pt m p i h least;
    }
