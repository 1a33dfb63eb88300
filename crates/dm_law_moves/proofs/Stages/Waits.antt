-- A process that is on its way to a machine is so behind a group that says no mark of it.
use Rattle.dm_law_moves.proofs.Names.{◌≡◌, ◌≢◌, ℕ, false, List, [], ◌∷◌, ◌++◌, refl, ap, ◌∙◌, sym, subst, inl, inr, Option, None, Some, cases_Bool, false≢true, Pid, pid_eq, pid_eq-is, pid_eq-swap, MsgId, MessageKind, Boot, Label, OneKernel}
use Rattle.dm_law_moves.proofs.Names.{Step, Line, Stage, View, Told, Known, Here, Frozen, Incoming, at_record, record_off, receiver_of, handled, after_head, view_after, served_told, sets, aim, Point, label_of, kernel_after, Part, Says}
use Rattle.dm_law_moves.proofs.Names.{Spelled, spelled, Steps, group_of, Sane, part_sane, AllSayable, outcome_sayable, begun, begun_sane, gone_in, not_true, nat_tests, arith, Phase, Moves, knows, is_due, IsIn, Spares, FirstApart}
use Rattle.dm_law_moves.proofs.Names.{apart_first, Rooted, nowhere_known, moves_away, moves_known, by_parts, PacketsKeep, Mark, Reached, mark_for, with_mark, marks, queued_known, held_known, forwarded_known, proto_known, if◌then◌else◌, Sort}
use Rattle.dm_law_moves.proofs.Names.{sort_of, ◌+◌, ◌==◌, Staying, step_number, Calling, SparesPart, ApartOf, outcome_apart, Unknown, ⊤, Of, hushed, told_kept, Sayable, IsNetLine, Loose, sends_on, to_kernel, by_outcome, loose_round}
use Rattle.dm_law_moves.proofs.Names.{loose_handles, by_forwards, by_hears, by_migrates, by_calls_off, plain_kind, preds_of, buries_kept, manager, Phased, bury_away, tells_end, is_away, moves_there}
use Rattle.dm_law_rule.specs.View as view
use Rattle.dm_law_rule.specs.Rule as rule
use Rattle.dm_onekernel.specs.Step as kernel
use Rattle.dm_law_rule.proofs.Apart.Steps.{spares_of}
use Rattle.dm_law_moves.proofs.Burials.{buried_others}
use Rattle.dm_law_moves.proofs.Leading.{All, Saying, net_says, part_leads, whatever_put}
use Rattle.dm_law_moves.proofs.Stages.Spares.{mark_part, marks_of, group_says, is_settled, rest_settled, Waits}

-- what is set is another process's
set_off : (f : ℕ → Pid → Known) (a : ℕ) (q : Pid) (x : Known) (m : ℕ) (p : Pid) (y : Known) → pid_eq q p ≡ false → f m p ≡ y → at_record f a q x m p ≡ y
set_off f a q x m p y apart e = record_off f a q x m p apart ∙ e

other_process : (q p : Pid) → q ≢ p → pid_eq q p ≡ false
other_process q p h = not_true (pid_eq q p) (λ e. h (pid_eq-is q p e))

unmarked_off : (p q : Pid) (m : Mark) → mark_for p q m [] ≡ [] → pid_eq q p ≡ false
unmarked_off p q m none = elim (cases_Bool (pid_eq p q)) [
  | inl same ↦ (let f : m ∷ [] ≡ [] = sym (ap (λ c. if c then m ∷ [] else []) same) ∙ none in cc)
  | inr off ↦ pid_eq-swap q p ∙ off
]

-- a message is served that isn't for the process
served_waits : (v : View) (o : Option Told) (m : ℕ) (p : Pid) (y : Known) → ((t : Told) → o ≡ Some t → pid_eq t.receiver p ≡ false) → v.known m p ≡ y → (served_told v o).known m p ≡ y
served_waits v None m p y off e = e
served_waits v (Some t) m p y off e =
    let apart = off t refl in
    let by_kill : (s : Sort) → (view.ends_by s v (Some t.receiver)).known m p ≡ y = λ s. search (arith, set_off v.known v.acting t.receiver Unknown m p y apart e, e) in
    by_kill (sort_of t.kind)

label_waits : (pt : Point) (s : OneKernel) (l : Label) (p : Pid) (m : ℕ) (y : Known) → Sane pt → Spares pt.kernel p (Some l) → kernel.step pt.kernel l ≡ Some s → pt.view.known m p ≡ y → (view_after pt.view (Line.Label l)).known m p ≡ y
label_waits pt s (Label.End q why) p m y sane off is e = set_off pt.view.known pt.view.acting q Unknown m p y (other_process q p off) e
label_waits pt s (Label.Created id q) p m y sane off is e = set_off pt.view.known pt.view.acting q Here m p y (other_process q p off) e
label_waits pt s (Label.Served id) p m y sane off is e =
    let g = gone_in pt.kernel s (Label.Served id) id is refl in
    served_waits (handled pt.view id) (pt.view.told id) m p y
    (λ t told. subst (λ (q : Pid). pid_eq q p ≡ false) (sym (sane.tells.receiver id g.message t g.there told)) (other_process g.message.to p (off g.message g.there))) e
label_waits pt s (Label.Dropped id) p m y sane off is e = ap (λ (f : ℕ → Pid → Known). f m p) (dropped_known (handled pt.view id) id (receiver_of (pt.view.told id))) ∙ e
  where
    dropped_known : (v : View) (i : MsgId) (o : Option Pid) → (view.dropped_for v i o).known ≡ v.known
    dropped_known v i o = grind (arith, nat_tests)
label_waits pt s _ p m y sane off is e = e

stage_waits : (v : View) (q : Pid) (g : Stage) (m : ℕ) (p : Pid) (y : Known) → pid_eq q p ≡ false → v.known m p ≡ y → (view.after_stage v q g).known m p ≡ y
stage_waits v q Stage.Frozen m p y off e = ap (λ (f : ℕ → Pid → Known). f m p) (sets v q v.topic).known ∙ set_off v.known v.acting q (Frozen (aim v v.topic)) m p y off e
stage_waits v q Stage.Accepted m p y off e = set_off v.known v.acting q (Incoming (view.front_of (v.inbox v.acting))) m p y off e
stage_waits v q Stage.Left m p y off e = set_off v.known v.acting q (view.gone_to (v.known v.acting q) (v.moves q + 1)) m p y off e
stage_waits v q Stage.Restarted m p y off e = set_off v.known v.acting q Here m p y off e
stage_waits v q _ m p y off e = e

-- a burial is of another process
abbrev Elsewhere : (MsgId → Option Told) → Pid → Line → Type 0
Elsewhere told p (Line.Buried i n) = (t : Told) × (told i ≡ Some t) × ((q : Pid) → t.about ≡ Of q → pid_eq q p ≡ false)
Elsewhere told p l = ⊤

-- what was told stays
abbrev Kept : (MsgId → Option Told) → View → Type 0
Kept told v = (i : MsgId) (t : Told) → told i ≡ Some t → v.told i ≡ Some t

line_waits : (pt : Point) (s : OneKernel) (l : Line) (p : Pid) (m : ℕ) (y : Known) (told : MsgId → Option Told) → Sane pt → Kept told pt.view → Elsewhere told p l → Spares pt.kernel p (label_of l) → with_mark p l [] ≡ [] → kernel_after pt.kernel (label_of l) ≡ Some s → pt.view.known m p ≡ y
    → (view_after pt.view l).known m p ≡ y
line_waits pt s (Line.Label l) p m y told sane kept else_ off none is e = label_waits pt s l p m y sane off is e
line_waits pt s (Line.Migration g q) p m y told sane kept else_ off none is e = stage_waits pt.view q g m p y (unmarked_off p q (Reached (step_number g)) none) e
line_waits pt s (Line.Called q n) p m y told sane kept else_ off none is e = set_off pt.view.known pt.view.acting q (view.goes_back (pt.view.known pt.view.acting q) (pt.view.moves q)) m p y (unmarked_off p q Calling none) e
line_waits pt s (Line.Stays q) p m y told sane kept else_ off none is e = set_off pt.view.known pt.view.acting q Here m p y (unmarked_off p q Staying none) e
line_waits pt s (Line.Head d) p m y told sane kept else_ off none is e = (let f : (after_head pt.view d).known ≡ pt.view.known = grind (arith, nat_tests) in ap (λ (f : ℕ → Pid → Known). f m p) f) ∙ e
line_waits pt s (Line.Taken a b k) p m y told sane kept else_ off none is e =
    let taken_known : (v : View) (b : ℕ) (o : Option MsgId) → (view.taken_id v b o).known ≡ v.known = λ v b o. grind (arith, nat_tests) in
    search (arith, taken_known, e)
line_waits pt s (Line.Queued id) p m y told sane kept else_ off none is e = queued_known (handled pt.view id) id (receiver_of (pt.view.told id)) m p ∙ e
line_waits pt s (Line.Held id) p m y told sane kept else_ off none is e = held_known (handled pt.view id) id (receiver_of (pt.view.told id)) m p ∙ e
line_waits pt s (Line.Forwarded id to) p m y told sane kept else_ off none is e = forwarded_known (handled pt.view id) (receiver_of (pt.view.told id)) m p ∙ e
line_waits pt s (Line.Proto id) p m y told sane kept else_ off none is e = proto_known (handled pt.view id) (pt.view.told id) m p ∙ e
line_waits pt s (Line.Buried i n) p m y told sane kept else_ off none is e =
    let (t, was, others) = else_ in
    buried_others pt.view i n m p y (λ u q now about. let f : Some t ≡ Some u = sym (kept i t was) ∙ now in let same : t ≡ u = cc in others q (ap (λ (x : Told). x.about) same ∙ about)) e
line_waits pt s _ p m y told sane kept else_ off none is e = e

-- parts
abbrev Knows : ℕ → Pid → Known → Point → Type 0
Knows m p y pt = pt.view.known m p ≡ y

-- and what was told before stays told
abbrev Waited : ℕ → Pid → Known → (MsgId → Option Told) → Point → Type 0
Waited m p y told pt = Knows m p y pt × Kept told pt.view

part_waits : (pt next : Point) (x : Part) (p : Pid) (m : ℕ) (y : Known) (told : MsgId → Option Told) → Sane pt → SparesPart pt.kernel p x → Sayable x → Saying (Elsewhere told p) x → mark_part p x [] ≡ [] → Steps pt x next → Waited m p y told pt → Waited m p y told next
part_waits pt next x p m y told sane off ok else_ none steps h =
    let waited_packet : PacketsKeep (Waited m p y told) = λ q a b k l g. g in
    part_leads (Waited m p y told) waited_packet pt next x
    (whatever_put (Waited m p y told) pt x
    (λ l is s step. (
      line_waits pt s l p m y told sane h.1 (subst (Saying (Elsewhere told p)) is else_) (spares_of pt.kernel p (label_of l) (subst (SparesPart pt.kernel p) is off)) (subst (λ (z : Part). mark_part p z [] ≡ []) is none) step h.0,
      (λ i t e. ap (λ (f : MsgId → Option Told). f i) (hushed pt.view l (subst Sayable is ok)).told ∙ h.1 i t e),
    ))
    (λ b i k q. (h.0, λ j t e. told_kept pt.view pt.view.acting b i k q j t (h.1 j t e))) h) steps

append_none : (xs ys : List Mark) → xs ++ ys ≡ [] → (xs ≡ []) × (ys ≡ [])
append_none [] ys e = (refl, e)
append_none (x ∷ xs) ys e = cc

none_each : (p : Pid) (x : Part) (ms : List Mark) → mark_part p x ms ≡ [] → (mark_part p x [] ≡ []) × (ms ≡ [])
none_each p (Says l) ms e = append_none (with_mark p l []) ms ((let f : with_mark p l [] ++ ms ≡ with_mark p l ms = grind (arith, nat_tests) in f) ∙ e)
none_each p _ ms e = (refl, e)

parts_wait : (ps : List Part) (pt : Point) (w : Spelled) (p : Pid) (m : ℕ) (y : Known) (told : MsgId → Option Told) → FirstApart pt.kernel p ps → AllSayable ps → All (Saying (Elsewhere told p)) ps → Sane pt → marks_of p ps ≡ [] → spelled pt ps ≡ Some w → Waited m p y told pt → Knows m p y w.point
parts_wait qs o w p m y told apart ok else_ sane none is h =
    by_parts (λ ps pt u. FirstApart pt.kernel p ps → AllSayable ps → All (Saying (Elsewhere told p)) ps → Sane pt → marks_of p ps ≡ [] → Waited m p y told pt → Knows m p y u.point) (λ pt apart ok else_ sane none h. h.0)
    (λ x ps pt next ls z lines leads rest apart ok else_ sane none h. (
    let n = none_each p x (marks_of p ps) none in
    rest (apart_first next.kernel p ps apart.1) ok.1 else_.1 (part_sane pt next x ls ok.0 lines leads sane) n.1
    (part_waits pt next x p m y told sane apart.0 ok.0 else_.0 n.0 (record { lines = ls; are = lines; leads = leads }) h)
    )) qs o w is apart ok else_ sane none h

-- only a turn that handles a burial says one
net_else : (told : MsgId → Option Told) (p : Pid) (l : Line) → IsNetLine l → Elsewhere told p l
net_else told p (Line.Buried i n) h = absurd h
net_else told p _ h = tt

else_loose : (told : MsgId → Option Told) (p : Pid) → Loose (All (Saying (Elsewhere told p)))
else_loose told p = record { none = tt; label = λ l ps h. (tt, h); routes = λ i ps h. (tt, h); buries = λ to ps h. (tt, h) }

sends_else : (told : MsgId → Option Told) (p : Pid) (to : ℕ) (ids : List MsgId) (ps : List Part) → All (Saying (Elsewhere told p)) ps → All (Saying (Elsewhere told p)) (sends_on to ids ++ ps)
sends_else told p to [] ps h = h
sends_else told p to (i ∷ is) ps h = (tt, sends_else told p to is ps h)

outcome_else : (p : Pid) (b : Boot) (o : Point) (d : Step) (ps : List Part) → ((i : MsgId) (t : Told) (q : Pid) → o.view.told i ≡ Some t → t.kind ≡ MessageKind.Bury → t.about ≡ Of q → pid_eq q p ≡ false) → rule.outcome b o d ≡ Some ps → All (Saying (Elsewhere o.view.told p)) ps
outcome_else p b o d ps others is =
    let Q = All (Saying (Elsewhere o.view.told p)) in
    by_outcome (λ x. Q) b o d ps (record {
      round = λ m xs box e. loose_round Q (else_loose o.view.told p) b o m (rule.first_runnable o.kernel (o.view.queue m) (o.view.ring m)) xs (tt, tt) e;
      handles = λ m i is msg xs box there e. loose_handles Q Q (else_loose o.view.told p) (λ ys h. h) b o m i msg xs (λ here. (tt, tt)) (tt, tt) (λ to here what apart. (tt, (tt, (tt, (tt, tt)))))
          (λ to moves at_. by_forwards Q o.addresses i (plain_kind msg.what) msg.sender to (tt, (tt, tt)) (tt, (tt, (tt, tt)))) e;
      hears = λ m i is xs box none e. by_hears Q b o m i (o.view.told i) xs (λ t told. record {
        stale = λ q about late. (tt, tt);
        buried = λ q about kind. ((t, told, λ r of. others i t r told kind of), buries_kept Q tt (λ to ys h. (tt, h)) (preds_of o m q));
        told = λ q x about alive due. record {
          accepted = λ ask. (tt, (tt, tt));
          lacks = λ slots blocks. (tt, (tt, tt));
          stays = λ kind free. (tt, tt);
          stays_asked = λ kind n noted. (tt, (tt, (tt, tt)));
          restarted_asked = λ kind n noted. (tt, (tt, (tt, tt)));
          state = (tt, (tt, tt));
          next_chunk = (tt, (tt, tt));
          last_chunk = (tt, (tt, tt));
          server_chunk = λ server. (tt, (tt, (tt, tt)));
          memory = (tt, (tt, tt));
          next_block = (tt, (tt, tt));
          last_block = (tt, (tt, tt));
          left = λ ids to leaves. (tt, sends_else o.view.told p to ids (Says (Line.Migration Stage.Left q) ∷ to_kernel MessageKind.Restart i.from.home ∷ []) (tt, (tt, tt)));
          restarted = λ kind free. (tt, tt);
        };
        updated = λ kind. (tt, tt);
        updated_none = λ kind at_. (tt, tt);
        no_move = λ at_. (tt, tt);
        leaving = λ to at_. (tt, tt);
        coming = λ from at_. (tt, tt);
        forwarded = λ to moves at_. by_forwards Q o.addresses i t.kind manager to (tt, (tt, tt)) (tt, (tt, (tt, tt)));
        stays_here = λ at_. (tt, tt);
        frozen = λ to at_. (tt, (tt, (tt, tt)));
      }) e;
      ticks = λ m. net_says (Elsewhere o.view.told p) (net_else o.view.told p);
      delivers = λ a c k. net_says (Elsewhere o.view.told p) (net_else o.view.told p);
      asks = λ q m. by_migrates Q o q (tt, tt) (tt, tt) (λ n off is. (tt, tt));
      calls = λ q m. by_calls_off Q o m q (tt, tt) (λ from is come. (tt, sends_else o.view.told p from (o.view.held m q) (to_kernel MessageKind.CallOff from ∷ []) (tt, tt)));
    }) is

-- what moves hasn't ended
moving_others : (pt : Point) (p : Pid) (k : MessageKind) (s t : ℕ) (o : Option MsgId) → Phased pt → IsIn pt.view p (Moves k s t o) → (i : MsgId) (u : Told) (q : Pid) → pt.view.told i ≡ Some u → u.kind ≡ MessageKind.Bury → u.about ≡ Of q → pid_eq q p ≡ false
moving_others pt p k s t o h phase i u q told kind about = not_true (pid_eq q p) (λ same.
    let (m, there) = moves_there pt.view p k s t o phase in
    false≢true (sym there ∙ ap (λ (r : Pid). is_away (pt.view.known m r)) (sym (pid_eq-is q p same)) ∙ bury_away pt i u q h told (ap (λ (x : MessageKind). tells_end (sort_of x)) kind) about m))

moving_waits : (b : Boot) (pt : Point) (d : Step) (w : Spelled) (p : Pid) (k : MessageKind) (s t : ℕ) (o : Option MsgId) → Phased pt → Rooted pt → IsIn pt.view p (Moves k s t o) → group_of b pt d ≡ Some w → marks p w.lines ≡ [] → (m : ℕ) (y : Known) → pt.view.known m p ≡ y → w.point.view.known m p ≡ y
moving_waits b pt d w p k s t o phased h phase e none m y is =
    let sane = phased.sane in
    let g = group_says b pt d w e in
    let apart : ApartOf pt.kernel p (rule.outcome b pt d) =
    outcome_apart b pt d p h
    (λ n same. moves_known k s t o (nowhere_known (Moves k s t o) (λ j. sym (ap (knows (Moves k s t o) j) (ap (pt.view.known j) (sym same) ∙ h.unborn n j)) ∙ phase.known j) (λ at over. cc)))
    (λ n q here same. false≢true (sym (moves_away k s t n o (s == n) (t == n) refl refl) ∙ sym (ap (knows (Moves k s t o) n) (ap (pt.view.known n) (sym same) ∙ here)) ∙ phase.known n)) in
    let start : Knows m p y (begun pt d) = line_waits pt pt.kernel (Line.Head d) p m y pt.view.told sane (λ i u f. f) tt tt refl refl is in
    subst (Knows m p y) g.point
    (parts_wait g.parts (begun pt d) g.rest p m y pt.view.told (subst (ApartOf pt.kernel p) g.is apart) (outcome_sayable b pt d g.parts g.is) (outcome_else p b pt d g.parts (moving_others pt p k s t o phased phase) g.is) (begun_sane pt d sane) (sym (g.marked p) ∙ none) g.said
    (start, λ i u f. ap (λ (x : MsgId → Option Told). x i) (hushed pt.view (Line.Head d) refl).told ∙ f))

pub group_waits : (b : Boot) (pt : Point) (d : Step) (w : Spelled) (p : Pid) (phase : Phase) → Phased pt → Rooted pt → IsIn pt.view p phase → is_due phase ≡ false → group_of b pt d ≡ Some w → Waits pt.view w.point.view p (marks p w.lines)
group_waits b pt d w p (Moves k s t o) phased h phase due e none m from is = moving_waits b pt d w p k s t o phased h phase e none m (Incoming from) is
group_waits b pt d w p other phased h phase due e none m from is = absurd (false≢true (sym (ap is_settled is) ∙ rest_settled other m (pt.view.known m p) due refl (phase.known m)))
