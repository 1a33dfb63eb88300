-- Each group keeps that all forwarding addresses are held back.
use Rattle.dm_law_moves.proofs.Names.{◌≡◌, ℕ, ◌<◌, ◌==◌, true, false, List, [], ◌∷◌, refl, ap, ◌∙◌, sym, subst, Option, None, Some, false≢true, Pid, pid_of, MsgId, MessageKind, plain_kind, PlainMessage, PlainWhat, Boot, Step, Line}
use Rattle.dm_law_moves.proofs.Names.{Label, Stage, Told, View, Target, NothingElse, Here, Why, OneKernel, answer_id, view_after, after_head, handled, served_told, ends_by, move_target, option_map_or, Point, moved, Part, Says, Routes}
use Rattle.dm_law_moves.proofs.Names.{Spelled, spelled, group_of, group_is, turned, begun, begun_sane, begins, fits, PairsFit, Sane, Run, leaves_for, to_kernel, Outcome, answers_move, first_number, sort_of, is_kill, by_outcome}
use Rattle.dm_law_moves.proofs.Names.{by_round, by_handles, by_migrates, by_calls_off, times, asked_off, Inbox, IsNet, ◌+◌, Owns, preds_of, ends_with}
use Rattle.dm_law_rule.specs.View as view
use Rattle.dm_law_rule.specs.Rule as rule
use Rattle.dm_onekernel.specs.Step as kernel
use Rattle.dm_law_moves.proofs.Leading.{All}
use Rattle.dm_law_moves.proofs.Ends.Parts.{label_smooth, told_by}
use Rattle.dm_law_moves.proofs.Ends.Open.{front_one}
use Rattle.dm_law_moves.proofs.Ends.Groups.{front_turn}
use Rattle.dm_law_moves.proofs.Preds.Kept.{is_word, Preds, Lasts, lasts_smooth, lasts_still, preds_same, preds_knows}
use Rattle.dm_law_moves.proofs.Preds.Lines.{Tail, head_keeps, net_preds, bag_spared}
use Rattle.dm_law_moves.proofs.Preds.Rows.{Stood, Into, tail_into, line_into, forgets_into}
use Rattle.dm_law_moves.proofs.Preds.Turns.{Front, queued_into, held_into, frozen_into, called_into}
use Rattle.dm_law_moves.proofs.Preds.Hears.{IntoOf, all_told, forwards_into, hears_into}
use Rattle.dm_law_rule.proofs.Phases.EndLines.{kill_is}

-- behind the head
begun_stood : (n : ℕ) (pt : Point) (d : Step) → Sane pt → PairsFit pt.view → PairsFit (after_head pt.view d) → Preds n pt.view → Stood n (begun pt d)
begun_stood n pt d sane fits next h =
    let k = head_keeps pt d fits in
    record { preds = preds_same n pt.view (after_head pt.view d) k.1 k.2 k.0 h; sane = begun_sane pt d sane; fits = next }

label_lasts : (pt : Point) (s : OneKernel) (l : Label) → Sane pt → kernel.step pt.kernel l ≡ Some s → Lasts None pt.view (view_after pt.view (Line.Label l))
label_lasts pt s l sane step = lasts_smooth None pt.view (view_after pt.view (Line.Label l)) (label_smooth is_word pt s l (bag_spared pt sane) step)

-- a label behind which nothing more is known
label_into : (n : ℕ) (pt : Point) (l : Label) (ps : List Part) → Stood n pt → ((m : ℕ) (q : Pid) → (view_after pt.view (Line.Label l)).known m q ≡ pt.view.known m q) → ((m : ℕ) (q : Pid) (r : ℕ) → (view_after pt.view (Line.Label l)).preds m q r ≡ pt.view.preds m q r)
    → ((s : OneKernel) → kernel.step pt.kernel l ≡ Some s → Stood n (moved pt (Line.Label l) s) → Into n (moved pt (Line.Label l) s) ps) → Into n pt (rule.says l ∷ ps)
label_into n pt l ps h known preds rest =
    line_into n pt (Line.Label l) ps h.sane h.fits refl refl (λ s step. preds_same n pt.view (view_after pt.view (Line.Label l)) known preds (label_lasts pt s l h.sane step) h.preds) (λ s step stood. rest s step stood)

-- an end by a call or a fault
ends_into : (n : ℕ) (o pt : Point) (m : ℕ) (p : Pid) (y : Why) → o.kernel.machines ≡ n → Preds n o.view → Stood n pt → pt.view.acting ≡ m → ((x : ℕ) → pt.view.preds m p x ≡ o.view.preds m p x) → Into n pt (rule.says (Label.End p y) ∷ ends_with o m p)
ends_into n o pt m p y machines was h acting same =
    let v = pt.view in
    let l = Label.End p y in
    forgets_into None n pt (Line.Label l) (o.view.queue m p) (preds_of o m p) p h.sane h.fits h.preds refl refl
    (λ s step. (record { known = λ a q. refl; preds = λ a q r. refl; topic = refl }, label_lasts pt s l h.sane step))
    (λ x e. all_told n o m p machines was x (sym (same x) ∙ sym (ap (λ (a : ℕ). v.preds a p x) acting) ∙ e))
    (λ q a k apart x e. cc)

round_into : (n : ℕ) (b : Boot) (pt : Point) (m : ℕ) (ps : List Part) → pt.kernel.machines ≡ n → Preds n pt.view → Stood n (turned pt m) → rule.goes_round b pt m (rule.first_runnable pt.kernel (pt.view.queue m) (pt.view.ring m)) ≡ Some ps → Into n (turned pt m) ps
round_into n b pt m ps machines was h = by_round (Into n (turned pt m)) b pt m (rule.first_runnable pt.kernel (pt.view.queue m) (pt.view.ring m)) ps (tail_into n (turned pt m) (Says (Line.Idle m) ∷ []) h (tt, tt)) (λ p x at alive. record {
  runs = λ k rest stops. label_into n (turned pt m) (Label.Ran p k) rest h (λ a q. refl) (λ a q r. refl) (λ s step stood. (
      let next = moved (turned pt m) (Line.Label (Label.Ran p k)) s in
      stops (Into n next) (record {
        over = tail_into n next [] stood tt;
        replies = λ c r. tail_into n next (rule.says (Label.Call p c r) ∷ []) stood (tt, tt);
        sends = λ id. tail_into n next (rule.says (Label.Send p id) ∷ Routes id ∷ []) stood (tt, (tt, tt));
        waits = tail_into n next (rule.says (Label.Wait p) ∷ []) stood (tt, tt);
        outputs = λ word. tail_into n next (rule.says (Label.Out p word) ∷ []) stood (tt, tt);
        ends = λ y. ends_into n pt next m p y machines was stood refl (λ x. refl);
      })));
  takes = λ mask id first. tail_into n (turned pt m) (rule.says (Label.Receive p id) ∷ []) h (tt, tt);
  refuses = λ id r. tail_into n (turned pt m) (rule.says (Label.Refuse p id r) ∷ []) h (tt, tt);
})

-- a message of the bag is handled
stood_front : (n : ℕ) (pt : Point) (i : MsgId) (is : List MsgId) (t : Told) → Front n pt i is t → Stood n pt
stood_front n pt i is t h = record { preds = h.preds; sane = h.turn.sane; fits = h.turn.fits }

-- of the messages that a kernel serves, only a kill ends its receiver
served_same : (v : View) (o : Option Told) → ((t : Told) → o ≡ Some t → is_kill t.kind ≡ false) → ((m : ℕ) (q : Pid) → (served_told v o).known m q ≡ v.known m q) × ((m : ℕ) (q : Pid) (r : ℕ) → (served_told v o).preds m q r ≡ v.preds m q r)
served_same v None spares = (λ m q. refl, λ m q r. refl)
served_same v (Some t) spares = by_kind t.kind (spares t refl)
  where
    by_kind : (k : MessageKind) → is_kill k ≡ false → ((m : ℕ) (q : Pid) → (ends_by (sort_of k) v (Some t.receiver)).known m q ≡ v.known m q) × ((m : ℕ) (q : Pid) (r : ℕ) → (ends_by (sort_of k) v (Some t.receiver)).preds m q r ≡ v.preds m q r)
    by_kind MessageKind.Kill e = absurd (false≢true (sym e))
    by_kind _ e = (λ m q. refl, λ m q r. refl)

served_into : (n : ℕ) (pt : Point) (i : MsgId) (is : List MsgId) (t : Told) (msg : PlainMessage) (ps : List Part) → Front n pt i is t → pt.kernel.bag i ≡ Some msg → is_kill (plain_kind msg.what) ≡ false → All Tail ps → Into n pt (rule.says (Label.Served i) ∷ ps)
served_into n pt i is t msg ps h there spares tail =
    let v = pt.view in
    let same = served_same (handled v i) (v.told i) (λ u told. ap is_kill (h.turn.sane.tells.kind i msg u there told) ∙ spares) in
    label_into n pt (Label.Served i) ps (stood_front n pt i is t h) same.0 same.1 (λ s step stood. tail_into n (moved pt (Line.Label (Label.Served i)) s) ps stood tail)

killed_into : (n : ℕ) (o : Point) (m : ℕ) (i : MsgId) (is : List MsgId) (t : Told) (msg : PlainMessage) → o.kernel.machines ≡ n → Preds n o.view → Front n (turned o m) i is t → o.kernel.bag i ≡ Some msg → is_kill (plain_kind msg.what) ≡ true
    → Into n (turned o m) (rule.says (Label.Served i) ∷ ends_with o m msg.to)
killed_into n o m i is t msg machines was h there kills =
    let pt = turned o m in
    let v = pt.view in
    let l = Label.Served i in
    let tells = h.turn.sane.tells in
    let kind : t.kind ≡ MessageKind.Kill = tells.kind i msg t there h.turn.told ∙ kill_is (plain_kind msg.what) kills in
    let same : view_after v (Line.Label l) ≡ view.ended (handled v i) msg.to =
    ap (served_told (handled v i)) h.turn.told ∙ ap (λ (k : MessageKind). ends_by (sort_of k) (handled v i) (Some t.receiver)) kind ∙ ap (view.ended (handled v i)) (tells.receiver i msg t there h.turn.told) in
    forgets_into None n pt (Line.Label l) (o.view.queue m msg.to) (preds_of o m msg.to) msg.to h.turn.sane h.turn.fits h.preds refl refl
    (λ s step. (record { known = λ a q. ap (λ (w : View). w.known a q) same; preds = λ a q r. ap (λ (w : View). w.preds a q r) same; topic = ap (λ (w : View). w.topic) same }, label_lasts pt s l h.turn.sane step))
    (λ x e. all_told n o m msg.to machines was x e) (λ q a k apart x e. cc)

created_into : (n : ℕ) (pt : Point) (i : MsgId) (p : Pid) (ps : List Part) → Stood n pt → All Tail ps → Into n pt (rule.says (Label.Created i p) ∷ ps)
created_into n pt i p ps h tail =
    let v = pt.view in
    let l = Label.Created i p in
    line_into n pt (Line.Label l) ps h.sane h.fits refl refl (λ s step. preds_knows n v (view_after v (Line.Label l)) v.acting p Here (λ m q. refl) (λ m q r. refl) (λ k c e. cc) (λ e. cc) (λ s e. cc) (label_lasts pt s l h.sane step) h.preds)
    (λ s step stood. tail_into n (moved pt (Line.Label l) s) ps stood tail)

-- a process is asked to move, and sets off
sets_off_into : (n : ℕ) (pt : Point) (i : MsgId) (msg : PlainMessage) (to : ℕ) → Stood n pt → pt.kernel.bag i ≡ Some msg → msg.what ≡ PlainWhat.Move to → Into n pt (rule.says (Label.Asked i) ∷ leaves_for msg.to to)
sets_off_into n pt i msg to h there what = label_into n pt (Label.Asked i) (leaves_for msg.to to) h (λ m q. refl) (λ m q r. refl) (λ s step stood.
    let q = msg.to in
    let mid = moved pt (Line.Label (Label.Asked i)) s in
    let v = mid.view in
    let l = Line.Migration Stage.Frozen q in
    let topic : v.topic ≡ Target to = ap (λ (o : Option PlainMessage). option_map_or (λ m. move_target m.what) o NothingElse) there ∙ ap move_target what in
    frozen_into n mid q (Says (Line.Migration Stage.Asked q) ∷ to_kernel MessageKind.Ask to ∷ []) stood (lasts_still None v (view_after v l) (told_by v l refl) (λ j z. ap (times j) (asked_off v q to topic z))) (tt, (tt, tt)))

sent_tail : (o : Option PlainMessage) → All Tail (rule.routes o)
sent_tail None = tt
sent_tail (Some m) = (tt, tt)

handles_into : (n : ℕ) (b : Boot) (o : Point) (m : ℕ) (i : MsgId) (is : List MsgId) (t : Told) (msg : PlainMessage) (ps : List Part) → o.kernel.machines ≡ n → Preds n o.view → Front n (turned o m) i is t → o.kernel.bag i ≡ Some msg → rule.handles b o m i msg ≡ Some ps → Into n (turned o m) ps
handles_into n b o m i is t msg ps machines was h there =
    let pt = turned o m in
    let stood = stood_front n pt i is t h in
    let plain : is_word t ≡ false = bag_spared pt h.turn.sane i msg there t h.turn.told in
    by_handles (Into n pt) b o m i msg ps (record {
      created = λ fixed. created_into n pt i (pid_of m (first_number + o.kernel.made m)) (Routes (answer_id i) ∷ []) stood (tt, tt);
      no_space = λ fixed slots blocks. tail_into n pt (rule.says (Label.NoSpace i slots blocks) ∷ Routes (answer_id i) ∷ []) stood (tt, (tt, tt));
      took = λ fixed sent. tail_into n pt (rule.says (Label.Took i) ∷ rule.routes sent) stood (tt, sent_tail sent);
      queued = λ to user. queued_into n pt i is t h plain;
      served = λ to mild. served_into n pt i is t msg [] h there mild tt;
      answers = λ to mild j. served_into n pt i is t msg (Routes j ∷ []) h there mild (tt, tt);
      kills = λ to kills. killed_into n o m i is t msg machines was h there kills;
      moved = λ to what. label_into n pt (Label.Asked i) (answers_move i Outcome.Done) stood (λ a q. refl) (λ a q r. refl) (λ s step next. tail_into n (moved pt (Line.Label (Label.Asked i)) s) (answers_move i Outcome.Done) next (tt, (tt, tt)));
      sets_off = λ machine to what apart. sets_off_into n pt i msg machine stood there what;
      gone = λ to. tail_into n pt (rule.says (Label.Gone i) ∷ Routes (answer_id i) ∷ []) stood (tt, (tt, tt));
      dropped = λ to. tail_into n pt (rule.says (Label.Dropped i) ∷ []) stood (tt, tt);
      leaving = λ k to. held_into n pt i is t h plain;
      coming = λ k to. held_into n pt i is t h plain;
      forwarded = λ k c to. forwards_into n pt i is t o.addresses (plain_kind msg.what) msg.sender k h plain;
    })

-- what stands at the front of an inbox
front_at : (n : ℕ) (b : Boot) (pt : Point) (m : ℕ) (i : MsgId) (is : List MsgId) → Run b pt → pt.kernel.machines ≡ n → Preds n pt.view → pt.view.inbox m ≡ i ∷ is → (t : Told) × Front n (turned pt m) i is t
front_at n b pt m i is run machines h box =
    let phased = run.based.phased in
    let pairs = fits pt.view phased.pairs in
    let (t, turn) = front_turn pt m i is phased.phases (begins pt m phased run.based.known) pairs box in
    let k = head_keeps pt (Step.Turn m) pairs in (
      t,
      record {
        turn = turn;
        preds = preds_same n pt.view (turned pt m).view k.1 k.2 k.0 h;
        known_within = λ a p is_. subst (λ (x : ℕ). a < x) machines (run.found.known_within a p is_);
        at_home = λ zero_. sym (run.found.fixed i (Inbox m) t (front_one pt.view m i is box) turn.told (ap (λ (x : ℕ). x == 0) zero_));
      },
    )

pub group_preds : (n : ℕ) (b : Boot) (pt : Point) (d : Step) (w : Spelled) → group_of b pt d ≡ Some w → Run b pt → pt.kernel.machines ≡ n → Preds n pt.view → Preds n w.point.view
group_preds n b pt d w e run machines h =
    let g = group_is b pt d w e in
    let phased = run.based.phased in
    let sane = phased.sane in
    let pairs = fits pt.view phased.pairs in
    let stood : (x : Step) → PairsFit (after_head pt.view x) → Stood n (begun pt x) = λ x next. begun_stood n pt x sane pairs next h in
    let turning : (m : ℕ) → Stood n (turned pt m) = λ m. stood (Step.Turn m) (record { within = pairs.within; home = pairs.home }) in
    let net : (x : Step) (ps : List Part) → Preds n (begun pt x).view → IsNet ps → (u : Spelled) → spelled (begun pt x) ps ≡ Some u → Preds n u.point.view = λ x ps p is u said. net_preds n ps (begun pt x) u is said p in
    let first : (x : Step) → Preds n (begun pt x).view = λ x. (let k = head_keeps pt x pairs in preds_same n pt.view (after_head pt.view x) k.1 k.2 k.0 h) in
    subst (λ (q : Point). Preds n q.view) g.point (by_outcome (λ x ps. Into n (begun pt x) ps) b pt d g.parts (record {
      round = λ m ps box is. round_into n b pt m ps machines h (turning m) is;
      handles = λ m i is msg ps box there is_. (let (t, front) = front_at n b pt m i is run machines h box in handles_into n b pt m i is t msg ps machines h front there is_);
      hears = λ m i is ps box none is_. (let (t, front) = front_at n b pt m i is run machines h box in subst (IntoOf n (turned pt m)) (ap (rule.hears b pt m i) (sym front.turn.told) ∙ is_) (hears_into n b pt m i is t machines h front));
      ticks = λ m ps is. net (Step.Tick m) ps (first (Step.Tick m)) is;
      delivers = λ a c k ps is. net (Step.Deliver a c k) ps (first (Step.Deliver a c k)) is;
      asks = λ p m. (
          let x = Step.Migrate p m in
          let start = stood x (record { within = pairs.within; home = pairs.home }) in
          by_migrates (Into n (begun pt x)) pt p (tail_into n (begun pt x) (Says Line.Away ∷ []) start (tt, tt)) (tail_into n (begun pt x) (Says (Line.NoChild p) ∷ []) start (tt, tt))
          (λ a here knows. tail_into n (begun pt x) (Owns MessageKind.Migrate p a.at ∷ []) start (tt, tt)));
      calls = λ p m. (
          let x = Step.CallOff p m in
          let start = stood x (record { within = pairs.within; home = pairs.home }) in
          by_calls_off (Into n (begun pt x)) pt m p (tail_into n (begun pt x) (Says (Line.NoCall p) ∷ []) start (tt, tt)) (λ from here come. called_into n (begun pt x) p from start here));
    }) g.is g.rest g.said)
