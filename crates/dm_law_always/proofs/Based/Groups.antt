-- What a turn says of a kernel's own message has what its lines need; so each group keeps what each line keeps.
use Rattle.dm_law_always.proofs.Names.{◌≡◌, ℕ, ◌==◌, Bool, true, false, not, List, [], ◌∷◌, ◌++◌, length, refl, ap, ◌∙◌, sym, subst, Option, None, Some, arith, Pid, MsgId, MessageKind, Stage, Boot, manager, Step, Line, View, Told, Of, Known}
use Rattle.dm_law_always.proofs.Names.{Frozen, Incoming, after_head, Point, moved, Says, Spelled, is_between, is_apart, is_away, is_here, Phase, Moves, knows, receiver_in, to_kernel, sends_on, updates, migrates, group_of, at_record_at}
use Rattle.dm_law_always.proofs.Names.{front_way, Sane, InPhases, calm_phases, due, head_calm, told_some, Rooted, Phased, rooted, moves_away, State, is_server, has_nothing_held, KnownStands, right_true, by_migrates, by_hears, left_parts}
use Rattle.dm_law_always.proofs.Names.{by_net, by_outcome, answers_move, Outcome, calls_off, pulls_piece, TurnsBack, sort_of, inl, inr, by_calls_off, Part, about_same, agrees}
use Rattle.dm_law_always.proofs.Names.{buries, bury_over, is_some, preds_of, turn_off, Ended, Made, Why, OneKernel, begun_state}
use Rattle.dm_law_rule.specs.Rule as rule
use Rattle.dm_law_always.proofs.Sized.{alive_sized}
use Rattle.dm_law_always.proofs.Based.Needs.{Buries, TellsEnd, life_sort, Leaving, Calling, Keeps, Walks, WalksOf, AllLoose, loose_walks, first_walks, said_by, again_rides, begun, begun_sane, outcome_keeps}
use Rattle.dm_law_always.proofs.Based.Rows.{buries_loose, made_server, walks_of, known_alive, turned, resting, round_walks, handles_walks, forwards_walks}

again_walks : (p : Pid) (to : ℕ) (id : MsgId) (ids : List MsgId) (pt : Point) → Leaving pt.view p → Walks pt (sends_on to ids ++ Says (Line.Migration Stage.Left p) ∷ to_kernel MessageKind.Restart id.from.home ∷ [])
again_walks p to id [] pt h = first_walks (Says (Line.Migration Stage.Left p)) (to_kernel MessageKind.Restart id.from.home ∷ []) pt h (λ q. tt, tt)
again_walks p to id (i ∷ is) pt h = (tt, λ next s. again_walks p to id is next (again_rides (λ q. Leaving q.view p) (search arith) pt next i to s h))

leaves_walks : (pt : Point) (id : MsgId) (p : Pid) (ids : List MsgId) (to : ℕ) → pt.view.known pt.view.acting p ≡ Frozen to → Walks pt (left_parts id p ids to)
leaves_walks pt id p ids to known = (
  tt,
  λ next s.
      let v = pt.view in
      let k = said_by pt next (Line.SentOn p (length ids)) s in
      let left : Leaving (moved pt (Line.SentOn p (length ids)) k.kernel).view p = (search (arith, at_record_at)) in
      again_walks p to id ids next (subst (λ (q : Point). Leaving q.view p) k.is left),
)

-- a process of which this kind is due, where it asks for no piece, is not here, and away where it is asked for
pub record Expects (v : View) (p : Pid) (k : MessageKind) : Type 0 where
  pub asked : k ≡ MessageKind.Ask → is_away (v.known v.acting p) ≡ true
  pub off : is_between k ≡ true → pulls_piece (sort_of k) ≡ false → is_here (v.known v.acting p) ≡ false

-- it stays, where it was refused or called off, or it is restarted
turns_off : (v : View) (p : Pid) (k : MessageKind) → Expects v p k → TurnsBack k → is_here (v.known v.acting p) ≡ false
turns_off v p k e (inl kind) = e.off (ap is_between kind) (ap (λ (j : MessageKind). pulls_piece (sort_of j)) kind)
turns_off v p k e (inr kind) = e.off (ap is_between kind) (ap (λ (j : MessageKind). pulls_piece (sort_of j)) kind)

restarts_off : (v : View) (p : Pid) (k : MessageKind) → Expects v p k → k ≡ MessageKind.Restart → is_here (v.known v.acting p) ≡ false
restarts_off v p k e kind = e.off (ap is_between kind) (ap (λ (j : MessageKind). pulls_piece (sort_of j)) kind)

-- at a process or a server
held_own : (pt : Point) (id : MsgId) (t : Told) → pt.view.told id ≡ Some t → has_nothing_held (pt.view.known pt.view.acting t.receiver) ≡ false → (u : Told) → pt.view.told id ≡ Some u → has_nothing_held (pt.view.known pt.view.acting u.receiver) ≡ false
held_own pt id t told held u is = search (arith, pt.view.known, pt.view.acting)

-- what the phases say
not_here : (k : MessageKind) (s d m : ℕ) (o : Option MsgId) (x : Known) → knows (Moves k s d o) m x ≡ true → is_here x ≡ false
not_here k s d m o x h1 = search (arith, moves_away)

asked_away : (s d : ℕ) (o : Option MsgId) (x : Known) (b : Bool) → (s == d) ≡ b → not b ≡ true → knows (Moves MessageKind.Ask s d o) d x ≡ true → is_away x ≡ true
asked_away s d o x b h1 h2 h3 = search arith

moving : (pt : Point) (i : MsgId) (is : List MsgId) (t : Told) (p : Pid) (h : InPhases pt.view) → pt.view.inbox pt.view.acting ≡ i ∷ is → pt.view.told i ≡ Some t → t.about ≡ Of p → rule.is_stale pt pt.view.acting i t.kind p ≡ false → Expects pt.view p t.kind
moving pt i is t p h front told about fresh =
    let v = pt.view in
    let phase : (b : is_between t.kind ≡ true) (none : pulls_piece (sort_of t.kind) ≡ false) → let u = due pt i is t h p front told b about none fresh in (h.of p ≡ Moves u.k u.s u.d (Some i)) × (u.k ≡ t.kind) = λ b none. (let u = due pt i is t h p front told b about none fresh in
    let same : u.p ≡ p = (let f : Of u.p ≡ Of p = sym (ap (λ (y : Told). y.about) u.told) ∙ about in cc) in
    (ap h.of (sym same) ∙ u.phase, sym (ap (λ (y : Told). y.kind) u.told))) in
    record {
      asked = λ e. (let b : is_between t.kind ≡ true = ap is_between e in
          let none : pulls_piece (sort_of t.kind) ≡ false = ap (λ (k : MessageKind). pulls_piece (sort_of k)) e in
          let u = due pt i is t h p front told b about none fresh in
          let f = phase b none in
          let now : h.of p ≡ Moves MessageKind.Ask u.s u.d (Some i) = f.0 ∙ ap (λ (k : MessageKind). Moves k u.s u.d (Some i)) (f.1 ∙ e) in
          let acts : v.acting ≡ u.d = u.acting ∙ ap (λ (k : MessageKind). receiver_in k u.s u.d) (f.1 ∙ e) in
          let apart : not (u.s == u.d) ≡ true = right_true (is_between MessageKind.Ask) (not (u.s == u.d)) (sym (ap is_apart now) ∙ (h.each p).apart) in
          let k : knows (Moves MessageKind.Ask u.s u.d (Some i)) u.d (v.known v.acting p) ≡ true = ap (λ (n : ℕ). knows (Moves MessageKind.Ask u.s u.d (Some i)) n (v.known v.acting p)) (sym acts) ∙ ap (λ (x : Phase). knows x v.acting (v.known v.acting p)) (sym now) ∙ (h.each p).known v.acting in
          asked_away u.s u.d (Some i) (v.known v.acting p) (u.s == u.d) refl apart k);
      off = λ b none. (let u = due pt i is t h p front told b about none fresh in
          let f = phase b none in
          not_here u.k u.s u.d v.acting (Some i) (v.known v.acting p) (ap (λ (x : Phase). knows x v.acting (v.known v.acting p)) (sym f.0) ∙ (h.each p).known v.acting));
    }

-- the message at the front is the one that was told of
pub buries_here : (o : Point) (m : ℕ) (i : MsgId) (t : Told) (p : Pid) → o.view.told i ≡ Some t → Buries o.kernel o.view p → t.about ≡ Of p → TellsEnd (turned o m).kernel (turned o m).view i
buries_here o m i t p told h about u q is of =
    let f : Some t ≡ Some u = sym told ∙ is in
    let same : t ≡ u = cc in
    subst (Buries (turned o m).kernel (turned o m).view) (about_same p q (sym about ∙ ap (λ (x : Told). x.about) same ∙ of)) (record { over = h.over; away = h.away; server = h.server })

-- all that stands where a turn begins
pub record Begins (o : Point) (m : ℕ) : Type 0 where
  pub sane : Sane (turned o m)
  pub phases : InPhases (turned o m).view
  pub known : KnownStands o.kernel o.view
  pub rooted : Rooted o
  pub state : State None (turned o m)
  pub over : (i : MsgId) (is : List MsgId) (t : Told) (p : Pid) → o.view.inbox m ≡ i ∷ is → o.view.told i ≡ Some t → t.about ≡ Of p → t.kind ≡ MessageKind.Bury → Buries o.kernel o.view p

hears_walks : (b : Boot) (o : Point) (m : ℕ) (i : MsgId) (is : List MsgId) (q : Option Told) → Begins o m → o.view.inbox m ≡ i ∷ is → o.view.told i ≡ q → WalksOf (turned o m) (rule.hears b o m i q)
hears_walks b o m i is q h front told = walks_of (turned o m) (rule.hears b o m i q) (λ ps. by_hears (Walks (turned o m)) b o m i q ps (λ t there. (
    let pt = turned o m in
    let found : o.view.told i ≡ Some t = told ∙ there in
    let held : (k : Known) → o.view.known m t.receiver ≡ k → has_nothing_held k ≡ false → Walks pt (Says (Line.Held i) ∷ []) =
    λ k known none. first_walks (Says (Line.Held i)) [] pt (held_own pt i t found (ap has_nothing_held known ∙ none)) tt in
    record {
      buried = λ p about kind. first_walks (Says (Line.Buried i (length (preds_of o m p)))) (buries o m p) pt (buries_here o m i t p found (h.over i is t p front found about kind) about) (buries_loose (preds_of o m p));
      stale = λ p about late. loose_walks (Says (Line.Stale i) ∷ []) pt (λ q. tt, tt);
      told = λ p x about sized due_. (
          let lived = alive_sized o.kernel p x sized in
          let e = moving pt i is t p h.phases front found about due_ in
          record {
            accepted = λ ask. first_walks (Says (Line.Migration Stage.Accepted p)) (to_kernel MessageKind.PullState i.from.home ∷ []) pt (lived, e.asked ask) (λ q. tt, tt);
            lacks = λ slots blocks. loose_walks (Says (Line.Lacks p slots blocks) ∷ to_kernel MessageKind.Refuse i.from.home ∷ []) pt (λ q. tt, (λ q. tt, tt));
            stays = λ kind free. first_walks (Says (Line.Stays p)) [] pt (lived, turns_off pt.view p t.kind e kind) tt;
            stays_asked = λ kind n noted. first_walks (Says (Line.Stays p)) (answers_move n.id Outcome.Stayed) pt (lived, turns_off pt.view p t.kind e kind) (λ q. tt, (λ q. tt, tt));
            restarted_asked = λ kind n noted. first_walks (Says (Line.Migration Stage.Restarted p)) (answers_move n.id Outcome.Done) pt (lived, restarts_off pt.view p t.kind e kind) (λ q. tt, (λ q. tt, tt));
            state = loose_walks (Says (Line.Proto i) ∷ to_kernel MessageKind.State i.from.home ∷ []) pt (λ q. tt, (λ q. tt, tt));
            next_chunk = loose_walks (Says (Line.Proto i) ∷ to_kernel MessageKind.PullState i.from.home ∷ []) pt (λ q. tt, (λ q. tt, tt));
            last_chunk = loose_walks (Says (Line.Migration Stage.StateTaken p) ∷ to_kernel MessageKind.PullBlock i.from.home ∷ []) pt (λ q. tt, (λ q. tt, tt));
            memory = loose_walks (Says (Line.Proto i) ∷ to_kernel MessageKind.Memory i.from.home ∷ []) pt (λ q. tt, (λ q. tt, tt));
            next_block = loose_walks (Says (Line.Proto i) ∷ to_kernel MessageKind.PullBlock i.from.home ∷ []) pt (λ q. tt, (λ q. tt, tt));
            server_chunk = λ server. loose_walks (Says (Line.Migration Stage.StateTaken p) ∷ Says (Line.Migration Stage.MemoryTaken p) ∷ to_kernel MessageKind.AllTaken i.from.home ∷ []) pt (λ q. tt, (λ q. tt, (λ q. tt, tt)));
            last_block = loose_walks (Says (Line.Migration Stage.MemoryTaken p) ∷ to_kernel MessageKind.AllTaken i.from.home ∷ []) pt (λ q. tt, (λ q. tt, tt));
            left = λ ids to leaves. leaves_walks pt i p ids to leaves.known;
            restarted = λ kind free. first_walks (Says (Line.Migration Stage.Restarted p)) [] pt (lived, restarts_off pt.view p t.kind e kind) tt;
          }
          );
      updated = λ kind. loose_walks (updates o i t) pt (λ q. tt, tt);
      updated_none = λ kind at_. loose_walks (Says (Line.Updated i 0) ∷ []) pt (λ q. tt, tt);
      no_move = λ at_. loose_walks (Says (Line.NoMove i) ∷ []) pt (λ q. tt, tt);
      leaving = λ to at_. held (Frozen to) at_.known refl;
      coming = λ from at_. held (Incoming from) at_.known refl;
      forwarded = λ to moves at_. forwards_walks pt o.addresses i t.kind manager to;
      stays_here = λ at_. loose_walks (Says (Line.Here i) ∷ []) pt (λ q. tt, tt);
      frozen = λ to at_. first_walks (Says (Line.Migration Stage.Frozen t.receiver)) (Says (Line.Migration Stage.Asked t.receiver) ∷ to_kernel MessageKind.Ask to ∷ []) pt
          (known_alive o.kernel o.view m t.receiver h.known at_.known, at_.known) (λ q. tt, (λ q. tt, tt));
    }
    )))

migrates_loose : (o : Point) (p : Pid) → AllLoose (migrates o p)
migrates_loose o p = by_migrates AllLoose o p (λ pt. tt, tt) (λ pt. tt, tt) (λ a here knows. (λ pt. tt, tt))

sends_loose : (to : ℕ) (ids : List MsgId) (ps : List Part) → AllLoose ps → AllLoose (sends_on to ids ++ ps)
sends_loose to [] ps h = h
sends_loose to (i ∷ is) ps h = (λ q. tt, sends_loose to is ps h)

calls_walks : (pt : Point) (m : ℕ) (p : Pid) → Walks (begun pt (Step.CallOff p m)) (calls_off pt m p (pt.view.known m p))
calls_walks pt m p =
    let start = begun pt (Step.CallOff p m) in
    by_calls_off (Walks start) pt m p (loose_walks (Says (Line.NoCall p) ∷ []) start (λ q. tt, tt)) (λ from is come. (
    let ids = pt.view.held m p in
    let end = to_kernel MessageKind.CallOff from ∷ [] in
    let calling : Calling start.view p = record { from = from; comes = is } in
    first_walks (Says (Line.Called p (length ids))) (sends_on from ids ++ end) start calling (sends_loose from ids end (λ q. tt, tt))
    ))

-- a message that tells of an end tells of one that has ended: no machine has it
over_away : (s : OneKernel) (v : View) (p : Pid) (y : Why) → KnownStands s v → s.processes p ≡ Some (Ended y) → Made s → Buries s v p
over_away s v p y h over made =
    let server : is_server p ≡ false = made_server s p made (ap is_some over) in
    record { over = ap life_sort over; away = λ n. away_by (v.known n p) (sym (ap (agrees (v.known n p)) over) ∙ h.agree n p server); server = server }
  where
    away_by : (k : Known) → agrees k (Some (Ended y)) ≡ true → is_away k ≡ true
    away_by k e = search arith

pub begins : (o : Point) (m : ℕ) → Phased o → KnownStands o.kernel o.view → Begins o m
begins o m h known = record {
  sane = begun_sane o (Step.Turn m) h.sane;
  phases = calm_phases o.view (after_head o.view (Step.Turn m)) (head_calm o.view (Step.Turn m)) h.phases;
  known = known;
  rooted = rooted o h.sane h.ground;
  state = begun_state o (Step.Turn m) h.state (λ z. turn_off o.view m z) (λ i. refl);
  over = λ i is t p front told about kind. let (y, over) = bury_over o i t p h told kind about in over_away o.kernel o.view p y known over h.sane.sound.made;
}

outcome_walks : (b : Boot) (pt : Point) (d : Step) → Phased pt → KnownStands pt.kernel pt.view → WalksOf (begun pt d) (rule.outcome b pt d)
outcome_walks b pt d h known = walks_of (begun pt d) (rule.outcome b pt d) (λ ps. by_outcome (λ x. Walks (begun pt x)) b pt d ps (record {
  round = λ m xs box e. (
      let s = begins pt m h known in
      subst (WalksOf (turned pt m)) e (round_walks (turned pt m) b pt m (rule.first_runnable pt.kernel (pt.view.queue m) (pt.view.ring m)) (λ p is. resting (turned pt m).view p s.phases (s.rooted.served m p is)))
      );
  handles = λ m i is msg xs box there e. (
      let s = begins pt m h known in
      let (q, way) = front_way (turned pt m) i is s.state box in
      let (t, told) = told_some (pt.view.told i) q (s.state.stands.told i q way) in
      subst (WalksOf (turned pt m)) e (handles_walks b pt m i msg s.sane s.phases s.rooted s.known (record { there = there; told = t; is = told }))
      );
  hears = λ m i is xs box none e. subst (WalksOf (turned pt m)) e (hears_walks b pt m i is (pt.view.told i) (begins pt m h known) box refl);
  ticks = λ m xs net. loose_walks xs (begun pt (Step.Tick m)) ((by_net AllLoose tt (λ l ps net h. ((λ pt. search arith), h)) (λ a b l ps h. (λ pt. tt, h))) xs net);
  delivers = λ a c k xs net. loose_walks xs (begun pt (Step.Deliver a c k)) ((by_net AllLoose tt (λ l ps net h. ((λ pt. search arith), h)) (λ a b l ps h. (λ pt. tt, h))) xs net);
  asks = λ p m. loose_walks (migrates pt p) (begun pt (Step.Migrate p m)) (migrates_loose pt p);
  calls = λ p m. calls_walks pt m p;
}))

-- each group keeps what each of its lines keeps
pub group_keeps : (P : Point → Type 0) (keeps : Keeps P) (b : Boot) (pt : Point) (d : Step) (w : Spelled) → group_of b pt d ≡ Some w → Phased pt → KnownStands pt.kernel pt.view → P pt → P w.point
group_keeps P keeps b pt d w e phased known h = outcome_keeps P keeps b pt d w e (outcome_walks b pt d phased known) phased.sane h
