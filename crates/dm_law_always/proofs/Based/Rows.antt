-- What a turn says of a message of the bag, and of a process that is served, has what its lines need.
use Rattle.dm_law_always.proofs.Names.{◌≡◌, ℕ, ◌+◌, ◌==◌, Bool, true, false, List, [], ◌∷◌, ap, ◌∙◌, sym, subst, if◌then◌else◌, Option, Some, arith, Pid, pid_of, MsgId, MessageKind, Label, Step, Line, plain_kind, PlainMessage, Boot}
use Rattle.dm_law_always.proofs.Names.{first_number, PlainProcess, not_server, alive-is, View, Told, Known, Here, Addresses, Point, moved, Part, Says, Routes, is_away, is_here, Phase, Rests, knows, forwards_on, not_kernels, Sane, InPhases}
use Rattle.dm_law_always.proofs.Names.{rests_here, Rooted, has_nothing_held, Stops, by_round, by_handles, by_forwards, answers_move, leaves_for, Outcome, OneKernel, KnownStands, is_server, ◌++◌, ◌||◌, map, to_kernel, buries, ends_with}
use Rattle.dm_law_always.proofs.Names.{is_some, manager, nat_tests, pid_eq, preds_of, refl, switchboard, Made, is_alive, Stage, Life, agrees}
use Rattle.dm_onekernel.specs.Pieces as pieces
use Rattle.dm_onekernel.specs.Step as kernel
use Rattle.dm_law_rule.specs.Rule as rule
use Rattle.dm_law_always.proofs.Based.Loud.{alive_alike, step_alike}
use Rattle.dm_law_always.proofs.Based.Needs.{Resting, Serves, Unborn, Living, Queues, Walks, WalksOf, AllLoose, loose_walks, first_walks, said_by, begun}

-- the point behind the head of a turn
abbrev pub turned : Point → ℕ → Point
turned o m = begun o (Step.Turn m)

-- what is here rests here
away_of : (m n : ℕ) (k : Known) → (m == n) ≡ false → knows (Rests m) n k ≡ true → is_away k ≡ true
away_of m n k off e = sym (ap (λ (c : Bool). if c then is_here k else is_away k) off) ∙ e

pub resting : (v : View) (p : Pid) → InPhases v → v.known v.acting p ≡ Here → Resting v p
resting v p h here =
    let known = (h.each p).known in
    let is : h.of p ≡ Rests v.acting = rests_here (h.of p) v.acting (sym (ap (knows (h.of p) v.acting) here) ∙ known v.acting) in
    record { here = here; away = λ n off. away_of v.acting n (v.known n p) off (sym (ap (λ (x : Phase). knows x n (v.known n p)) is) ∙ known n) }

-- a living process is no server
pub living : (pt : Point) (p : Pid) (x : PlainProcess) → Sane pt → kernel.alive (pt.kernel.processes p) ≡ Some x → Living pt.kernel p
living pt p x h e = search (arith, pt.kernel.processes, alive-is, not_server, pt.kernel, h.sound.made)

pub made_server : (s : OneKernel) (p : Pid) → Made s → is_some (s.processes p) ≡ true → is_server p ≡ false
made_server s p made some =
    let least = made.least p some in
    let e : pid_eq p switchboard ≡ false = grind (arith, nat_tests) in
    let d : pid_eq p manager ≡ false = grind (arith, nat_tests) in
    ap (λ (c : Bool). c || pid_eq p manager) e ∙ d

pub walks_of : (pt : Point) (x : Option (List Part)) → ((ps : List Part) → x ≡ Some ps → Walks pt ps) → WalksOf pt x
walks_of pt x h1 = search arith

-- a process is served
drops_loose : (ids : List MsgId) (ps : List Part) → AllLoose ps → AllLoose (rule.drop_parts ids ++ ps)
drops_loose [] ps h = h
drops_loose (i ∷ is) ps h = (λ pt. tt, drops_loose is ps h)

pub buries_loose : (ms : List ℕ) → AllLoose (map (to_kernel MessageKind.Bury) ms)
buries_loose [] = tt
buries_loose (m ∷ ms) = (λ pt. tt, buries_loose ms)

-- what follows an end
ends_loose : (o : Point) (m : ℕ) (p : Pid) → AllLoose (ends_with o m p)
ends_loose o m p = drops_loose (o.view.queue m p) (buries o m p) (buries_loose (preds_of o m p))

runs_stops : (pt : Point) (p : Pid) (after : List Part) → AllLoose after → Resting pt.view p → Stops (Walks pt) p after
runs_stops pt p after loose h = record {
  over = tt;
  replies = λ n r. loose_walks (rule.says (Label.Call p n r) ∷ []) pt (λ q. tt, tt);
  sends = λ id. loose_walks (rule.says (Label.Send p id) ∷ Routes id ∷ []) pt (λ q. tt, (λ q. tt, tt));
  waits = loose_walks (rule.says (Label.Wait p) ∷ []) pt (λ q. tt, tt);
  outputs = λ word. loose_walks (rule.says (Label.Out p word) ∷ []) pt (λ q. tt, tt);
  ends = λ y. first_walks (rule.says (Label.End p y)) after pt h loose;
}

pub round_walks : (pt : Point) (b : Boot) (o : Point) (m : ℕ) (q : Option Pid) → ((p : Pid) → q ≡ Some p → Resting pt.view p) → WalksOf pt (rule.goes_round b o m q)
round_walks pt b o m q h = walks_of pt (rule.goes_round b o m q) (λ ps. by_round (Walks pt) b o m q ps (loose_walks (Says (Line.Idle m) ∷ []) pt (λ q. tt, tt)) (λ p x is alive. (
    let rests = h p is in
    record {
      runs = λ k rest stops. (
        rests.here,
        (λ next s.
            let g = said_by pt next (Line.Label (Label.Ran p k)) s in
            let mid = moved pt (Line.Label (Label.Ran p k)) g.kernel in
            subst (λ (z : Point). Walks z rest) g.is (stops (Walks mid) (runs_stops mid p (ends_with o m p) (ends_loose o m p) (record { here = rests.here; away = rests.away })))),
      );
      takes = λ mask id first. first_walks (rule.says (Label.Receive p id)) [] pt rests.here tt;
      refuses = λ id r. first_walks (rule.says (Label.Refuse p id r)) [] pt rests.here tt;
    }
    )))

-- a message of the bag, and what was told of it
pub record Front (pt : Point) (id : MsgId) (msg : PlainMessage) : Type 0 where
  pub there : pt.kernel.bag id ≡ Some msg
  pub told : Told
  pub is : pt.view.told id ≡ Some told

front_for : (pt : Point) (id : MsgId) (msg : PlainMessage) (t : Told) → Sane pt → Front pt id msg → pt.view.told id ≡ Some t → (t.kind ≡ plain_kind msg.what) × (t.receiver ≡ msg.to)
front_for pt id msg t h f told = (h.tells.kind id msg t f.there told, h.tells.receiver id msg t f.there told)

front_serves : (pt : Point) (id : MsgId) (msg : PlainMessage) → Sane pt → InPhases pt.view → Front pt id msg → pt.view.known pt.view.acting msg.to ≡ Here → Serves pt.view id
front_serves pt id msg sane phases f here = search (arith, f.told, f.is, resting, pt.view, f.told.receiver, pt.view.known, pt.view.acting, front_for)

front_queues : (pt : Point) (id : MsgId) (msg : PlainMessage) → Sane pt → Front pt id msg → plain_kind msg.what ≡ MessageKind.User → pt.view.known pt.view.acting msg.to ≡ Here → (t : Told) → pt.view.told id ≡ Some t → Queues pt.view t id
front_queues pt id msg sane f user here t told =
    let k = front_for pt id msg t sane f told in
    record { here = ap (pt.view.known pt.view.acting) k.1 ∙ here; kind = k.0 ∙ user; other = not_kernels sane.r sane.e pt.kernel id msg f.there sane.sound }

front_held : (pt : Point) (id : MsgId) (msg : PlainMessage) → Sane pt → Front pt id msg → has_nothing_held (pt.view.known pt.view.acting msg.to) ≡ false → (t : Told) → pt.view.told id ≡ Some t → has_nothing_held (pt.view.known pt.view.acting t.receiver) ≡ false
front_held pt id msg sane f held t told = ap (λ (q : Pid). has_nothing_held (pt.view.known pt.view.acting q)) (front_for pt id msg t sane f told).1 ∙ held

pub forwards_walks : (pt : Point) (a : Addresses) (id : MsgId) (k : MessageKind) (sender : Pid) (to : ℕ) → Walks pt (forwards_on a id k sender to)
forwards_walks pt a id k sender to = loose_walks (forwards_on a id k sender to) pt (by_forwards AllLoose a id k sender to (λ q. tt, (λ q. tt, tt)) (λ q. tt, (λ q. tt, (λ q. tt, tt))))

routes_loose : (o : Option PlainMessage) → AllLoose (rule.routes o)
routes_loose o = search arith

pub unborn : (o : Point) (m : ℕ) → Rooted o → Unborn (turned o m).view (pid_of m (first_number + o.kernel.made m))
unborn o m h = search (arith, o.kernel.made, h.unborn)

asks_walks : (pt : Point) (p : Pid) (id : MsgId) (to : ℕ) → is_alive pt.kernel p ≡ true → pt.view.known pt.view.acting p ≡ Here → Walks pt (rule.says (Label.Asked id) ∷ leaves_for p to)
asks_walks pt p id to lives here = (
  tt,
  λ next s.
      let l = Line.Label (Label.Asked id) in
      let g = said_by pt next l s in
      let alive : is_alive g.kernel p ≡ true = sym (alive_alike pt.kernel g.kernel p (step_alike pt.kernel g.kernel (Label.Asked id) refl g.step p)) ∙ lives in
      subst (λ (z : Point). Walks z (leaves_for p to)) g.is (first_walks (Says (Line.Migration Stage.Frozen p)) (Says (Line.Migration Stage.Asked p) ∷ to_kernel MessageKind.Ask to ∷ []) (moved pt l g.kernel) (alive, here) (λ q. tt, (λ q. tt, tt))),
)

-- what is here lives, or is a server
here_alive : (o : Option Life) → agrees Here o ≡ true → is_some (kernel.alive o) ≡ true
here_alive o e = search arith

pub known_alive : (s : OneKernel) (v : View) (m : ℕ) (p : Pid) → KnownStands s v → v.known m p ≡ Here → is_alive s p ≡ true
known_alive s v m p h here = by (is_server p) refl
  where
    by : (c : Bool) → is_server p ≡ c → is_alive s p ≡ true
    by true e = ap (λ (c : Bool). c || is_some (kernel.alive (s.processes p))) e
    by false e = ap (λ (c : Bool). c || is_some (kernel.alive (s.processes p))) e ∙ here_alive (s.processes p) (sym (ap (λ (k : Known). agrees k (s.processes p)) here) ∙ h.agree m p e)

pub handles_walks : (b : Boot) (o : Point) (m : ℕ) (id : MsgId) (msg : PlainMessage) → Sane (turned o m) → InPhases (turned o m).view → Rooted o → KnownStands o.kernel o.view → Front (turned o m) id msg → WalksOf (turned o m) (rule.handles b o m id msg)
handles_walks b o m id msg sane phases rooted known f =
    let pt = turned o m in
    let child = pid_of m (first_number + o.kernel.made m) in
    walks_of pt (rule.handles b o m id msg) (λ ps. by_handles (Walks pt) b o m id msg ps (record {
      created = λ fixed. first_walks (rule.says (Label.Created id child)) (Routes (pieces.answer_id id) ∷ []) pt (unborn o m rooted) (λ q. tt, tt);
      no_space = λ fixed slots blocks. loose_walks (rule.says (Label.NoSpace id slots blocks) ∷ Routes (pieces.answer_id id) ∷ []) pt (λ q. tt, (λ q. tt, tt));
      took = λ fixed sent. loose_walks (rule.says (Label.Took id) ∷ rule.routes sent) pt (λ q. tt, routes_loose sent);
      queued = λ to user. first_walks (Says (Line.Queued id)) [] pt (front_queues pt id msg sane f user to.known) tt;
      served = λ to mild. first_walks (rule.says (Label.Served id)) [] pt (front_serves pt id msg sane phases f to.known) tt;
      answers = λ to mild i. first_walks (rule.says (Label.Served id)) (Routes i ∷ []) pt (front_serves pt id msg sane phases f to.known) (λ q. tt, tt);
      kills = λ to kills. first_walks (rule.says (Label.Served id)) (ends_with o m msg.to) pt (front_serves pt id msg sane phases f to.known) (ends_loose o m msg.to);
      moved = λ to what. loose_walks (rule.says (Label.Asked id) ∷ answers_move id Outcome.Done) pt (λ q. tt, (λ q. tt, (λ q. tt, tt)));
      sets_off = λ n to what apart. asks_walks pt msg.to id n (known_alive o.kernel o.view m msg.to known to.known) to.known;
      gone = λ to. loose_walks (rule.says (Label.Gone id) ∷ Routes (pieces.answer_id id) ∷ []) pt (λ q. tt, (λ q. tt, tt));
      dropped = λ to. loose_walks (rule.says (Label.Dropped id) ∷ []) pt (λ q. tt, tt);
      leaving = λ n to. first_walks (Says (Line.Held id)) [] pt (front_held pt id msg sane f (ap has_nothing_held to.known)) tt;
      coming = λ n to. first_walks (Says (Line.Held id)) [] pt (front_held pt id msg sane f (ap has_nothing_held to.known)) tt;
      forwarded = λ n c to. forwards_walks pt o.addresses id (plain_kind msg.what) msg.sender n;
    }))
