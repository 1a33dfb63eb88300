-- The pairs of machines stand, wherever the rule leads.
pub mod Stand
pub mod Moves
pub mod Lines
pub mod Migrating
pub mod Turns
pub mod Comes
use Rattle.dm_law_rule.proofs.Names.{◌≡◌, ℕ, ◌≤◌, ◌==◌, ◌&&◌, Bool, true, false, List, [], ◌∷◌, refl, ap, ◌∙◌, sym, subst, arith, ◌≢◌, slice_get, Some, nat_tests, Boot, bind, Step, Line, at_pair, View, Pair, first_view, marked, Point, SentLoad}
use Rattle.dm_law_rule.proofs.Names.{None, after_line, first_point, Part, Says, Spelled, spelled, outstanding_count, resends, arrives, outcome, behind, group_of, PairStands, HomeStands, IsStep, Leads, PairsStandAlways, migrates, Pid, Option}
use Rattle.dm_law_rule.proofs.Names.{marked_at, calls_off}
use Rattle.dm_law_rule.proofs.Pairs.Stand.{WireStands-at, set_same, set_other, WireStands, WireStands-set}
use Rattle.dm_law_rule.proofs.Pairs.Moves.{Paired, changed, Goes}
use Rattle.dm_law_rule.proofs.Pairs.Lines.{bind-is, line_view, AllFit, keeps}
use Rattle.dm_law_rule.proofs.Pairs.Turns.{turns_fit, resends_fit}
use Rattle.dm_law_rule.proofs.Pairs.Comes.{arrives_keep}
use Rattle.dm_law_rule.proofs.Pairs.Migrating.{migrates_fit, calls_off_fit}

abbrev pub Pairs : View → Type 0
Pairs v = Paired v.pair

pub Pairs-start : (b : Boot) → Pairs (first_view b)
Pairs-start b = search arith

-- on a machine's pair with itself nothing is out, and on others no more was acknowledged than went out
pub acked_out_by : (v : View) (m b : ℕ) (same : Bool) → (m == b) ≡ same → Pairs v → (v.pair m b).acked ≤ (v.pair m b).gone
acked_out_by v m b false e h = let x = h.stand.apart m b e in let y = x.acked in let z = x.taken in omega arith
acked_out_by v m b true e h = grind (arith, nat_tests)

-- the three steps of a group
record Group (b : Boot) (pt : Point) (e : Step) (w : Spelled) : Type 0 where
  parts : List Part
  follows : outcome b pt e ≡ Some parts
  begun : Point
  begins : after_line pt (Line.Head e) ≡ Some begun
  rest : Spelled
  on : spelled begun parts ≡ Some rest
  end : rest.point ≡ w.point

group : (b : Boot) (pt : Point) (e : Step) (w : Spelled) → group_of b pt e ≡ Some w → Group b pt e w
group b pt e w is =
    let (parts, follows, more) = bind-is (outcome b pt e) (λ parts. bind (after_line pt (Line.Head e)) (λ begun. bind (spelled begun parts) (λ w. Some (behind (Line.Head e ∷ []) w)))) w is in
    let (begun, begins, last) = bind-is (after_line pt (Line.Head e)) (λ begun. bind (spelled begun parts) (λ w. Some (behind (Line.Head e ∷ []) w))) w more in
    let (rest, on, all) = bind-is (spelled begun parts) (λ w. Some (behind (Line.Head e ∷ []) w)) w last in
    record { parts = parts; follows = follows; begun = begun; begins = begins; rest = rest; on = on; end = ap (λ (x : Spelled). x.point) (let f : behind (Line.Head e ∷ []) rest ≡ w = cc in f) }

tick_keeps : (b : Boot) (pt : Point) (m : ℕ) (w : Spelled) → Group b pt (Step.Tick m) w → Pairs pt.view → Pairs w.point.view
tick_keeps b pt m w g h =
    let is : g.begun.view.pair ≡ pt.view.pair = ap (λ (v : View). v.pair) (line_view pt g.begun (Line.Head (Step.Tick m)) g.begins) in
    let parts : Says (Line.Resent m (outstanding_count pt.view m pt.kernel.machines)) ∷ resends pt.view m pt.kernel.machines ≡ g.parts = let f = g.follows in cc in
    let fit : AllFit pt.view.pair (Says (Line.Resent m (outstanding_count pt.view m pt.kernel.machines)) ∷ resends pt.view m pt.kernel.machines) =
    (refl, resends_fit pt.view m pt.kernel.machines (λ n. acked_out_by pt.view m n (m == n) refl h)) in
    subst (λ (q : Point). Pairs q.view) g.end (keeps g.parts g.begun g.rest (subst (λ (f : ℕ → ℕ → Pair). AllFit f g.parts) (sym is) (subst (AllFit pt.view.pair) parts fit)) (subst Paired (sym is) h) g.on)

-- a delivery marks a packet
deliver_keeps : (b : Boot) (pt : Point) (a c k : ℕ) (w : Spelled) → a ≢ c → Group b pt (Step.Deliver a c k) w → Pairs pt.view → Pairs w.point.view
deliver_keeps b pt a c k w apart g h =
    let ac : (a == c) ≡ false = grind (arith, nat_tests) in
    let ca : (c == a) ≡ false = grind (arith, nat_tests) in
    let f = pt.view.pair in
    let is : g.begun.view.pair ≡ at_pair f a c (marked (f a c) k) = ap (λ (v : View). v.pair) (line_view pt g.begun (Line.Head (Step.Deliver a c k)) g.begins) in
    let WireStands-marked : (g b : ℕ) (ss : List SentLoad) (k : ℕ) (o : Option SentLoad) → slice_get ss k ≡ o → WireStands g b ss → WireStands g b (marked_at ss k o) =
    λ g b ss k o e h. (elim o as (λ o_. slice_get ss k ≡ o_ → WireStands g b (marked_at ss k o_)) [ None ↦ λ e'. h | Some s' ↦ λ e'. WireStands-set g b ss k (record s' { delivered = true }) (WireStands-at g b ss k s' e' h) h ]) e in
    let goes : Goes f (at_pair f a c (marked (f a c) k)) = search (arith, changed, WireStands-marked) in
    let there : g.begun.view.pair a c ≡ marked (f a c) k = ap (λ (p : ℕ → ℕ → Pair). p a c) is ∙ set_same f a c (marked (f a c) k) in
    let back : g.begun.view.pair c a ≡ f c a = ap (λ (p : ℕ → ℕ → Pair). p c a) is ∙ set_other f a c (marked (f a c) k) c a (let off : ((a == c) && (c == a)) ≡ false = grind (arith, nat_tests) in off) in
    let parts : arrives a c (f a c) (f c a) (slice_get (f a c).wire k) ≡ g.parts = let x = g.follows in cc in
    let on : spelled g.begun (arrives a c (f a c) (f c a) (slice_get (f a c).wire k)) ≡ Some g.rest = ap (spelled g.begun) parts ∙ g.on in
    subst (λ (q : Point). Pairs q.view) g.end (arrives_keep g.begun a c k (f a c) (f c a) (slice_get (f a c).wire k) g.rest refl ac ca there back (h.stand.apart a c ac) (subst Paired (sym is) goes.paired) on)

migrate_keeps : (b : Boot) (pt : Point) (p : Pid) (m : ℕ) (w : Spelled) → Group b pt (Step.Migrate p m) w → Pairs pt.view → Pairs w.point.view
migrate_keeps b pt p m w g h =
    let is : g.begun.view.pair ≡ pt.view.pair = ap (λ (v : View). v.pair) (line_view pt g.begun (Line.Head (Step.Migrate p m)) g.begins) in
    let parts : migrates pt p ≡ g.parts = let f = g.follows in cc in
    subst (λ (q : Point). Pairs q.view) g.end (keeps g.parts g.begun g.rest (subst (AllFit g.begun.view.pair) parts (migrates_fit g.begun.view.pair pt p)) (subst Paired (sym is) h) g.on)

calls_off_keeps : (b : Boot) (pt : Point) (p : Pid) (m : ℕ) (w : Spelled) → Group b pt (Step.CallOff p m) w → Pairs pt.view → Pairs w.point.view
calls_off_keeps b pt p m w g h =
    let is : g.begun.view.pair ≡ pt.view.pair = ap (λ (v : View). v.pair) (line_view pt g.begun (Line.Head (Step.CallOff p m)) g.begins) in
    let parts : calls_off pt m p (pt.view.known m p) ≡ g.parts = let f = g.follows in cc in
    subst (λ (q : Point). Pairs q.view) g.end (keeps g.parts g.begun g.rest (subst (AllFit g.begun.view.pair) parts (calls_off_fit g.begun.view.pair pt m p)) (subst Paired (sym is) h) g.on)

pub Pairs-group : (b : Boot) (pt : Point) (e : Step) (w : Spelled) → IsStep pt.kernel.machines e → group_of b pt e ≡ Some w → Pairs pt.view → Pairs w.point.view
Pairs-group b pt (Step.Turn m) w fits is h =
    let turn_keeps : (b : Boot) (pt : Point) (m : ℕ) (w : Spelled) → Group b pt (Step.Turn m) w → Pairs pt.view → Pairs w.point.view = λ b pt m w g h.
    let is : g.begun.view.pair ≡ pt.view.pair = ap (λ (v : View). v.pair) (line_view pt g.begun (Line.Head (Step.Turn m)) g.begins) in
    subst (λ (q : Point). Pairs q.view) g.end (keeps g.parts g.begun g.rest (turns_fit g.begun.view.pair b pt m (pt.view.inbox m) g.parts g.follows) (subst Paired (sym is) h) g.on) in
    turn_keeps b pt m w (group b pt (Step.Turn m) w is) h
Pairs-group b pt (Step.Tick m) w fits is h = tick_keeps b pt m w (group b pt (Step.Tick m) w is) h
Pairs-group b pt (Step.Deliver a c k) w fits is h = deliver_keeps b pt a c k w fits.2 (group b pt (Step.Deliver a c k) w is) h
Pairs-group b pt (Step.Migrate p m) w fits is h = migrate_keeps b pt p m w (group b pt (Step.Migrate p m) w is) h
Pairs-group b pt (Step.CallOff p m) w fits is h = calls_off_keeps b pt p m w (group b pt (Step.CallOff p m) w is) h

Pairs-on : (b : Boot) (es : List Step) (pt end : Point) → Leads b pt es end → Pairs pt.view → Pairs end.view
Pairs-on b [] pt end leads h = subst (λ (q : Point). Pairs q.view) leads h
Pairs-on b (e ∷ es) pt end (w, fits, is, rest) h = Pairs-on b es w.point end rest (Pairs-group b pt e w fits is h)

-- wherever the rule leads
pub Pairs-always : (b : Boot) (es : List Step) (pt : Point) → Leads b (first_point b) es pt → Pairs pt.view
Pairs-always b es pt leads = Pairs-on b es (first_point b) pt leads (Pairs-start b)

pub pair_stands : (v : View) (a b : ℕ) → a ≢ b → Pairs v → PairStands (v.pair a b) (v.pair b a)
pair_stands v a b apart h = search (arith, WireStands-at)

pub pair_home : (v : View) (a : ℕ) → Pairs v → HomeStands (v.pair a a)
pair_home v a h = h.stand.home a

pub pairs_stand_always : PairsStandAlways
pairs_stand_always b es pt m n leads apart = let h : Pairs pt.view = Pairs-always b es pt leads in (pair_stands pt.view m n apart h, pair_home pt.view m h)
