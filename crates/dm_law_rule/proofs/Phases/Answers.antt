-- The message about a process that moves is handled, and the next one is put.
use Rattle.dm_law_rule.proofs.Names.{◌≡◌, ◌⊎◌, ℕ, ◌≤◌, ◌==◌, ◌&&◌, Bool, true, false, not, List, [], ◌∷◌, refl, ap, ◌∙◌, sym, subst, inl, inr, arith, if◌then◌else◌, Option, None, Some, cases_Bool, false≢true, Pid, pid_of, pid_eq, MsgId}
use Rattle.dm_law_rule.proofs.Names.{MessageKind, id_eq, Line, Load, View, Told, Of, view_after, handled_first, own_id, Point, label_of, moved, Says, Owns, Spelled, spelled, Spot, Inbox, Untaken, times, ids_at, standing, StandsNowhere}
use Rattle.dm_law_rule.proofs.Names.{StandsAsBag, is_between, is_apart, Phase, Moves, knows, token_in, sender_in, receiver_in, told_between, id_eq-is, id_eq-same, pid_eq-same, both_true, sort_of, and_parts, eqb-true, false_from_ne_true, IsIn}
use Rattle.dm_law_rule.proofs.Names.{IsLeft, Asks, Comes, ComesIn, is_calloff, Known, Incoming, is_stale, is_waited_from, pulls_piece, brings_piece}
use Rattle.dm_law_rule.proofs.Standing.{StandsAsBag-once}
use Rattle.dm_law_rule.proofs.Lines.{Bag, hidden, Stands-handled}
use Rattle.dm_law_rule.proofs.Letters.{letters}
use Rattle.dm_law_rule.proofs.Hushed.{is_put, hushed}
use Rattle.dm_law_rule.proofs.Pairs.Lines.{touches, pair_same}
use Rattle.dm_law_rule.proofs.States.{State, PairsFit, by_packet, puts_next, said}
use Rattle.dm_law_rule.proofs.Said.{fits_as}
use Rattle.dm_law_rule.proofs.Seen.{seen_none}
use Rattle.dm_law_rule.proofs.Moves.Lists.{first_off}
use Rattle.dm_law_rule.proofs.Moves.States.{by_own_put, front_one}
use Rattle.dm_law_rule.proofs.Moves.Sent.{line_next, fits_put, fits_packet}
use Rattle.dm_law_rule.proofs.Phases.Lines.{handled_spots, packet_calm}
use Rattle.dm_law_rule.proofs.Lines.{eq_self}
use Rattle.dm_law_rule.proofs.Phases.Stand.{PhasesBut, InPhases, none_only, calm_phases, token_is, Token, LeftOver, token_at, Learns, learns_phases, LeavesOver, quiet_left, calls_in, Gone, gone_phases, left_apart, phase_of, piece_ways, piece_awaited}
use Rattle.dm_law_rule.proofs.Phases.Put.{own_put_phases, left_put_phases, put_there, put_spot, of_same}
pub use Rattle.dm_line.proofs.Below.{right_true as second}
pub use Rattle.dm_law_rule.proofs.Phases.Put.{of_same as about_same}

-- what stands between the lines of a group
pub record WholeBut (o : Option Pid) (pt : Point) : Type 0 where
  pub state : State None pt
  pub fits : PairsFit pt.view
  pub phases : PhasesBut o pt.view

abbrev pub Whole : Point → Type 0
Whole pt = WholeBut None pt

-- a put at the group's end, and its packet
put_ends : (pt : Point) (k : MessageKind) (b : ℕ) (w : Spelled) → Whole (moved pt (Line.Put pt.view.acting b (own_id pt.view) k (pid_of b 0)) pt.kernel) → spelled pt (Owns k (pid_of b 0) b ∷ []) ≡ Some w → Whole w.point
put_ends pt k b w whole e =
    let whole_packet : (q : Point) (a b k : ℕ) (l : Load) → Whole q → Whole (moved q (Line.Packet a b k l) q.kernel) =
    λ q a b k l h. record { state = by_packet None q a b k l h.state; fits = fits_packet q.view a b k l h.fits; phases = calm_phases q.view (view_after q.view (Line.Packet a b k l)) (packet_calm q.view a b k l) h.phases } in
    let n = puts_next Whole whole_packet pt (Owns k (pid_of b 0) b) b (own_id pt.view) k (pid_of b 0) [] w refl whole e in
    subst Whole n.point (subst Whole (said n.next n.rest n.more) n.stands)

-- the next message is put at the group's end
pub owns_whole : (pt : Point) (p : Pid) (k : MessageKind) (s d b : ℕ) (w : Spelled) (h : WholeBut (Some p) pt) → h.phases.of p ≡ Moves k s d None → pt.view.topic ≡ Of p → pt.view.acting ≡ sender_in k s d → b ≡ receiver_in k s d
    → spelled pt (Owns k (pid_of b 0) b ∷ []) ≡ Some w → Whole w.point
owns_whole pt p k s d b w h phase topic acting to e =
    let v = pt.view in
    let c = receiver_in k s d in
    let next = moved pt (Line.Put v.acting c (own_id v) k (pid_of c 0)) pt.kernel in
    let there : State None next = by_own_put pt c k (pid_of c 0) h.fits h.state in
    let untold : v.told (own_id v) ≡ None = h.state.numbered v.acting (v.count v.acting) (omega arith) in
    let once = StandsAsBag-once (letters there.own next.kernel.bag (own_id v)) (standing next.view (own_id v)) (put_spot v.acting c) (put_there v v.acting c (own_id v) k (pid_of c 0) h.fits) (there.stands.kept (own_id v)) in
    let whole : Whole next = record { state = there; fits = fits_put v v.acting c (own_id v) k (pid_of c 0) h.fits; phases = own_put_phases v p k s d h.phases h.fits h.state.numbered phase topic acting untold once } in
    put_ends pt k c w whole (ap (λ (m : ℕ). spelled pt (Owns k (pid_of m 0) m ∷ [])) (sym to) ∙ e)

-- the message at the front of the inbox is the one about its process
pub record Due (pt : Point) (i : MsgId) (t : Told) (h : InPhases pt.view) : Type 0 where
  pub p : Pid
  pub k : MessageKind
  pub s : ℕ
  pub d : ℕ
  pub phase : h.of p ≡ Moves k s d (Some i)
  pub told : t ≡ told_between p k s d
  pub acting : pt.view.acting ≡ receiver_in k s d
  pub from : i.from ≡ pid_of (sender_in k s d) 0

pub inbox_is : (m from to : ℕ) → (Inbox m ≡ Inbox to) ⊎ (Inbox m ≡ Untaken from to) → m ≡ to
inbox_is m from to e = elim e [ inl x ↦ cc | inr x ↦ cc ]

-- or is left over
pub record Remains (pt : Point) (i : MsgId) (t : Told) (h : InPhases pt.view) : Type 0 where
  pub p : Pid
  pub about : t.about ≡ Of p
  pub left : IsLeft pt.view p (h.of p) i t

pub due_or_left : (pt : Point) (i : MsgId) (is : List MsgId) (t : Told) (h : InPhases pt.view) → pt.view.inbox pt.view.acting ≡ i ∷ is → pt.view.told i ≡ Some t → is_between t.kind ≡ true → Due pt i t h ⊎ Remains pt i t h
due_or_left pt i is t h front told b =
    let v = pt.view in
    let one = front_one v v.acting i is front in
    let (p, about, which) = token_is v h i t (Inbox v.acting) told b one in
    elim which [
      | Token k s d phase ↦
          (let token = token_at v p (h.of p) k s d i phase (h.each p) in
          let same : t ≡ told_between p k s d = (let f : Some t ≡ Some (told_between p k s d) = sym told ∙ token.told in cc) in
          inl (record { p = p; k = k; s = s; d = d; phase = phase; told = same; acting = inbox_is v.acting (sender_in k s d) (receiver_in k s d) (token.ways (Inbox v.acting) one); from = token.from }))
      | LeftOver left ↦ inr (record { p = p; about = about; left = left })
    ]

-- the machine from which a process is awaited
pub waited_is : (from : ℕ) (y : Known) → is_waited_from from y ≡ true → y ≡ Incoming from
waited_is from (Incoming m) e = ap Incoming (sym (eqb-true from m e))
waited_is from _ e = absurd (false≢true e)

pub brings_between : (k : MessageKind) → brings_piece (sort_of k) ≡ true → is_between k ≡ true
brings_between MessageKind.State e = refl
brings_between MessageKind.Memory e = refl
brings_between _ e = absurd (false≢true e)

-- a piece that is left over isn't awaited
piece_stale : (v : View) (p : Pid) (phase : Phase) (i : MsgId) (is : List MsgId) (t : Told) → v.inbox v.acting ≡ i ∷ is → IsLeft v p phase i t → pulls_piece (sort_of t.kind) ≡ false → brings_piece (sort_of t.kind) ≡ true × (is_waited_from i.from.home (v.known v.acting p) ≡ false)
piece_stale v p phase i is t front (Asks s d j pulls say way then_ first) none = absurd (false≢true (sym none ∙ pulls))
piece_stale v p phase i is t front (Comes s d brings say way off first) none =
    let at : v.acting ≡ d = inbox_is v.acting s d (way.ways (Inbox v.acting) (front_one v v.acting i is front)) in (
      brings,
      false_from_ne_true (is_waited_from i.from.home (v.known v.acting p)) (λ e. off (ap (λ (m : ℕ). v.known m p) (sym at) ∙ waited_is i.from.home (v.known v.acting p) e ∙ ap (λ (q : Pid). Incoming q.home) way.sender)),
    )

-- what asks for no piece, and is no stale one, is the one about its process
pub due : (pt : Point) (i : MsgId) (is : List MsgId) (t : Told) (h : InPhases pt.view) (p : Pid) → pt.view.inbox pt.view.acting ≡ i ∷ is → pt.view.told i ≡ Some t → is_between t.kind ≡ true → t.about ≡ Of p → pulls_piece (sort_of t.kind) ≡ false
    → is_stale pt pt.view.acting i t.kind p ≡ false → Due pt i t h
due pt i is t h p front told b about none fresh = elim (due_or_left pt i is t h front told b) [
  | inl u ↦ u
  | inr r ↦
      let same : r.p ≡ p = of_same r.p p (sym r.about ∙ about) in
      let (brings, off) = piece_stale pt.view r.p (h.of r.p) i is t front r.left none in
      let off_ : is_waited_from i.from.home (pt.view.known pt.view.acting p) ≡ false = subst (λ (q : Pid). is_waited_from i.from.home (pt.view.known pt.view.acting q) ≡ false) same off in
      absurd (false≢true (sym fresh ∙ both_true (brings_piece (sort_of t.kind)) (not (is_waited_from i.from.home (pt.view.known pt.view.acting p))) brings (ap not off_)))
]

-- a stale piece is left over
pub stale_left : (pt : Point) (i : MsgId) (is : List MsgId) (t : Told) (h : InPhases pt.view) (p : Pid) → pt.view.inbox pt.view.acting ≡ i ∷ is → pt.view.told i ≡ Some t → t.about ≡ Of p → is_stale pt pt.view.acting i t.kind p ≡ true → Remains pt i t h
stale_left pt i is t h p front told about stale =
    let v = pt.view in
    let both = and_parts (brings_piece (sort_of t.kind)) (not (is_waited_from i.from.home (v.known v.acting p))) stale in
    elim (due_or_left pt i is t h front told (brings_between t.kind both.0)) [
      | inl u ↦
          let kind_is : t.kind ≡ u.k = ap (λ (y : Told). y.kind) u.told in
          let same : u.p ≡ p = of_same u.p p (sym (ap (λ (y : Told). y.about) u.told) ∙ about) in
          let brings : brings_piece (sort_of u.k) ≡ true = ap (λ (k : MessageKind). brings_piece (sort_of k)) (sym kind_is) ∙ both.0 in
          let ends = piece_ways u.k u.s u.d brings in
          let known : v.known v.acting p ≡ Incoming u.s =
          subst (λ (q : Pid). v.known v.acting q ≡ Incoming u.s) same (subst (λ (m : ℕ). v.known m u.p ≡ Incoming u.s) (sym (u.acting ∙ ends.1)) (piece_awaited v u.p u.k u.s u.d (Some i) (subst (λ (x : Phase). IsIn v u.p x) u.phase (h.each u.p)) brings)) in
          let from : i.from.home ≡ u.s = ap (λ (q : Pid). q.home) u.from ∙ ends.0 in
          let waited : is_waited_from i.from.home (v.known v.acting p) ≡ true = ap (is_waited_from i.from.home) known ∙ ap (λ (m : ℕ). m == u.s) from ∙ eq_self u.s in
          absurd (false≢true (sym (ap not waited) ∙ both.1))
      | inr r ↦ r
    ]

-- and is no process's token
pub remains_apart : (pt : Point) (i : MsgId) (t : Told) (h : InPhases pt.view) → pt.view.told i ≡ Some t → Remains pt i t h → (q : Pid) → token_in (h.of q) ≡ Some i → ⊥
remains_apart pt i t h told r q mine =
    let v = pt.view in
    let (k, s, d, is) = phase_of (h.of q) i mine in
    let token = token_at v q (h.of q) k s d i is (h.each q) in
    let same : r.p ≡ q = of_same r.p q (sym r.about ∙ (let f : Some t ≡ Some (told_between q k s d) = sym told ∙ token.told in let g : t ≡ told_between q k s d = cc in ap (λ (y : Told). y.about) g)) in
    left_apart v q (h.of q) i t (h.each q) told (subst (λ (x : Pid). IsLeft v x (h.of x) i t) same r.left) mine

-- it goes, and nothing else
pub nowhere_of : (bag : Bag) (i : MsgId) (f : Spot → ℕ) → StandsAsBag (hidden (Some i) bag i) f → StandsNowhere f
nowhere_of bag i f h = subst (λ (o : Option Pid). StandsAsBag o f) (ap (λ (c : Bool). if c then None else bag i) (id_eq-same i)) h

pub front_gone : (pt : Point) (l : Line) (i : MsgId) (is : List MsgId) (h : State None pt) → is_put l ≡ false → pt.view.inbox pt.view.acting ≡ i ∷ is → ((z : Spot) → ids_at (view_after pt.view l) z ≡ ids_at (handled_first pt.view) z) → (z : Spot) → standing (view_after pt.view l) i z ≡ 0
front_gone pt l i is h quiet front off =
    let bag = letters h.own pt.kernel.bag in
    nowhere_of bag i (standing (view_after pt.view l) i)
    ((Stands-handled bag pt.view (view_after pt.view l) i is front (λ z. off z ∙ first_off pt.view i is front z) (λ j. ap (λ (f : MsgId → Option Told). f j) (hushed pt.view l quiet).told) h.stands).kept i)

pub first_learns : (pt : Point) (l : Line) (i : MsgId) (is : List MsgId) (t : Told) (p : Pid) (h : State None pt) → is_put l ≡ false → pt.view.inbox pt.view.acting ≡ i ∷ is → pt.view.told i ≡ Some t → (is_between t.kind ≡ true → t.about ≡ Of p)
    → ((z : Spot) → ids_at (view_after pt.view l) z ≡ ids_at (handled_first pt.view) z) → ((m : ℕ) (q : Pid) → pid_eq p q ≡ false → (view_after pt.view l).known m q ≡ pt.view.known m q)
    → ((q : Pid) → pid_eq p q ≡ false → (view_after pt.view l).come q ≡ pt.view.come q) → Learns pt.view (view_after pt.view l) p
first_learns pt l i is t p h quiet front told about off known come =
    let w = view_after pt.view l in
    let same : (j : MsgId) → w.told j ≡ pt.view.told j = λ j. ap (λ (f : MsgId → Option Told). f j) (hushed pt.view l quiet).told in
    record {
      calm = known;
      come = come;
      fresh = λ j u e b. sym (same j) ∙ e;
      kept = λ j u e. same j ∙ e;
      back = λ j u e b z st. elim (cases_Bool (id_eq i j)) [
        | inl is_i ↦ absurd (let none : standing w j z ≡ 0 = subst (λ (x : MsgId). standing w x z ≡ 0) (id_eq-is i j is_i) (front_gone pt l i is h quiet front off z) in omega (arith, st, none))
        | inr apart ↦ inl (subst (λ n. 1 ≤ n) (ap (times j) (off z ∙ first_off pt.view i is front z) ∙ handled_spots pt.view i j apart z) st)
      ];
      on = λ j u q apart e b ab z st. elim (cases_Bool (id_eq i j)) [
        | inl is_i ↦ absurd (
            let f : Some t ≡ Some u = sym told ∙ ap pt.view.told (id_eq-is i j is_i) ∙ e in
            let g : t ≡ u = cc in
            false≢true (sym apart ∙ ap (pid_eq p) (sym (of_same p q (sym (about (ap (λ (x : Told). is_between x.kind) g ∙ b)) ∙ ap (λ (x : Told). x.about) g ∙ ab))) ∙ pid_eq-same p))
        | inr off_i ↦ (z, subst (λ n. 1 ≤ n) (sym (ap (times j) (off z ∙ first_off pt.view i is front z) ∙ handled_spots pt.view i j off_i z)) st)
      ];
    }

pub token_one : (phase : Phase) (k : MessageKind) (s d : ℕ) (i j : MsgId) → phase ≡ Moves k s d (Some i) → token_in phase ≡ Some j → i ≡ j
token_one phase k s d i j e f = let g : Some i ≡ Some j = sym (ap token_in e) ∙ f in cc

-- its token is gone, and no machine awaits the process that didn't before
pub answer_left : (pt : Point) (l : Line) (i : MsgId) (is : List MsgId) (t : Told) (h : Whole pt) (u : Due pt i t h.phases) (next : Phase) → token_in next ≡ None → is_calloff u.k ≡ false → is_put l ≡ false → pt.view.inbox pt.view.acting ≡ i ∷ is
    → ((z : Spot) → ids_at (view_after pt.view l) z ≡ ids_at (handled_first pt.view) z) → ((m s : ℕ) → (view_after pt.view l).known m u.p ≡ Incoming s → pt.view.known m u.p ≡ Incoming s) → LeavesOver pt.view (view_after pt.view l) u.p (h.phases.of u.p) next
answer_left pt l i is t h u next none kept quiet front off known =
    quiet_left pt.view (view_after pt.view l) u.p (h.phases.of u.p) next none (ap calls_in u.phase ∙ kept) known
    (λ j x z. subst (λ (y : MsgId). standing (view_after pt.view l) y z ≡ 0) (token_one (h.phases.of u.p) u.k u.s u.d i j u.phase x) (front_gone pt l i is h.state quiet front off z))

-- a line handles it, and the next message about the process is put
pub answer_row : (pt : Point) (l : Line) (i : MsgId) (is : List MsgId) (t : Told) (k : MessageKind) (b : ℕ) (w : Spelled) (h : Whole pt) (u : Due pt i t h.phases) → label_of l ≡ None → is_put l ≡ false → touches l ≡ false
    → pt.view.inbox pt.view.acting ≡ i ∷ is → pt.view.told i ≡ Some t → State None (moved pt l pt.kernel) → ((z : Spot) → ids_at (view_after pt.view l) z ≡ ids_at (handled_first pt.view) z)
    → ((m : ℕ) (q : Pid) → pid_eq u.p q ≡ false → (view_after pt.view l).known m q ≡ pt.view.known m q) → ((m : ℕ) → knows (Moves k u.s u.d None) m ((view_after pt.view l).known m u.p) ≡ true)
    → ((q : Pid) → pid_eq u.p q ≡ false → (view_after pt.view l).come q ≡ pt.view.come q) → ComesIn (Moves k u.s u.d None) ((view_after pt.view l).come u.p) → LeavesOver pt.view (view_after pt.view l) u.p (h.phases.of u.p) (Moves k u.s u.d None) → is_between k ≡ true
    → (view_after pt.view l).topic ≡ Of u.p → (view_after pt.view l).acting ≡ pt.view.acting → receiver_in u.k u.s u.d ≡ sender_in k u.s u.d → b ≡ receiver_in k u.s u.d
    → spelled pt (Says l ∷ Owns k (pid_of b 0) b ∷ []) ≡ Some w → Whole w.point
answer_row pt l i is t k b w h u none quiet calm front told there off others known kept come left between topic acting turn to e =
    let v = pt.view in
    let n = line_next pt l (Owns k (pid_of b 0) b ∷ []) w none e in
    let next = moved pt l pt.kernel in
    let same : next.view ≡ view_after v l = seen_none pt.kernel v l none in
    let learns = subst (λ (x : View). Learns v x u.p) (sym same) (first_learns pt l i is t u.p h.state quiet front told (λ x. ap (λ (y : Told). y.about) u.told) off others kept) in
    let was : (is_between u.k && not (u.s == u.d)) ≡ true = sym (ap is_apart u.phase) ∙ (h.phases.each u.p).apart in
    let turned = learns_phases v next.view u.p (Moves k u.s u.d None) h.phases (none_only u.p) learns refl (both_true (is_between k) (not (u.s == u.d)) between (second (is_between u.k) (not (u.s == u.d)) was)) known come
    (subst (λ (x : View). LeavesOver v x u.p (h.phases.of u.p) (Moves k u.s u.d None)) (sym same) left) in
    let whole : WholeBut (Some u.p) next = record { state = there; fits = fits_as v next.view (pair_same v l calm) h.fits; phases = turned.phases } in
    subst Whole n.point (owns_whole next u.p k u.s u.d b n.rest whole turned.now (ap (λ (x : View). x.topic) same ∙ topic) (acting ∙ u.acting ∙ turn) to n.more)

-- a message that is left over goes by this line
pub first_gone : (pt : Point) (l : Line) (i : MsgId) (is : List MsgId) → State None pt → is_put l ≡ false → pt.view.inbox pt.view.acting ≡ i ∷ is → ((z : Spot) → ids_at (view_after pt.view l) z ≡ ids_at (handled_first pt.view) z) → (view_after pt.view l).known ≡ pt.view.known
    → (view_after pt.view l).come ≡ pt.view.come → Gone pt.view (view_after pt.view l) i
first_gone pt l i is h quiet front off known come = record {
  known = known;
  come = come;
  told = (hushed pt.view l quiet).told;
  spots = λ j apart z. ap (times j) (off z ∙ first_off pt.view i is front z) ∙ handled_spots pt.view i j apart z;
  nowhere = λ z. front_gone pt l i is h quiet front off z;
}

pub record SameWhole (pt next : Point) (h : Whole pt) : Type 0 where
  pub whole : Whole next
  pub same : (p : Pid) → whole.phases.of p ≡ h.phases.of p

pub remains_whole : (pt : Point) (l : Line) (i : MsgId) (is : List MsgId) (t : Told) (h : Whole pt) → Remains pt i t h.phases → label_of l ≡ None → is_put l ≡ false → touches l ≡ false → pt.view.inbox pt.view.acting ≡ i ∷ is → pt.view.told i ≡ Some t → State None (moved pt l pt.kernel)
    → ((z : Spot) → ids_at (view_after pt.view l) z ≡ ids_at (handled_first pt.view) z) → (view_after pt.view l).known ≡ pt.view.known → (view_after pt.view l).come ≡ pt.view.come → SameWhole pt (moved pt l pt.kernel) h
remains_whole pt l i is t h r none quiet calm front told there off known come =
    let v = pt.view in
    let next = moved pt l pt.kernel in
    let same : next.view ≡ view_after v l = seen_none pt.kernel v l none in
    let gone : Gone v next.view i = subst (λ (x : View). Gone v x i) (sym same) (first_gone pt l i is h.state quiet front off known come) in
    let same_ = gone_phases v next.view i h.phases gone (λ q. remains_apart pt i t h.phases told r q) in
    record { whole = record { state = there; fits = fits_as v next.view (pair_same v l calm) h.fits; phases = same_.phases }; same = same_.same }

-- and a piece that is left over is put
pub left_whole : (pt : Point) (p : Pid) (k : MessageKind) (s d b : ℕ) (o : Option MsgId) (w : Spelled) (h : Whole pt) → brings_piece (sort_of k) ≡ true → h.phases.of p ≡ Moves MessageKind.CallOff s d o → pt.view.topic ≡ Of p → pt.view.acting ≡ s → b ≡ d → spelled pt (Owns k (pid_of b 0) b ∷ []) ≡ Some w
    → Whole w.point
left_whole pt p k s d b o w h brings phase topic acting to e =
    let v = pt.view in
    let next = moved pt (Line.Put v.acting d (own_id v) k (pid_of d 0)) pt.kernel in
    let there : State None next = by_own_put pt d k (pid_of d 0) h.fits h.state in
    let untold : v.told (own_id v) ≡ None = h.state.numbered v.acting (v.count v.acting) (omega arith) in
    let once = StandsAsBag-once (letters there.own next.kernel.bag (own_id v)) (standing next.view (own_id v)) (put_spot v.acting d) (put_there v v.acting d (own_id v) k (pid_of d 0) h.fits) (there.stands.kept (own_id v)) in
    let whole : Whole next = record { state = there; fits = fits_put v v.acting d (own_id v) k (pid_of d 0) h.fits; phases = left_put_phases v p k s d o h.phases h.fits brings phase topic acting untold once } in
    put_ends pt k d w whole (ap (λ (m : ℕ). spelled pt (Owns k (pid_of m 0) m ∷ [])) (sym to) ∙ e)
