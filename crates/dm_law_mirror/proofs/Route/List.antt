-- Messages that are routed one after the other: the machine and the rule go on to the end, or stop at the first full pair.
use Rattle.dm_law_mirror.proofs.Names.{◌≡◌, ℕ, ◌+◌, ◌<◌, ◌≤◌, ◌==◌, Bool, false, List, [], ◌∷◌, ◌++◌, length, map, refl, ap, ◌∙◌, sym, subst, inl, inr, ◌⊎◌, arith, ⊤, nat_le, if◌then◌else◌, Some, eq-eqb, Pid, Message, MsgId, IsLawfulMessage}
use Rattle.dm_law_mirror.proofs.Names.{Boot, OneKernel, Line, Stage, Out, Spelled, goes_out, spelled, Point, after, moved, Spot, Inbox, Untaken, standing, Pair, worn_in, put_spot, PairsFit, Sane, Sayable, part_sane, machine_of, NodeState, acts}
use Rattle.dm_law_mirror.proofs.Names.{routes, Acted, Acts, Goes, Worn, then_, Spoken, spoken, Placed, WorldState, History, StandsWith, AllRecords, nat_tests, Part}
use Rattle.dm_node.proofs.Names.{behind, spoken_then}
use Rattle.dm_node.proofs.Speaking.{spoken-append}
use Rattle.dm_law_rule.specs.Parts as rule
use Rattle.dm_law_mirror.proofs.Turning.{Route, First, Own, AllMayPut, Late, Nothing, Leaves, LateMay, LateTopic, MayPut, late_owns, late_parts, late_point, late_rule_parts, message_of, owns, part_of, rule_part_of}
use Rattle.dm_law_mirror.proofs.Giving.{same_records}
use Rattle.dm_law_mirror.proofs.Routing.{Ready, route_goes, worn_first, worn_past}
use Rattle.dm_law_mirror.proofs.Route.Parts.{Next, count_here, count_off, next_of, all_may_on, late_may_on, same_end, end_fits, end_there}
use Rattle.dm_law_mirror.proofs.Route.Puts.{after_route, RouteOn, RouteWorn, with_acted, late_end, late_lines, late_pair, late_part, late_topic}
use Rattle.dm_law_mirror.proofs.Streams.{at_again, at_here, at_same}
use Rattle.dm_law_mirror.proofs.Join.{lines_put, part_is, put_end, put_leads}
use Rattle.dm_law_mirror.proofs.Turning as turning
use Rattle.dm_law_mirror.proofs.Route.Parts.{all_grow}

-- all messages are lawful
abbrev pub AreLawful : List Route → Type 0
AreLawful [] = ⊤
AreLawful (r ∷ rs) = IsLawfulMessage (message_of r) × AreLawful rs

abbrev pub IsLawfulLate : Late → Type 0
IsLawfulLate Nothing = ⊤
IsLawfulLate (Leaves p x) = IsLawfulMessage x

-- what the messages need that machine m routes from here, where their lines lead on to this
pub record Going (b : Boot) (w : WorldState) (q : Point) (l : Placed) (h : History) (m : ℕ) (records : AllRecords) (rs : List Route) (late : Late) (v : Spelled) : Type 0 where
  pub stands : StandsWith b w (late_point q late) l h
  pub here : m < q.kernel.machines
  pub acting : q.view.acting ≡ m
  pub lawful : AreLawful rs
  pub late_lawful : IsLawfulLate late
  pub sane : Sane (late_point q late)
  pub fits : PairsFit q.view
  pub may : AllMayPut (late_point q late) l records 0 rs
  pub late_may : LateMay (late_point q late) l records (owns rs) late
  pub same : (n : ℕ) → (w.nodes n).kernel.records ≡ records n
  pub topic : LateTopic q late
  pub due : spelled q (map rule_part_of rs ++ late_rule_parts late) ≡ Some v
  pub within : (i : MsgId) (z : Spot) → 1 ≤ standing v.point.view i z → machine_of z < v.point.kernel.machines
  pub sent : (w.nodes m).kernel.sent ≡ q.view.count m + (owns rs + late_owns late)

-- all are routed
pub record RoutesOn (b : Boot) (w : WorldState) (q : Point) (m : ℕ) (rs : List Route) (late : Late) (v : Spelled) : Type 0 where
  pub acted : Acted
  pub goes : acts (w.nodes m) (map part_of rs ++ late_parts late) ≡ Goes acted
  pub spoken : (spoken w.wires acted.outs).lines ≡ v.lines
  pub placed : Placed
  pub history : History
  pub stands : StandsWith b (with_acted w m acted) v.point placed history
  pub sent : acted.state.kernel.sent ≡ v.point.view.count m
  pub counts : (n : ℕ) → (m == n) ≡ false → v.point.view.count n ≡ q.view.count n

-- one of the pairs is full
pub record RoutesWorn (b : Boot) (w : WorldState) (q : Point) (m : ℕ) (rs : List Route) (late : Late) (v : Spelled) : Type 0 where
  pub from : ℕ
  pub to : ℕ
  pub worn : acts (w.nodes m) (map part_of rs ++ late_parts late) ≡ Worn from to
  pub first : worn_in b.numbers q.view v.lines ≡ Some (record { from = from; to = to })

abbrev pub RoutesGo : Boot → WorldState → Point → ℕ → List Route → Late → Spelled → Type 0
RoutesGo b w q m rs late v = RoutesOn b w q m rs late v ⊎ RoutesWorn b w q m rs late v

-- nothing is left
none_goes : (b : Boot) (w : WorldState) (q : Point) (l : Placed) (h : History) (m : ℕ) (records : AllRecords) (v : Spelled) → Going b w q l h m records [] Nothing v → RoutesGo b w q m [] Nothing v
none_goes b w q l h m records v g =
    let z : Spelled = record { lines = []; point = q } in
    let is : z ≡ v = (let e : Some z ≡ Some v = g.due in cc) in
    let d : Acted = record { state = w.nodes m; outs = [] } in
    let stays : StandsWith b (with_acted w m d) q l h = subst (λ (f : ℕ → NodeState). StandsWith b (record { nodes = f; wires = w.wires; ended = w.ended; groups = w.groups }) q l h) (sym (at_same w.nodes m)) g.stands in
    let count : (w.nodes m).kernel.sent ≡ q.view.count m = (let e : (w.nodes m).kernel.sent ≡ q.view.count m + (0 + 0) = g.sent in omega (arith, e)) in
    subst (λ (u : Spelled). RoutesGo b w q m [] Nothing u) is
    (inl (record { acted = d; goes = refl; spoken = refl; placed = l; history = h; stands = stays; sent = count; counts = λ n e. refl }))

pair_place : (m c : ℕ) (t : Bool) → machine_of (if t then Inbox c else Untaken m c) ≡ c
pair_place m c t = grind (arith, nat_tests)

sayable : (r : Route) → Sayable (rule_part_of r)
sayable r = grind (arith, nat_tests)

pub late_count : (q : Point) (late : Late) → (late_point q late).view.count ≡ q.view.count
late_count q late = grind (arith, nat_tests)

pub late_acting : (q : Point) (late : Late) → (late_point q late).view.acting ≡ q.view.acting
late_acting q late = grind (arith, nat_tests)

pub late_kernel : (q : Point) (late : Late) → (late_point q late).kernel ≡ q.kernel
late_kernel q late = grind (arith, nat_tests)

late_fits : (q : Point) (late : Late) → PairsFit q.view → PairsFit (late_point q late).view
late_fits q Nothing h = h
late_fits q (Leaves p x) h = record { within = h.within; home = h.home }

acts_route : (n : NodeState) (r : Route) (ps : List Part) (a : Acts) → routes n (message_of r) ≡ a → acts n (part_of r ∷ ps) ≡ then_ a (λ next. acts next ps)
acts_route n r ps a e = ap (λ (d : Acts). then_ d (λ next. acts next ps)) e

module _ (b : Boot) (w : WorldState) (q : Point) (l : Placed) (h : History) (m : ℕ) (records : AllRecords) (r : Route) (rs : List Route) (late : Late) (v : Spelled) (g : Going b w q l h m records (r ∷ rs) late v) where
  abbrev x : Message
  x = message_of r

  abbrev Q : Point
  Q = late_point q late

  abbrev parts : List rule.Part
  parts = map rule_part_of rs ++ late_rule_parts late

  n : Next q (rule_part_of r) parts v
  n = next_of q (rule_part_of r) parts v g.due

  -- the lines are known, and where they lead
  lines_are : (home out : Bool) → rule.lines_of Q (rule_part_of r) ≡ Some (lines_put Q m x.to.at x home out) → lines_put q m x.to.at x home out ≡ n.lines
  lines_are home out e =
      let f : Some (lines_put q m x.to.at x home out) ≡ Some n.lines = sym (ap Some (late_lines q late m x.to.at x home out)) ∙ sym e ∙ late_part q late r ∙ n.is in
      cc

  next_is : (home out : Bool) → rule.lines_of Q (rule_part_of r) ≡ Some (lines_put Q m x.to.at x home out) → put_end q m x.to.at x home out ≡ n.next
  next_is home out e =
      let f : Some (put_end q m x.to.at x home out) ≡ Some n.next = sym (put_leads q m x.to.at x home out) ∙ ap (after q) (lines_are home out e) ∙ n.leads in
      cc

  now : (λ (d : ℕ). (w.nodes d).kernel.records) ≡ records
  now = λ i. λ d. g.same d i

  may : MayPut Q l (λ d. (w.nodes d).kernel.records) 0 r
  may = subst (λ (f : AllRecords). MayPut Q l f 0 r) (sym now) g.may.0

  acting : Q.view.acting ≡ m
  acting = late_acting q late ∙ g.acting

  end_point : n.rest.point ≡ v.point
  end_point = ap (λ (z : Spelled). z.point) n.whole

  -- it stands in a list of the machine that it is for
  there : x.to.at < Q.kernel.machines
  there =
      let home : Bool = m == x.to.at in
      let out : Bool = goes_out (Q.view.pair m x.to.at) in
      let part = part_is Q l (λ d. (w.nodes d).kernel.records) m r home out g.stands.mirrors acting may refl refl in
      let place : n.next ≡ put_end q m x.to.at x home out = sym (next_is home out part) in
      let z : Spot = put_spot m x.to.at in
      let first : 1 ≤ standing n.next.view x.id z = subst (λ (p : Point). 1 ≤ standing p.view x.id z) (sym place) (end_there q m x.to.at x home out g.fits) in
      let fits : PairsFit n.next.view = subst (λ (p : Point). PairsFit p.view) (sym place) (end_fits q m x.to.at x home out g.fits) in
      let grows = all_grow rs late n.next n.rest n.on fits in
      let last : 1 ≤ standing v.point.view x.id z = subst (λ (p : Point). 1 ≤ standing p.view x.id z) end_point (grows.spots x.id z first) in
      let small : machine_of z < v.point.kernel.machines = g.within x.id z last in
      let kernel : v.point.kernel ≡ Q.kernel = ap (λ (p : Point). p.kernel) (sym end_point) ∙ grows.kernel ∙ ap (λ (p : Point). p.kernel) place ∙ (same_end q m x.to.at x home out).kernel ∙ sym (late_kernel q late) in
      subst (λ (k : ℕ). k < Q.kernel.machines) (pair_place m x.to.at home) (subst (λ (s : OneKernel). machine_of z < s.machines) kernel small)

  ready : Ready b w Q l h m r
  ready = search (subst (λ (s : OneKernel). m < s.machines) (sym (late_kernel q late)) g.here, there, acting, may, late_fits q late g.fits)

  -- it goes: the others from there
  module _ (on : RouteOn b w Q l m r) where
    abbrev after_one : Point
    after_one = put_end q m x.to.at x on.home on.out

    abbrev world : WorldState
    world = with_acted w m on.acted

    moves_on : put_end Q m x.to.at x on.home on.out ≡ late_point after_one late
    moves_on = late_end q late m x.to.at x on.home on.out g.topic

    node_is : world.nodes m ≡ on.acted.state
    node_is = at_here w.nodes m on.acted.state

    counted : (d k : ℕ) → (put_end Q m x.to.at x on.home on.out).view.count d ≡ k → after_one.view.count d ≡ k
    counted d k e = sym (ap (λ (f : ℕ → ℕ). f d) (ap (λ (p : Point). p.view.count) moves_on ∙ late_count after_one late)) ∙ e

    count_m : after_one.view.count m ≡ q.view.count m + turning.is_own r
    count_m = counted m (q.view.count m + turning.is_own r) (count_here Q l records m r on.home on.out g.sane g.stands.mirrors acting (eq-eqb m m refl) g.may.0 ∙ ap (λ (f : ℕ → ℕ). f m + turning.is_own r) (late_count q late))

    count_n : (d : ℕ) → (m == d) ≡ false → after_one.view.count d ≡ q.view.count d
    count_n d off = counted d (q.view.count d) (count_off Q l records m d r on.home on.out g.sane g.stands.mirrors acting off g.may.0 ∙ ap (λ (f : ℕ → ℕ). f d) (late_count q late))

    next_going : Going b world after_one (after_route l r) on.history m records rs late n.rest
    next_going = record {
      stands = subst (λ (p : Point). StandsWith b world p (after_route l r) on.history) moves_on on.stands;
      here = subst (λ (s : OneKernel). m < s.machines) (sym (same_end q m x.to.at x on.home on.out).kernel) g.here;
      acting = (same_end q m x.to.at x on.home on.out).acting ∙ g.acting;
      lawful = g.lawful.1;
      late_lawful = g.late_lawful;
      sane = subst Sane moves_on (part_sane Q (put_end Q m x.to.at x on.home on.out) (rule_part_of r) (lines_put Q m x.to.at x on.home on.out) (sayable r) on.part (put_leads Q m x.to.at x on.home on.out) g.sane);
      fits = end_fits q m x.to.at x on.home on.out g.fits;
      may = (
          let behind : 0 + turning.is_own r ≡ turning.is_own r + 0 = omega arith in
          subst (λ (p : Point). AllMayPut p (after_route l r) records 0 rs) moves_on
          (all_may_on Q l records m r rs 0 on.home on.out g.sane g.stands.mirrors acting g.may.0 (subst (λ (j : ℕ). AllMayPut Q l records j rs) behind g.may.1)));
      late_may = subst (λ (p : Point). LateMay p (after_route l r) records (owns rs) late) moves_on (late_may_on Q l records m r late (owns rs) on.home on.out g.sane g.stands.mirrors acting g.may.0 g.late_may);
      same = λ d. same_records w m on.acted.state d (m == d) refl on.records ∙ g.same d;
      topic = late_topic q late m x.to.at x on.home on.out g.topic;
      due = ap (λ (p : Point). spelled p parts) (next_is on.home on.out on.part) ∙ n.on;
      within = λ i z st. subst (λ (p : Point). machine_of z < p.kernel.machines) (sym end_point) (g.within i z (subst (λ (p : Point). 1 ≤ standing p.view i z) end_point st));
      sent = omega (arith, g.sent, ap (λ (k : NodeState). k.kernel.sent) node_is ∙ on.sent, count_m);
    }

    whole_lines : lines_put q m x.to.at x on.home on.out ++ n.rest.lines ≡ v.lines
    whole_lines = ap (λ (ls : List Line). ls ++ n.rest.lines) (lines_are on.home on.out on.part) ∙ ap (λ (z : Spelled). z.lines) n.whole

    goes_on : RoutesOn b world after_one m rs late n.rest → RoutesOn b w q m (r ∷ rs) late v
    goes_on k =
        let gave : spoken w.wires (on.acted.outs ++ k.acted.outs) ≡ spoken_then (spoken w.wires on.acted.outs) k.acted.outs = spoken-append w.wires on.acted.outs k.acted.outs in
        record {
          acted = record { state = k.acted.state; outs = on.acted.outs ++ k.acted.outs };
          goes = acts_route (w.nodes m) r (map part_of rs ++ late_parts late) (Goes on.acted) on.goes
              ∙ ap (λ (d : NodeState). behind on.acted.outs (acts d (map part_of rs ++ late_parts late))) (sym node_is)
              ∙ ap (behind on.acted.outs) k.goes;
          spoken = ap (λ (s : Spoken). s.lines) gave ∙ (λ i. (on.spoken ∙ late_lines q late m x.to.at x on.home on.out) i ++ k.spoken i) ∙ whole_lines;
          placed = k.placed;
          history = k.history;
          stands = subst (λ (p : Point). StandsWith b (with_acted w m (record { state = k.acted.state; outs = on.acted.outs ++ k.acted.outs })) p k.placed k.history) end_point
              (subst (λ (u : WorldState). StandsWith b u n.rest.point k.placed k.history)
              (λ i. record { nodes = at_again w.nodes m on.acted.state k.acted.state i; wires = (sym gave i).wires; ended = w.ended; groups = w.groups }) k.stands);
          sent = k.sent ∙ ap (λ (p : Point). p.view.count m) end_point;
          counts = λ d off. sym (ap (λ (p : Point). p.view.count d) end_point) ∙ k.counts d off ∙ count_n d off;
        }

    wears_on : RoutesWorn b world after_one m rs late n.rest → RoutesWorn b w q m (r ∷ rs) late v
    wears_on k = search (
      acts_route (w.nodes m) r (map part_of rs ++ late_parts late) (Goes on.acted) on.goes ∙ ap (λ (d : NodeState). behind on.acted.outs (acts d (map part_of rs ++ late_parts late))) (sym node_is) ∙ ap (behind on.acted.outs) k.worn,
      ap (worn_in b.numbers q.view) (sym whole_lines) ∙ worn_past b.numbers q m x.to.at x on.home on.out n.rest.lines (ap (λ (f : ℕ → ℕ → Pair). nat_le b.numbers (length (f m x.to.at).ids)) (sym (late_pair q late)) ∙ on.room) ∙ k.first,
    )

    rest_goes : RoutesGo b world after_one m rs late n.rest → RoutesGo b w q m (r ∷ rs) late v
    rest_goes k = elim k as (λ z. RoutesGo b w q m (r ∷ rs) late v) [ inl on_ ↦ inl (goes_on on_) | inr worn ↦ inr (wears_on worn) ]

  -- it doesn't: its pair is full
  wears : RouteWorn b w Q m r → RoutesWorn b w q m (r ∷ rs) late v
  wears k =
      let full : b.numbers ≤ length (q.view.pair m x.to.at).ids = subst (λ (f : ℕ → ℕ → Pair). b.numbers ≤ length (f m x.to.at).ids) (late_pair q late) k.full in
      search (
        acts_route (w.nodes m) r (map part_of rs ++ late_parts late) (Worn k.from k.to) k.worn,
        ap (worn_in b.numbers q.view) (sym (ap (λ (z : Spelled). z.lines) n.whole) ∙ ap (λ (ls : List Line). ls ++ n.rest.lines) (sym (lines_are k.home k.out k.part))) ∙ worn_first b.numbers q m x.to.at x k.home k.out n.rest.lines full ∙ (λ i. Some (record { from = sym k.from_is i; to = sym k.to_is i })),
      )

  one_goes : ((on : RouteOn b w Q l m r) → RoutesGo b (with_acted w m on.acted) (put_end q m x.to.at x on.home on.out) m rs late n.rest) → RoutesGo b w q m (r ∷ rs) late v
  one_goes go = elim (route_goes b w Q l h m r ready) as (λ z. RoutesGo b w q m (r ∷ rs) late v) [
    | inl on ↦ rest_goes on (go on)
    | inr worn ↦ inr (wears worn)
  ]

-- one after the other
still_go : (b : Boot) (w : WorldState) (q : Point) (l : Placed) (h : History) (m : ℕ) (records : AllRecords) (rs : List Route) (v : Spelled) → Going b w q l h m records rs Nothing v → RoutesGo b w q m rs Nothing v
still_go b w q l h m records [] v g = none_goes b w q l h m records v g
still_go b w q l h m records (r ∷ rs) v g =
    one_goes b w q l h m records r rs Nothing v g
    (λ on. still_go b (with_acted w m on.acted) (put_end q m (message_of r).to.at (message_of r) on.home on.out) (after_route l r) on.history m records rs (n b w q l h m records r rs Nothing v g).rest
    (next_going b w q l h m records r rs Nothing v g on))

-- a process leaves, and its machine's message for that
module _ (b : Boot) (w : WorldState) (q : Point) (l : Placed) (h : History) (m : ℕ) (records : AllRecords) (p : Pid) (y : Message) (v : Spelled) (g : Going b w q l h m records [] (Leaves p y) v) where
  abbrev said : Line
  said = Line.Migration Stage.Left p

  abbrev left : Point
  left = moved q said q.kernel

  leave : Next q (rule.Says said) (rule_part_of (Own y) ∷ []) v
  leave = next_of q (rule.Says said) (rule_part_of (Own y) ∷ []) v g.due

  said_is : said ∷ [] ≡ leave.lines
  said_is = let f : Some (said ∷ []) ≡ Some leave.lines = leave.is in cc

  left_is : left ≡ leave.next
  left_is = let f : Some left ≡ Some leave.next = ap (after q) said_is ∙ leave.leads in cc

  whole_is : said ∷ leave.rest.lines ≡ v.lines
  whole_is = ap (λ (ls : List Line). ls ++ leave.rest.lines) said_is ∙ ap (λ (z : Spelled). z.lines) leave.whole

  ends_at : leave.rest.point ≡ v.point
  ends_at = ap (λ (z : Spelled). z.point) leave.whole

  own_going : Going b w left l h m records (Own y ∷ []) Nothing leave.rest
  own_going = record {
    stands = g.stands;
    here = g.here;
    acting = g.acting;
    lawful = (g.late_lawful, tt);
    late_lawful = tt;
    sane = g.sane;
    fits = record { within = g.fits.within; home = g.fits.home };
    may = (g.late_may, tt);
    late_may = tt;
    same = g.same;
    topic = tt;
    due = ap (λ (z : Point). spelled z (rule_part_of (Own y) ∷ [])) left_is ∙ leave.on;
    within = λ i z st. subst (λ (e : Point). machine_of z < e.kernel.machines) (sym ends_at) (g.within i z (subst (λ (e : Point). 1 ≤ standing e.view i z) ends_at st));
    sent = let e : (w.nodes m).kernel.sent ≡ q.view.count m + (0 + 1) = g.sent in omega (arith, e);
  }

  last_on : RoutesOn b w left m (Own y ∷ []) Nothing leave.rest → RoutesOn b w q m [] (Leaves p y) v
  last_on k = record {
    acted = record { state = k.acted.state; outs = Out.Says said ∷ k.acted.outs };
    goes = ap (behind (Out.Says said ∷ [])) k.goes;
    spoken = ap (λ (ls : List Line). said ∷ ls) k.spoken ∙ whole_is;
    placed = k.placed;
    history = k.history;
    stands = subst (λ (e : Point). StandsWith b (with_acted w m k.acted) e k.placed k.history) ends_at k.stands;
    sent = k.sent ∙ ap (λ (e : Point). e.view.count m) ends_at;
    counts = λ d off. sym (ap (λ (e : Point). e.view.count d) ends_at) ∙ k.counts d off;
  }

  last_worn : RoutesWorn b w left m (Own y ∷ []) Nothing leave.rest → RoutesWorn b w q m [] (Leaves p y) v
  last_worn k = search (ap (behind (Out.Says said ∷ [])) k.worn, ap (worn_in b.numbers q.view) (sym whole_is) ∙ k.first)

  last_goes : RoutesGo b w q m [] (Leaves p y) v
  last_goes = elim (still_go b w left l h m records (Own y ∷ []) leave.rest own_going) as (λ z. RoutesGo b w q m [] (Leaves p y) v) [
    | inl k ↦ inl (last_on k)
    | inr k ↦ inr (last_worn k)
  ]

leave_go : (b : Boot) (w : WorldState) (q : Point) (l : Placed) (h : History) (m : ℕ) (records : AllRecords) (rs : List Route) (p : Pid) (y : Message) (v : Spelled) → Going b w q l h m records rs (Leaves p y) v → RoutesGo b w q m rs (Leaves p y) v
leave_go b w q l h m records [] p y v g = last_goes b w q l h m records p y v g
leave_go b w q l h m records (r ∷ rs) p y v g =
    one_goes b w q l h m records r rs (Leaves p y) v g
    (λ on. leave_go b (with_acted w m on.acted) (put_end q m (message_of r).to.at (message_of r) on.home on.out) (after_route l r) on.history m records rs p y (n b w q l h m records r rs (Leaves p y) v g).rest
    (next_going b w q l h m records r rs (Leaves p y) v g on))

pub routes_go : (b : Boot) (w : WorldState) (q : Point) (l : Placed) (h : History) (m : ℕ) (records : AllRecords) (rs : List Route) (late : Late) (v : Spelled) → Going b w q l h m records rs late v → RoutesGo b w q m rs late v
routes_go b w q l h m records rs Nothing v g = still_go b w q l h m records rs v g
routes_go b w q l h m records rs (Leaves p y) v g = leave_go b w q l h m records rs p y v g
