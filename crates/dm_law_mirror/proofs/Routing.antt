-- A message that is routed: the machine and the rule do the same, or both stop where the pair is full.
use Rattle.dm_law_mirror.proofs.Names.{◌≡◌, ◌≢◌, ℕ, ◌+◌, ◌-◌, ◌<◌, ◌≤◌, ◌==◌, ◌&&◌, nat_lt, Bool, true, false, List, [], ◌∷◌, ◌++◌, length, refl, ap, ◌∙◌, sym, subst, arith, inl, inr, if◌then◌else◌, slice_get, Option, None, Some, eqb-true}
use Rattle.dm_law_mirror.proofs.Names.{nat_tests, Message, kind_of, IsLawfulMessage, Sending, due, given_count, numbered, with_given, Boot, NodeState, here, Out, Sends, Acts, Goes, Worn, gives, is_worn, none_waits, put_line, routes}
use Rattle.dm_law_mirror.proofs.Names.{routes_away, routes_home, sends_due, Line, or, after_put, view_after, goes_out, Point, moved, at_machine, PairsFit, Sane, is_full, worn_in, Placed, WorldState, History, PairStands, StandsWith, AllRecords}
use Rattle.dm_law_mirror.proofs.Names.{map, OneKernel, bind, bind-is, Two, Spelled, spelled, label_of, kernel_after, after_line, after, View, full_route, AllSayable, sane_line, Sent, acts, says, spoken, packet_of_load, Part, nat_le, Act}
use Rattle.dm_law_mirror.proofs.Names.{act_of, seen}
use Rattle.dm_node.proofs.Names.{behind}
use Rattle.dm_stream.specs.Packets.{Load}
use Rattle.dm_node.specs.declared.out.Out.TheVariants.{Says}
use Rattle.dm_law_mirror.proofs.Puts.{point_put, wire_length, with_put}
use Rattle.dm_law_mirror.proofs.Giving.{with_gift, count_given, node_gave, node_went, same_records, stands_gave, stands_went, world_gave}
use Rattle.dm_law_mirror.proofs.Turning.{Route, MayPut, message_of, rule_part_of}
use Rattle.dm_law_mirror.proofs.Route.Puts.{after_route, route_more, route_there, stands_routed, RouteGoes, RouteOn, RouteWorn, with_acted, CoreStands, core_more, core_of}
use Rattle.dm_law_mirror.proofs.Home.{node_home, stands_home}
use Rattle.dm_law_mirror.proofs.Streams.{apart_is}
use Rattle.dm_law_mirror.proofs.Counts.Pairs.{line_ids}
use Rattle.dm_law_mirror.proofs.Join.{line_put, lines_put, part_is, put_end, put_point}
use Rattle.dm_law_mirror.proofs.Route.Parts.{Next, next_of}
use Rattle.dm_line.specs.declared.line.Load.TheVariants as load
use Rattle.dm_law_rule.specs.Parts as rule

-- what the machine does, by its tests
route_if : (n : NodeState) (x : Message) (t : Bool) → (x.to.at == here n) ≡ t → routes n x ≡ (if t then routes_home n x (n.home == n.numbers) else routes_away n x.to.at x (n.senders x.to.at))
route_if n x t e = ap (λ (t : Bool). if t then routes_home n x (n.home == n.numbers) else routes_away n x.to.at x (n.senders x.to.at)) e

home_if : (n : NodeState) (x : Message) (u : Bool) → (x.to.at == here n) ≡ true → (n.home == n.numbers) ≡ u → routes n x ≡ routes_home n x u
home_if n x u e f = route_if n x true e ∙ ap (routes_home n x) f

away_if : (n : NodeState) (x : Message) (u : Bool) → (x.to.at == here n) ≡ false → is_worn (n.senders x.to.at) ≡ u → routes n x ≡ (if u then Worn (here n) x.to.at else gives n x.to.at x (n.senders x.to.at) (none_waits (n.senders x.to.at)))
away_if n x u e f = route_if n x false e ∙ ap (λ (t : Bool). if t then Worn (here n) x.to.at else gives n x.to.at x (n.senders x.to.at) (none_waits (n.senders x.to.at))) f

goes_same : (b : Boot) (pt : Point) (l : Placed) (w : WorldState) (h : History) (m c : ℕ) → PairStands b pt l w h m c → goes_out (pt.view.pair m c) ≡ (none_waits ((w.nodes m).senders c) && nat_lt ((w.nodes m).senders c).gone (((w.nodes m).senders c).acked + 8))
goes_same b pt l w h m c s =
    (λ i. (sym s.gone i == sym (count_given b pt l w h m c s) i) && nat_lt (sym s.gone i - sym s.acked i) 8)
    ∙ ap (λ (t : Bool). none_waits ((w.nodes m).senders c) && t) (grind (arith, nat_tests))

get_last : (xs : List Message) (x : Message) (k : ℕ) → k ≡ length xs → slice_get (xs ++ x ∷ []) k ≡ Some x
get_last xs x k e = ap (slice_get (xs ++ x ∷ [])) e ∙ last xs
  where
    last : (ys : List Message) → slice_get (ys ++ x ∷ []) (length ys) ≡ Some x
    last [] = refl
    last (y ∷ ys) = last ys

due_none : (s : Sending Message) (x : Message) → nat_lt s.gone (s.acked + 8) ≡ false → due (with_given s x) ≡ None
due_none s x win = ap (λ (t : Bool). if t then numbered s.gone (slice_get (s.unacked ++ x ∷ []) (s.gone - s.acked)) else None) win

-- the first put is the one that is worn
pub worn_first : (numbers : ℕ) (pt : Point) (m c : ℕ) (x : Message) (home out : Bool) (ls : List Line) → numbers ≤ length (pt.view.pair m c).ids → worn_in numbers pt.view (lines_put pt m c x home out ++ ls) ≡ Some (record { from = m; to = c })
worn_first numbers pt m c x home out ls full = grind (arith, nat_tests)

-- and a put on a pair that isn't full is none
pub worn_past : (numbers : ℕ) (pt : Point) (m c : ℕ) (x : Message) (home out : Bool) (ls : List Line) → is_full numbers pt.view m c ≡ false → worn_in numbers pt.view (lines_put pt m c x home out ++ ls) ≡ worn_in numbers (put_end pt m c x home out).view ls
worn_past numbers pt m c x home out ls open_ = grind (arith, nat_tests)

-- a pair that isn't full
not_full : (numbers : ℕ) (pt : Point) (m c : ℕ) → length (pt.view.pair m c).ids ≤ numbers → length (pt.view.pair m c).ids ≢ numbers → is_full numbers pt.view m c ≡ false
not_full numbers pt m c few fresh = grind (arith, nat_tests)

-- what a message needs that is routed
pub record Ready (b : Boot) (w : WorldState) (pt : Point) (l : Placed) (h : History) (m : ℕ) (r : Route) : Type 0 where
  pub stands : StandsWith b w pt l h
  pub here : m < pt.kernel.machines
  pub there : (message_of r).to.at < pt.kernel.machines
  pub acting : pt.view.acting ≡ m
  pub lawful : IsLawfulMessage (message_of r)
  pub may : MayPut pt l (λ n. (w.nodes n).kernel.records) 0 r
  pub sane : Sane pt
  pub fits : PairsFit pt.view

module _ (b : Boot) (w : WorldState) (pt : Point) (l : Placed) (h : History) (m : ℕ) (r : Route) (f : Ready b w pt l h m r) where
  abbrev x : Message
  x = message_of r

  abbrev records : AllRecords
  records = λ n. (w.nodes n).kernel.records

  abbrev u : Placed
  u = after_route l r

  -- the point with the addresses behind the put
  abbrev placed : Point
  placed = record pt { addresses = (put_point pt m x.to.at x).addresses }

  core : CoreStands b w placed u h
  core = core_more b pt l u (put_point pt m x.to.at x).addresses (route_more pt l records r f.may) w h (core_of b w pt l h f.stands)

  there_ : u.bag x.id ≡ Some x
  there_ = route_there pt l records r f.may

  part : (home out : Bool) → (m == x.to.at) ≡ home → goes_out (pt.view.pair m x.to.at) ≡ out → rule.lines_of pt (rule_part_of r) ≡ Some (lines_put pt m x.to.at x home out)
  part home out same goes = part_is pt l records m r home out f.stands.mirrors f.acting f.may same goes

  stood : (v : WorldState) (k : History) → ((d : ℕ) → (v.nodes d).kernel.records ≡ (w.nodes d).kernel.records) → CoreStands b v (put_point pt m x.to.at x) u k → StandsWith b v (put_point pt m x.to.at x) u k
  stood v k same c = stands_routed b pt l records m r v k f.may same f.sane f.fits f.stands.mirrors f.stands.own f.stands.tokens c

  own_place : here (w.nodes m) ≡ m
  own_place = (f.stands.nodes m f.here).kernel.here

  -- full, at home and away
  worn_on : (home : Bool) → (m == x.to.at) ≡ home → (from to : ℕ) → from ≡ m → to ≡ x.to.at → routes (w.nodes m) x ≡ Worn from to → b.numbers ≤ length (pt.view.pair m x.to.at).ids → RouteWorn b w pt m r
  worn_on home same from to e t is full =
      let out : Bool = goes_out (pt.view.pair m x.to.at) in
      record { from = from; to = to; worn = is; home = home; out = out; part = part home out same refl; from_is = e; to_is = t; full = full }

  -- into the inbox
  goes_home : x.to.at ≡ m → routes (w.nodes m) x ≡ routes_home (w.nodes m) x false → (w.nodes m).home ≢ b.numbers → RouteOn b w pt l m r
  goes_home at_ is fresh =
      let count : (w.nodes m).home ≡ length (pt.view.pair m m).ids = (f.stands.nodes m f.here).home in
      let k : (record placed { view = after_put pt.view m m x.id (kind_of x.what) x.to.pid }) ≡ put_point pt m x.to.at x = (λ i. record { kernel = pt.kernel; view = after_put pt.view m (sym at_ i) x.id (kind_of x.what) x.to.pid; addresses = (put_point pt m x.to.at x).addresses }) in
      let after : WorldState = record w { nodes = at_machine w.nodes m (node_home (w.nodes m) x) } in
      record {
        acted = record { state = node_home (w.nodes m) x; outs = Says (put_line (w.nodes m) x) ∷ [] };
        goes = is;
        home = true;
        out = goes_out (pt.view.pair m x.to.at);
        part = part true (goes_out (pt.view.pair m x.to.at)) (let e : (m == x.to.at) ≡ true = grind (arith, nat_tests, at_) in e) refl;
        spoken = λ i. Line.Put (own_place i) x.to.at x.id (kind_of x.what) x.to.pid ∷ [];
        room = ap (λ (c : ℕ). is_full b.numbers pt.view m c) at_ ∙ (not_full b.numbers pt m m (f.stands.counts m m) (omega (arith, count, fresh)));
        history = h;
        stands = stood after h (λ d. same_records w m (node_home (w.nodes m) x) d (m == d) refl refl)
            (subst (λ (q : Point). CoreStands b after q u h) k (stands_home b placed u w h m x (kind_of x.what) x.to.pid f.here fresh there_ f.lawful core));
        records = refl;
        sent = refl;
      }

  module _ (apart : m ≢ x.to.at) (fresh : is_worn ((w.nodes m).senders x.to.at) ≡ false) where
    open_pair : is_full b.numbers pt.view m x.to.at ≡ false
    open_pair =
        let pair : PairStands b pt l w h m x.to.at = f.stands.pairs m x.to.at f.here f.there apart in
        let full : length (pt.view.pair m x.to.at).ids ≢ b.numbers = grind (arith, nat_tests, count_given b pt l w h m x.to.at pair, pair.numbers, fresh) in
        not_full b.numbers pt m x.to.at (f.stands.counts m x.to.at) full

    -- the message is given to the stream
    gave : StandsWith b (world_gave w m x.to.at x) (put_point pt m x.to.at x) u (with_gift h m x.to.at x)
    gave = stood (world_gave w m x.to.at x) (with_gift h m x.to.at x) (λ d. same_records w m (node_gave w m x.to.at x) d (m == d) refl refl)
        (stands_gave b placed u w h m x.to.at x (kind_of x.what) x.to.pid apart f.here f.there fresh there_ f.lawful core)

    -- to another machine: it waits
    waits : goes_out (pt.view.pair m x.to.at) ≡ false → routes (w.nodes m) x ≡ Goes (record { state = node_gave w m x.to.at x; outs = Says (put_line (w.nodes m) x) ∷ [] }) → RouteOn b w pt l m r
    waits out is = record {
      acted = record { state = node_gave w m x.to.at x; outs = Says (put_line (w.nodes m) x) ∷ [] };
      goes = is;
      home = false;
      out = false;
      part = part false false (apart_is m x.to.at apart) out;
      spoken = λ i. Line.Put (own_place i) x.to.at x.id (kind_of x.what) x.to.pid ∷ [];
      room = open_pair;
      history = with_gift h m x.to.at x;
      stands = gave;
      records = refl;
      sent = refl;
    }

    -- it goes out at once
    goes_away : none_waits ((w.nodes m).senders x.to.at) ≡ true → goes_out (pt.view.pair m x.to.at) ≡ true → due (with_given ((w.nodes m).senders x.to.at) x) ≡ Some (((w.nodes m).senders x.to.at).gone, x)
        → routes (w.nodes m) x ≡ Goes (record { state = node_went w m x.to.at x; outs = Says (put_line (w.nodes m) x) ∷ Sends (packet_of_load (here (w.nodes m)) x.to.at (Load.Data ((w.nodes m).senders x.to.at).gone x)) ∷ [] }) → RouteOn b w pt l m r
    goes_away none out next_due is =
        let c : ℕ = x.to.at in
        let pair : PairStands b pt l w h m c = f.stands.pairs m c f.here f.there apart in
        let n : ℕ = ((w.nodes m).senders c).gone in
        let all : length (pt.view.pair m c).ids ≡ n = let e : given_count ((w.nodes m).senders c) ≡ length (pt.view.pair m c).ids = count_given b pt l w h m c pair in grind (arith, nat_tests, e, none) in
        let put : Point = put_point pt m c x in
        let outs : ℕ → List Out = λ (z : ℕ). Says (put_line (w.nodes m) x) ∷ Sends (packet_of_load z c (Load.Data n x)) ∷ [] in
        let later : History = with_put (with_gift h m c x) m c (Load.Data n x) in
        let went : StandsWith b (with_acted w m (record { state = node_went w m c x; outs = outs m })) (point_put put m c (Load.Data n x)) u later =
        stands_went b put u w (with_gift h m c x) m c n x apart f.here f.there next_due gave in
        let end : point_put put m c (Load.Data n x) ≡ put_end pt m c x false true = (λ i. moved put (Line.Packet m c (length (pt.view.pair m c).wire) (load.Data (sym all i))) pt.kernel) in
        record {
          acted = record { state = node_went w m c x; outs = outs (here (w.nodes m)) };
          goes = is;
          home = false;
          out = true;
          part = part false true (apart_is m c apart) out;
          spoken = (λ i. Line.Put (own_place i) c x.id (kind_of x.what) x.to.pid ∷ Line.Packet (own_place i) c (length (w.wires (own_place i) c)) (load.Data n) ∷ [])
              ∙ (λ i. line_put m c x ∷ Line.Packet m c (wire_length b pt l w h m c pair i) (load.Data (sym all i)) ∷ []);
          room = open_pair;
          history = later;
          stands = subst (λ (z : ℕ). StandsWith b (with_acted w m (record { state = node_went w m c x; outs = outs z })) (put_end pt m c x false true) u later) (sym own_place)
              (subst (λ (q : Point). StandsWith b (with_acted w m (record { state = node_went w m c x; outs = outs m })) q u later) end went);
          records = refl;
          sent = refl;
        }

    away : (x.to.at == here (w.nodes m)) ≡ false → RouteOn b w pt l m r
    away else_ = go (none_waits ((w.nodes m).senders x.to.at)) (nat_lt ((w.nodes m).senders x.to.at).gone (((w.nodes m).senders x.to.at).acked + 8)) refl refl
      where
        is : (t : Bool) → none_waits ((w.nodes m).senders x.to.at) ≡ t → routes (w.nodes m) x ≡ gives (w.nodes m) x.to.at x ((w.nodes m).senders x.to.at) t
        is t none = away_if (w.nodes m) x false else_ fresh ∙ ap (gives (w.nodes m) x.to.at x ((w.nodes m).senders x.to.at)) none

        goes : (t v : Bool) → none_waits ((w.nodes m).senders x.to.at) ≡ t → nat_lt ((w.nodes m).senders x.to.at).gone (((w.nodes m).senders x.to.at).acked + 8) ≡ v → goes_out (pt.view.pair m x.to.at) ≡ (t && v)
        goes t v none win = goes_same b pt l w h m x.to.at (f.stands.pairs m x.to.at f.here f.there apart) ∙ (λ i. none i && win i)

        sent : Option (ℕ × Message) → Acts
        sent o = behind (Says (put_line (w.nodes m) x) ∷ []) (Goes (sends_due (node_gave w m x.to.at x) x.to.at o))

        go : (t v : Bool) → none_waits ((w.nodes m).senders x.to.at) ≡ t → nat_lt ((w.nodes m).senders x.to.at).gone (((w.nodes m).senders x.to.at).acked + 8) ≡ v → RouteOn b w pt l m r
        go false v none win = waits (goes false v none win) (is false none)
        go true false none win = waits (goes true false none win) (is true none ∙ ap sent (due_none ((w.nodes m).senders x.to.at) x win))
        go true true none win =
            let next_due : due (with_given ((w.nodes m).senders x.to.at) x) ≡ Some (((w.nodes m).senders x.to.at).gone, x) = grind (arith, nat_tests, slice_get, get_last) in
            goes_away none (goes true true none win) next_due (is true none ∙ ap sent next_due)

  at_home : (t : Bool) → x.to.at ≡ m → (x.to.at == here (w.nodes m)) ≡ true → ((w.nodes m).home == (w.nodes m).numbers) ≡ t → RouteGoes b w pt l m r
  at_home true at_ e g =
      let count = (f.stands.nodes m f.here).home in
      let full : b.numbers ≤ length (pt.view.pair m m).ids = grind (arith, nat_tests, count, (f.stands.nodes m f.here).numbers, g) in
      inr (worn_on true (let k : (m == x.to.at) ≡ true = grind (arith, nat_tests, at_) in k) (here (w.nodes m)) (here (w.nodes m)) own_place (own_place ∙ sym at_) (home_if (w.nodes m) x true e g) (subst (λ (c : ℕ). b.numbers ≤ length (pt.view.pair m c).ids) (sym at_) full))
  at_home false at_ e g = inl (goes_home at_ (home_if (w.nodes m) x false e g) (grind (arith, nat_tests, (f.stands.nodes m f.here).numbers, g)))

  elsewhere : (t : Bool) → m ≢ x.to.at → (x.to.at == here (w.nodes m)) ≡ false → is_worn ((w.nodes m).senders x.to.at) ≡ t → RouteGoes b w pt l m r
  elsewhere true apart e g =
      let pair : PairStands b pt l w h m x.to.at = f.stands.pairs m x.to.at f.here f.there apart in
      let full : b.numbers ≤ length (pt.view.pair m x.to.at).ids = grind (arith, nat_tests, count_given b pt l w h m x.to.at pair, pair.numbers, g) in
      inr (worn_on false (apart_is m x.to.at apart) (here (w.nodes m)) x.to.at own_place refl (away_if (w.nodes m) x true e g) full)
  elsewhere false apart e g = inl (away apart g e)

  route_by : (t : Bool) → (x.to.at == here (w.nodes m)) ≡ t → RouteGoes b w pt l m r
  route_by true e = at_home ((w.nodes m).home == (w.nodes m).numbers) (eqb-true x.to.at (here (w.nodes m)) e ∙ own_place) e refl
  route_by false e = elsewhere (is_worn ((w.nodes m).senders x.to.at)) (grind (arith, nat_tests, own_place, e)) e refl

  -- a message that machine m routes, the machine that acts
  pub route_goes : RouteGoes b w pt l m r
  route_goes = route_by (x.to.at == here (w.nodes m)) refl

-- Lines and then parts: what a machine gives, what the wires have of it, and what the rule spells.

one_behind : (o : Out) (outs : List Out) (a : Acts) → behind (o ∷ []) (behind outs a) ≡ behind (o ∷ outs) a
one_behind o outs a = grind (arith, nat_tests)

-- what a machine gives
pub acts_say : (n : NodeState) (ls : List Line) (ps : List Part) → acts n (map Part.Says ls ++ ps) ≡ behind (map Out.Says ls) (acts n ps)
acts_say n [] ps = sym (let e_ : behind [] (acts n ps) ≡ (acts n ps) = grind (arith, nat_tests) in e_)
acts_say n (l ∷ ls) ps = ap (behind (Out.Says l ∷ [])) (acts_say n ls ps) ∙ one_behind (Out.Says l) (map Out.Says ls) (acts n ps)

-- what is printed of it, and what the wires have
pub spoken_says : (wires : ℕ → ℕ → List Sent) (ls : List Line) (outs : List Out) → spoken wires (map Out.Says ls ++ outs) ≡ record { lines = ls ++ (spoken wires outs).lines; wires = (spoken wires outs).wires }
spoken_says wires [] outs = refl
spoken_says wires (l ∷ ls) outs = ap (says l) (spoken_says wires ls outs)

-- which pair is worn out depends on how many messages the pairs have, and on nothing else
abbrev pub SameIds : View → View → Type 0
SameIds v w = (a c : ℕ) → (w.pair a c).ids ≡ (v.pair a c).ids

line_alike : (v w : View) (l : Line) → SameIds v w → SameIds (view_after v l) (view_after w l)
line_alike v w l h c d = grind (arith, nat_tests, line_ids)

full_alike : (numbers : ℕ) (v w : View) (x : Act) → SameIds v w → full_route numbers w x ≡ full_route numbers v x
full_alike numbers v w x h = grind (arith, nat_tests, nat_le)

pub worn_alike : (numbers : ℕ) (ls : List Line) (v w : View) → SameIds v w → worn_in numbers w ls ≡ worn_in numbers v ls
worn_alike numbers [] v w h = refl
worn_alike numbers (l ∷ ls) v w h = λ i. or (full_alike numbers v w (act_of l) h i) (worn_alike numbers ls (view_after v l) (view_after w l) (line_alike v w l h) i)

-- such lines wear no pair out
-- a line that is no put wears nothing out
pub worn_behind : (numbers : ℕ) (ls : List Line) (pt next : Point) (ms : List Line) (ps : List rule.Part) → AllSayable (map rule.Says ls ++ ps) → after pt ls ≡ Some next
    → worn_in numbers pt.view (ls ++ ms) ≡ worn_in numbers next.view ms
worn_behind numbers [] pt next ms ps fits comes = let same : pt ≡ next = cc in ap (λ (n : Point). worn_in numbers n.view ms) same
worn_behind numbers (l ∷ ls) pt next ms ps fits comes =
    let (n, one, more) = bind-is (after_line pt l) (λ (n : Point). after n ls) next comes in
    let (s, there, is) = bind-is (kernel_after pt.kernel (label_of l)) (λ (s : OneKernel). Some (moved pt l s)) n one in
    let same : moved pt l s ≡ n = cc in
    ap (λ (o : Option Two). or o (worn_in numbers (view_after pt.view l) (ls ++ ms))) (let e_ : full_route numbers pt.view (act_of l) ≡ None = grind (arith, nat_tests, fits.0) in e_)
    ∙ worn_alike numbers (ls ++ ms) (seen pt.kernel pt.view l) (view_after pt.view l) (λ a c. refl)
    ∙ ap (λ (k : Point). worn_in numbers k.view (ls ++ ms)) same ∙ worn_behind numbers ls n next ms ps fits.1 more

-- and leave what was told as it was
pub says_sane : (ls : List Line) (pt next : Point) (ps : List rule.Part) → AllSayable (map rule.Says ls ++ ps) → after pt ls ≡ Some next → Sane pt → Sane next
says_sane [] pt next ps fits comes h = let same : pt ≡ next = cc in subst Sane same h
says_sane (l ∷ ls) pt next ps fits comes h =
    let (n, one, more) = bind-is (after_line pt l) (λ (n : Point). after n ls) next comes in
    says_sane ls n next ps fits.1 more (sane_line pt n l fits.0 one h)

-- what follows the lines is spelled from where they lead
pub says_rest : (ls : List Line) (pt next : Point) (ps : List rule.Part) (w : Spelled) → spelled pt (map rule.Says ls ++ ps) ≡ Some w → after pt ls ≡ Some next → (v : Spelled) × (spelled next ps ≡ Some v) × (rule.behind ls v ≡ w)
says_rest [] pt next ps w e comes = let same : pt ≡ next = cc in (w, ap (λ (n : Point). spelled n ps) (sym same) ∙ e, refl)
says_rest (l ∷ ls) pt next ps w e comes =
    let (n, one, more) = bind-is (after_line pt l) (λ (n : Point). after n ls) next comes in
    let k : Next pt (rule.Says l) (map rule.Says ls ++ ps) w = next_of pt (rule.Says l) (map rule.Says ls ++ ps) w e in
    let lines : l ∷ [] ≡ k.lines = (let f : Some (l ∷ []) ≡ Some k.lines = k.is in cc) in
    let place : Some n ≡ Some k.next = sym (ap (λ (o : Option Point). bind o (λ (z : Point). after z [])) one) ∙ ap (after pt) lines ∙ k.leads in
    let same : n ≡ k.next = cc in
    let (v, is, whole) = says_rest ls n next ps k.rest (ap (λ (z : Point). spelled z (map rule.Says ls ++ ps)) same ∙ k.on) more in
    (v, is, ap (rule.behind (l ∷ [])) whole ∙ ap (λ (xs : List Line). rule.behind xs k.rest) lines ∙ k.whole)
