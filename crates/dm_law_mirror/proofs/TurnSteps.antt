-- A turn, or a directive to move a process: the machine says and routes what the rule spells, or stops worn.
use Rattle.dm_law_mirror.proofs.Names.{◌≡◌, ℕ, ◌+◌, ◌<◌, ◌≤◌, ◌==◌, List, [], ◌∷◌, ◌++◌, length, map, refl, ap, ◌∙◌, sym, subst, inl, inr, All, Option, Some, cases_Bool, eqb-true, All-head, All-tail, Boot, OneKernel, bind, bind-is, Step, Line}
use Rattle.dm_law_mirror.proofs.Names.{Stage, Out, Spelled, spelled, Point, after_line, moved, group_of, outcome, at_machine, standing, About, Pair, begins, worn_in, PairsFit, AllSayable, Sane, outcome_sayable, sane_line, machine_of, Run}
use Rattle.dm_law_mirror.proofs.Names.{Placed, Mirrors, lines_keep, IsLawfulPart, IsLawfulTurned, NodeState, Acts, Goes, Worn, acts, Spoken, spoken, WorldState, acted, world_step, GoesOn, StopsWorn, Steps, CountsStand, History, StandsWith, Pid}
use Rattle.dm_law_mirror.proofs.Names.{IsMachine, IsValid, NothingElse, Target, goes_on, RunGoes, OwnTold, asks_move, MayTurn, turn, asked_lawful, turn_lawful, Part, called_off_lawful, calls_off, Happened, over_in, with_over, Acted}
use Rattle.dm_law_mirror.proofs.Names.{KernelState, Why, before_turn, Bool, false, if◌then◌else◌, None, spelled, Happened}
use Rattle.dm_law_rule.specs.View.{actor, has_seat}
use Rattle.dm_law_rule.specs.Migrating.{migrates_to}
use Rattle.dm_law_rule.specs.Addresses.{known_place}
use Rattle.std.proofs.lemmas.List.{append_assoc}
use Rattle.dm_law_rule.proofs.Groups.{fits}
use Rattle.dm_world.specs.World.{asks_at, seat_of, turned}
use Rattle.dm_onekernel.specs.Step as kernel
use Rattle.dm_law_mirror.proofs.Over.{acts_over, kept_over, still_over}
use Rattle.dm_law_rule.specs.Parts as rule
use Rattle.dm_kernel.specs.State as machine
use Rattle.dm_node.specs.Acts as node
use Rattle.dm_law_mirror.proofs.Turning.{Route, Late, Nothing, Leaves, Turns, late_parts, late_point, late_rule_parts, part_of, rule_part_of, TurnsAt}
use Rattle.dm_law_mirror.proofs.Puts.{stands_begins}
use Rattle.dm_law_mirror.proofs.Route.List.{AreLawful, IsLawfulLate, Going, RoutesOn, RoutesWorn, late_acting, late_count, late_kernel, routes_go}
use Rattle.dm_law_mirror.proofs.Others.{MadeHere}
use Rattle.dm_law_mirror.proofs.Join.{turned_here, turned_records, turned_stands, with_kernel, with_turned, made_here, stands_within}
use Rattle.dm_law_mirror.proofs.Route.Puts.{late_pair}
use Rattle.dm_law_mirror.proofs.Streams.{at_again, at_here, at_other}
use Rattle.dm_law_mirror.proofs.Routing.{acts_say, says_rest, says_sane, spoken_says, worn_behind}
use Rattle.dm_node.proofs.Names.{behind}

-- what is routed is lawful
said_lawful : (ls : List Line) (ps : List Part) → All IsLawfulPart (map Part.Says ls ++ ps) → All IsLawfulPart ps
said_lawful [] ps h = h
said_lawful (l ∷ ls) ps h = said_lawful ls ps (All-tail IsLawfulPart (Part.Says l) (map Part.Says ls ++ ps) h)

routes_lawful : (rs : List Route) (ps : List Part) → All IsLawfulPart (map part_of rs ++ ps) → AreLawful rs × All IsLawfulPart ps
routes_lawful [] ps h = (tt, h)
routes_lawful (r ∷ rs) ps h =
    let k = routes_lawful rs ps (All-tail IsLawfulPart (part_of r) (map part_of rs ++ ps) h) in
    ((All-head IsLawfulPart (part_of r) (map part_of rs ++ ps) h, k.0), k.1)

late_lawful : (late : Late) → All IsLawfulPart (late_parts late) → IsLawfulLate late
late_lawful Nothing h = tt
late_lawful (Leaves p x) h = All-head IsLawfulPart (Part.Routes x) [] (All-tail IsLawfulPart (Part.Says (Line.Migration Stage.Left p)) (Part.Routes x ∷ []) h)

-- the line of a process that leaves changes nothing of these
late_sane : (q : Point) (late : Late) → Sane q → Sane (late_point q late)
late_sane q Nothing h = h
late_sane q (Leaves p x) h = sane_line q (moved q (Line.Migration Stage.Left p) q.kernel) (Line.Migration Stage.Left p) refl refl h

late_mirrors : (q : Point) (late : Late) (l : Placed) → Mirrors q.kernel q.view q.addresses l → Mirrors (late_point q late).kernel (late_point q late).view (late_point q late).addresses l
late_mirrors q Nothing l h = h
late_mirrors q (Leaves p x) l h = lines_keep q (moved q (Line.Migration Stage.Left p) q.kernel) l (Line.Migration Stage.Left p) tt h refl

late_made : (m n : ℕ) (start q : Point) (late : Late) → MadeHere m n start q → MadeHere m n start (late_point q late)
late_made m n start q Nothing h = h
late_made m n start q (Leaves p x) h = record { more = h.more; fresh = h.fresh }

-- a directive that machine m acts on, with what its kernel does, and why the world then keeps that processes ended
pub record Acting (b : Boot) (w : WorldState) (pt : Point) (m : ℕ) (d : Step) (o : Option machine.Turned) (a : About) : Type 0 where
  pub head : after_line pt (Line.Head d) ≡ Some (record pt { view = begins pt.view m a })
  pub kept : Option Acts → Pid → Option Why
  pub happens : world_step b w d ≡ turned (record w { ended = kept (node.turns (w.nodes m) o) }) d m (node.turns (w.nodes m) o)

module _ (b : Boot) (w : WorldState) (pt : Point) (l : Placed) (h : History) (m : ℕ) (d : Step) (o : Option machine.Turned) (a : About) (e : Acting b w pt m d o a) (run : Run b pt) (stands : StandsWith b w pt l h) (sent : CountsStand w pt) (below : m < pt.kernel.machines)
    (ready : KernelState) (counted : ready.sent ≡ pt.view.count m) (t : Turns b m d o pt (record pt { view = begins pt.view m a }) l (λ n. (w.nodes n).kernel.records) ready)
    (keeps : (c : Acted) → c.state.kernel.over ≡ t.state.over → (p : Pid) → e.kept (Some (Goes c)) p ≡ kernel.why_ended (t.next.kernel.processes p))
    (lawful : IsLawfulTurned (record { state = t.state; parts = map Part.Says t.says ++ map part_of t.routes ++ late_parts t.late }))
    (group : Spelled) (due : group_of b pt d ≡ Some group) (ends : Run b group.point) where
  abbrev start : Point
  start = record pt { view = begins pt.view m a }

  abbrev rest : List rule.Part
  rest = map rule_part_of t.routes ++ late_rule_parts t.late

  abbrev head : Line
  head = Line.Head d

  outcome_is : outcome b pt d ≡ Some (map rule.Says t.says ++ rest)
  outcome_is = t.outcome ∙ ap (λ (ps : List rule.Part). Some ps) (append_assoc (map rule.Says t.says) (map rule_part_of t.routes) (late_rule_parts t.late))

  abbrev sends : List Part
  sends = map part_of t.routes ++ late_parts t.late

  parts_are : (map Part.Says t.says ++ map part_of t.routes) ++ late_parts t.late ≡ map Part.Says t.says ++ sends
  parts_are = append_assoc (map Part.Says t.says) (map part_of t.routes) (late_parts t.late)

  spells : (v : Spelled) × (spelled t.next rest ≡ Some v) × (rule.behind (head ∷ []) (rule.behind t.says v) ≡ group)
  spells =
      let f : bind (spelled start (map rule.Says t.says ++ rest)) (λ (y : Spelled). Some (rule.behind (head ∷ []) y)) ≡ Some group =
      sym (ap (λ (p : Option (List rule.Part)). bind p (λ (ps : List rule.Part). bind (after_line pt head) (λ (n : Point). bind (spelled n ps) (λ (y : Spelled). Some (rule.behind (head ∷ []) y))))) outcome_is
      ∙ ap (λ (p : Option Point). bind p (λ (n : Point). bind (spelled n (map rule.Says t.says ++ rest)) (λ (y : Spelled). Some (rule.behind (head ∷ []) y)))) e.head) ∙ due in
      let (y, is, last) = bind-is (spelled start (map rule.Says t.says ++ rest)) (λ (y : Spelled). Some (rule.behind (head ∷ []) y)) group f in
      let g : rule.behind (head ∷ []) y ≡ group = cc in
      let (v, on, whole) = says_rest t.says start t.next rest y is t.after in
      (v, on, ap (rule.behind (head ∷ [])) whole ∙ g)

  abbrev v : Spelled
  v = spells.0

  end_point : v.point ≡ group.point
  end_point = ap (λ (y : Spelled). y.point) spells.2

  sayable : AllSayable (map rule.Says t.says ++ rest)
  sayable = outcome_sayable b pt d (map rule.Says t.says ++ rest) outcome_is

  abbrev begun : WorldState
  begun = record w { groups = w.groups + 1 }

  abbrev world : WorldState
  world = record (with_turned begun m t.state) { ended = λ p. kernel.why_ended (t.next.kernel.processes p) }

  stood : StandsWith b world (late_point t.next t.late) t.placed h
  stood =
      turned_stands b begun start (late_point t.next t.late) l t.placed h m t.state (stands_begins b w pt l h m a stands) below
      (λ i apart. late_made m i start t.next t.late (made_here b pt start t.next t.says m i run refl refl t.after)) t.elsewhere (late_mirrors t.next t.late t.placed t.mirrors) t.kernel lawful.state t.own t.tokens (λ p. kernel.why_ended (t.next.kernel.processes p)) (λ p. ap (λ (s : OneKernel). kernel.why_ended (s.processes p)) (sym (late_kernel t.next t.late)))

  parts_lawful : AreLawful t.routes × IsLawfulLate t.late
  parts_lawful =
      let k = routes_lawful t.routes (late_parts t.late) (said_lawful t.says sends (subst (λ (ps : List Part). All IsLawfulPart ps) parts_are lawful.parts.each)) in
      (k.0, late_lawful t.late k.1)

  pair_is : (c n : ℕ) → t.next.view.pair c n ≡ pt.view.pair c n
  pair_is c n = ap (λ (f : ℕ → ℕ → Pair). f c n) (sym (late_pair t.next t.late)) ∙ t.elsewhere.pair c n

  pairs_fit : PairsFit t.next.view
  pairs_fit =
      let k = fits pt.view run.based.phased.pairs in
      record {
        within = λ c n. subst (λ (p : Pair). p.taken ≤ length p.ids) (sym (pair_is c n)) (k.within c n);
        home = λ c. subst (λ (p : Pair). p.taken ≡ length p.ids) (sym (pair_is c c)) (k.home c);
      }

  going : Going b world t.next t.placed h m (at_machine (λ (n : ℕ). (w.nodes n).kernel.records) m t.state.records) t.routes t.late v
  going = record {
    stands = stood;
    here = subst (λ (n : ℕ). m < n) (sym (ap (λ (s : OneKernel). s.machines) (sym (late_kernel t.next t.late)) ∙ t.elsewhere.machines)) below;
    acting = sym (late_acting t.next t.late) ∙ t.elsewhere.acting;
    lawful = parts_lawful.0;
    late_lawful = parts_lawful.1;
    sane = late_sane t.next t.late (says_sane t.says start t.next rest sayable t.after (sane_line pt start head refl e.head run.based.phased.sane));
    fits = pairs_fit;
    may = t.may;
    late_may = t.late_may;
    same = λ n. turned_records begun m t.state n;
    topic = t.topic;
    due = spells.1;
    within = λ i z st. subst (λ (p : Point). machine_of z < p.kernel.machines) (sym end_point) (stands_within b group.point ends i z (subst (λ (p : Point). 1 ≤ standing p.view i z) end_point st));
    sent = ap (λ (n : NodeState). n.kernel.sent) (turned_here begun m t.state) ∙ t.sent counted;
  }

  -- what the machine does
  abbrev step_of : Option Acts → Option Happened
  step_of c = turned (record w { ended = e.kept c }) d m c

  does : (c : Acts) → acts (world.nodes m) (map part_of t.routes ++ late_parts t.late) ≡ c → world_step b w d ≡ step_of (Some (behind (map Out.Says t.says) c))
  does c is =
      e.happens
      ∙ ap (λ (p : Option machine.Turned). step_of (node.turns (w.nodes m) p)) (t.turn ∙ ap (λ (ps : List Part). Some (record { state = t.state; parts = ps })) parts_are)
      ∙ ap (λ (x : Acts). step_of (Some x)) (acts_say (with_kernel (w.nodes m) t.state) t.says (map part_of t.routes ++ late_parts t.late))
      ∙ ap (λ (x : Acts). step_of (Some (behind (map Out.Says t.says) x))) (ap (λ (n : NodeState). acts n (map part_of t.routes ++ late_parts t.late)) (sym (turned_here begun m t.state)) ∙ is)

  goes : RoutesOn b world t.next m t.routes t.late v → GoesOn b w pt d
  goes k =
      let gave : spoken w.wires (map Out.Says t.says ++ k.acted.outs) ≡ record { lines = t.says ++ (spoken w.wires k.acted.outs).lines; wires = (spoken w.wires k.acted.outs).wires } = spoken_says w.wires t.says k.acted.outs in
      let done : Acted = record { state = k.acted.state; outs = map Out.Says t.says ++ k.acted.outs } in
      let over_is : k.acted.state.kernel.over ≡ t.state.over = acts_over (world.nodes m) (map part_of t.routes ++ late_parts t.late) (Goes k.acted) k.goes ∙ ap (λ (n : NodeState). n.kernel.over) (turned_here begun m t.state) in
      record {
        said = acted (record w { ended = e.kept (Some (Goes done)) }) d m done;
        happens = does (Goes k.acted) k.goes;
        group = group;
        due = due;
        lines = ap (λ (s : Spoken). head ∷ s.lines) gave ∙ ap (λ (ls : List Line). head ∷ t.says ++ ls) k.spoken ∙ ap (λ (y : Spelled). y.lines) spells.2;
        stands = (
          (
            k.placed,
            k.history,
            subst (λ (p : Point). StandsWith b (record { nodes = at_machine w.nodes m k.acted.state; wires = (spoken w.wires (map Out.Says t.says ++ k.acted.outs)).wires; ended = e.kept (Some (Goes done)); groups = w.groups + 1 }) p k.placed k.history) end_point
                (subst (λ (u : WorldState). StandsWith b u v.point k.placed k.history)
                (λ i. record { nodes = at_again w.nodes m (with_kernel (w.nodes m) t.state) k.acted.state i; wires = (sym gave i).wires; ended = λ p. sym (keeps done over_is p) i; groups = w.groups + 1 }) k.stands),
          ),
          λ n few. elim (cases_Bool (m == n)) [
            | inl same ↦
                subst (λ (j : ℕ). (at_machine w.nodes m k.acted.state j).kernel.sent ≡ group.point.view.count j) (eqb-true m n same)
                (ap (λ (z : NodeState). z.kernel.sent) (at_here w.nodes m k.acted.state) ∙ k.sent ∙ ap (λ (p : Point). p.view.count m) end_point)
            | inr off ↦
                ap (λ (z : NodeState). z.kernel.sent) (at_other w.nodes m k.acted.state n off) ∙ sent n (machines_are n few)
                ∙ sym (t.elsewhere.count n) ∙ ap (λ (f : ℕ → ℕ). f n) (late_count t.next t.late)
                ∙ sym (k.counts n off) ∙ ap (λ (p : Point). p.view.count n) end_point
          ],
        );
      }
    where
      machines_are : (n : ℕ) → n < group.point.kernel.machines → n < pt.kernel.machines
      machines_are n few = subst (λ (j : ℕ). n < j) (ends.based.machines ∙ sym run.based.machines) few

  head_is : moved pt head pt.kernel ≡ start
  head_is = let f : Some (moved pt head pt.kernel) ≡ Some start = e.head in cc

  wears : RoutesWorn b world t.next m t.routes t.late v → StopsWorn b w pt d
  wears k = search (
    does (Worn k.from k.to) k.worn,
    ap (worn_in b.numbers pt.view) (ap (λ (y : Spelled). y.lines) (sym spells.2)) ∙ ap (λ (p : Point). worn_in b.numbers p.view (t.says ++ v.lines)) head_is ∙ worn_behind b.numbers t.says start t.next v.lines rest sayable t.after ∙ k.first,
  )

  pub turn_steps : Steps b w pt d
  turn_steps = elim (routes_go b world t.next t.placed h m (at_machine (λ (n : ℕ). (w.nodes n).kernel.records) m t.state.records) t.routes t.late v going) as (λ z. Steps b w pt d) [
    | inl k ↦ inl (goes k)
    | inr k ↦ inr (wears k)
  ]

-- A turn, and a directive to move a process: the machine does what the rule says, or stops worn.

-- a turn of machine m from where the world stands
pub turn_goes : RunGoes → (b : Boot) (w : WorldState) (pt : Point) (l : Placed) (h : History) (m : ℕ) → IsValid b → Run b pt → OwnTold pt → MayTurn b (w.nodes m).kernel → StandsWith b w pt l h → CountsStand w pt → m < pt.kernel.machines
    → TurnsAt b m pt l (λ n. (w.nodes n).kernel.records) (before_turn (w.nodes m).kernel) → Steps b w pt (Step.Turn m)
turn_goes goes b w pt l h m valid run own may stands sent below t =
    let (group, due) = goes_on b pt (Step.Turn m) valid run own below in
    turn_steps b w pt l h m (Step.Turn m) (turn b (w.nodes m).kernel) NothingElse (record { head = refl; kept = λ c. with_over w.ended (over_in c); happens = refl }) run stands sent below (before_turn (w.nodes m).kernel) (sent m below) t
    (λ c is p. ap (λ (o : Option (Pid × Why)). with_over w.ended o p) is ∙ kept_over w.ended (Step.Turn m) pt.kernel t.next.kernel t.state.over stands.ended t.over p)
    (turn_lawful b (w.nodes m).kernel (record { state = t.state; parts = map Part.Says t.says ++ map part_of t.routes ++ late_parts t.late }) valid.images may (stands.nodes m below).lawful t.turn)
    group due (goes b pt (Step.Turn m) group valid below due run own)

-- the manager, on its seat m, tells a process or a server to move
pub move_goes : RunGoes → (b : Boot) (w : WorldState) (pt : Point) (l : Placed) (h : History) (p : Pid) (to m : ℕ) → IsValid b → Run b pt → OwnTold pt → seat_of (length b.machines) w.nodes ≡ Some m → actor pt.view (Step.Migrate p to) ≡ m → (w.nodes m).kernel.here < 16 → IsMachine to
    → StandsWith b w pt l h → CountsStand w pt → m < pt.kernel.machines → to < pt.kernel.machines
    → Turns b m (Step.Migrate p to) (asks_move (w.nodes m).kernel p to) pt (moved pt (Line.Head (Step.Migrate p to)) pt.kernel) l (λ n. (w.nodes n).kernel.records) (w.nodes m).kernel → Steps b w pt (Step.Migrate p to)
move_goes goes b w pt l h p to m valid run own seat acts here machine stands sent below within asked =
    let d = Step.Migrate p to in
    let (group, due) = goes_on b pt d valid run own within in
    let start : ℕ → Point = λ n. record pt { view = begins pt.view n (Target to) } in
    let t = subst (λ (q : Point). Turns b m d (asks_move (w.nodes m).kernel p to) pt q l (λ n. (w.nodes n).kernel.records) (w.nodes m).kernel) (ap start acts) asked in
    turn_steps b w pt l h m d (asks_move (w.nodes m).kernel p to) (Target to) (record { head = ap (λ (n : ℕ). Some (start n)) acts; kept = λ c. w.ended; happens = ap (asks_at w d p to) seat }) run stands sent below (w.nodes m).kernel (sent m below) t
    (λ c is. still_over w.ended d pt.kernel t.next.kernel (w.nodes m).kernel.over t.state.over (λ n e. cc) stands.ended t.over)
    (asked_lawful (w.nodes m).kernel p to (record { state = t.state; parts = map Part.Says t.says ++ map part_of t.routes ++ late_parts t.late }) here machine (stands.nodes m below).lawful t.turn)
    group due (goes b pt d group valid within due run own)

-- while the manager is on its way, none is told
abbrev away_point : Point → Pid → ℕ → Point
away_point pt p to = moved (moved pt (Line.Head (Step.Migrate p to)) pt.kernel) Line.Away pt.kernel

pub away_goes : (b : Boot) (w : WorldState) (pt : Point) (l : Placed) (h : History) (p : Pid) (to : ℕ) → seat_of (length b.machines) w.nodes ≡ None → has_seat pt.view ≡ false → StandsWith b w pt l h → CountsStand w pt
    → Steps b w pt (Step.Migrate p to)
away_goes b w pt l h p to seat away stands sent =
    let d = Step.Migrate p to in
    let at : ℕ = actor pt.view d in
    let next : Point = away_point pt p to in
    let group : Spelled = record { lines = Line.Head d ∷ Line.Away ∷ []; point = next } in
    let quiet : outcome b pt d ≡ Some (rule.Says Line.Away ∷ []) = ap (λ (c : Bool). Some (if c then migrates_to p (known_place pt.kernel pt.view pt.view.seat pt.addresses p) else rule.Says Line.Away ∷ [])) away in
    let due : group_of b pt d ≡ Some group =
    ap (λ (o : Option (List rule.Part)). bind o (λ (ps : List rule.Part). bind (after_line pt (Line.Head d)) (λ (q : Point). bind (spelled q ps) (λ (s : Spelled). Some (rule.behind (Line.Head d ∷ []) s))))) quiet in
    let begun : WorldState = record w { groups = w.groups + 1 } in
    let happens : world_step b w d ≡ Some (Happened.Says (record { state = begun; lines = Line.Head d ∷ Line.Away ∷ [] })) = ap (asks_at w d p to) seat in
    inl (record {
      said = record { state = begun; lines = Line.Head d ∷ Line.Away ∷ [] };
      happens = happens;
      group = group;
      due = due;
      lines = refl;
      stands = (
        (l, h, away_stands (stands_begins b w pt l h at (Target to) stands)),
        λ n few. sent n few,
      );
    })
  where
    away_stands : StandsWith b (record w { groups = w.groups + 1 }) (record pt { view = begins pt.view (actor pt.view (Step.Migrate p to)) (Target to) }) l h → StandsWith b (record w { groups = w.groups + 1 }) (away_point pt p to) l h
    away_stands s = s

-- a machine calls off what comes to it
pub call_goes : RunGoes → (b : Boot) (w : WorldState) (pt : Point) (l : Placed) (h : History) (p : Pid) (m : ℕ) → IsValid b → Run b pt → OwnTold pt → (w.nodes m).kernel.here < 16 → StandsWith b w pt l h → CountsStand w pt → m < pt.kernel.machines
    → Turns b m (Step.CallOff p m) (calls_off (w.nodes m).kernel p) pt (moved pt (Line.Head (Step.CallOff p m)) pt.kernel) l (λ n. (w.nodes n).kernel.records) (w.nodes m).kernel → Steps b w pt (Step.CallOff p m)
call_goes goes b w pt l h p m valid run own here stands sent below t =
    let (group, due) = goes_on b pt (Step.CallOff p m) valid run own below in
    turn_steps b w pt l h m (Step.CallOff p m) (calls_off (w.nodes m).kernel p) NothingElse (record { head = refl; kept = λ c. w.ended; happens = refl }) run stands sent below (w.nodes m).kernel (sent m below) t
    (λ c is. still_over w.ended (Step.CallOff p m) pt.kernel t.next.kernel (w.nodes m).kernel.over t.state.over (λ n e. cc) stands.ended t.over)
    (called_off_lawful (w.nodes m).kernel p (record { state = t.state; parts = map Part.Says t.says ++ map part_of t.routes ++ late_parts t.late }) here (stands.nodes m below).lawful t.turn)
    group due (goes b pt (Step.CallOff p m) group valid below due run own)
