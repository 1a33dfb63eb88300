-- Each group keeps that rings list what is here, and that nothing is known of what was never made.
use Rattle.dm_law_rule.proofs.Names.{◌≡◌, ℕ, ◌+◌, ◌==◌, Bool, false, List, [], ◌∷◌, length, refl, ap, ◌∙◌, subst, arith, if◌then◌else◌, slice_get, Option, Some, nat_tests, Pid, pid_of, MsgId, MessageKind, plain_kind, Boot, first_number, bind}
use Rattle.dm_law_rule.proofs.Names.{OneKernel, Step, Line, Load, Told, Known, Here, own_id, Receiver, Point, label_of, kernel_after, moved, after_line, after, Part, Says, Routes, Again, Owns, Transmits, Spelled, lines_of, puts, goes_out}
use Rattle.dm_law_rule.proofs.Names.{packet_line, behind, spelled, migrates, is_between, Moves, knows, group_of, bind-is, next_is_new, calls_off, to_kernel, sort_of, pulls_piece, none_some}
use Rattle.dm_onekernel.specs.Step as kernel
use Rattle.dm_law_rule.specs.Rule as rule
use Rattle.dm_law_rule.proofs.Groups.{group_is, arrives_net, resends_net}
use Rattle.dm_law_rule.proofs.Telling.{Sane, AllSayable, sane_line, part_sane, outcome_sayable}
use Rattle.dm_law_rule.proofs.Phases.Stand.{InPhases, calm_phases}
use Rattle.dm_law_rule.proofs.Phases.Answers.{due}
use Rattle.dm_law_rule.proofs.Phases.Net.{head_calm}
use Rattle.dm_law_rule.proofs.Phases.Groups.{Rooted}
use Rattle.dm_law_rule.proofs.Lives.{Kept}
use Rattle.dm_law_rule.proofs.Rings.{AllHere}
use Rattle.dm_law_rule.proofs.Rooted.Lines.{Roots, Needs, kept_by, line_roots}
use Rattle.dm_law_rule.proofs.Rooted.Rows.{NeedsPart, First, FirstOf, loose_first, AllLoose}
use Rattle.dm_law_rule.proofs.Rooted.Turns.{Asks, BuriesAway, turns_first, net_loose, again_loose}
use Rattle.dm_law_rule.proofs.Requests.{by_migrates, by_calls_off}

abbrev pub Grounded : Point → Type 0
Grounded pt = Roots pt.kernel pt.view

-- what was made stays so on the way
record Onto (pt next : Point) : Type 0 where
  ground : Grounded next
  kept : Kept pt.kernel next.kernel

puts_ground : (pt next : Point) (b : ℕ) (i : MsgId) (k : MessageKind) (q : Pid) (ls : List Line) → Grounded pt → Some (puts pt.view b i k q) ≡ Some ls → after pt ls ≡ Some next → Onto pt next
puts_ground pt next b i k q ls h is leads =
    let puts_by : (pt next : Point) (b : ℕ) (i : MsgId) (k : MessageKind) (q : Pid) (c d : Bool) → Grounded pt
    → after pt (Line.Put pt.view.acting b i k q ∷ (if c then [] else if d then packet_line pt.view pt.view.acting b (Load.Data (length (pt.view.pair pt.view.acting b).ids)) ∷ [] else [])) ≡ Some next → Onto pt next =
    λ pt next b i k q c d h1 h2.
    let quiet_packet : (pt : Point) (a b k : ℕ) (l : Load) → Grounded pt → Grounded (moved pt (Line.Packet a b k l) pt.kernel) = λ pt a b k l h. record { rings = record { each = h.rings.each }; lives = record { none = h.lives.none } } in
    -- puts and packets change neither
    let quiet_put : (pt : Point) (a b : ℕ) (i : MsgId) (k : MessageKind) (q : Pid) → Grounded pt → Grounded (moved pt (Line.Put a b i k q) pt.kernel) =
    λ pt a b i k q h. record { rings = record { each = h.rings.each }; lives = record { none = h.lives.none } } in
    search (arith, quiet_put, quiet_packet) in
    puts_by pt next b i k q (pt.view.acting == b) (goes_out (pt.view.pair pt.view.acting b)) h (ap (after pt) (let f : puts pt.view b i k q ≡ ls = cc in f) ∙ leads)

one_line : (pt next : Point) (l : Line) (ls : List Line) → Needs pt l → Sane pt → Some (l ∷ []) ≡ Some ls → after pt ls ≡ Some next → Grounded pt → Onto pt next
one_line pt next l ls need sane is leads h =
    let (mid, first, last) = bind-is (after_line pt l) (λ q. after q []) next (ap (after pt) (let f : l ∷ [] ≡ ls = cc in f) ∙ leads) in
    let (s, step_, then_) = bind-is (kernel_after pt.kernel (label_of l)) (λ s. Some (moved pt l s)) mid first in
    subst (Onto pt) ((let g : moved pt l s ≡ mid = cc in g) ∙ (let e : mid ≡ next = cc in e)) (record { ground = line_roots pt s l need sane step_ h; kept = kept_by pt.kernel s (label_of l) pt sane refl step_ })

part_ground : (pt next : Point) (p : Part) (ls : List Line) → NeedsPart pt p → Sane pt → lines_of pt p ≡ Some ls → after pt ls ≡ Some next → Grounded pt → Onto pt next
part_ground pt next (Says l) ls need sane is leads h = one_line pt next l ls need sane is leads h
part_ground pt next (Routes i) ls need sane is leads h =
    let (m, there, last) = bind-is (pt.kernel.bag i) (λ m. Some (puts pt.view (pt.addresses (Receiver i)).at i (plain_kind m.what) m.to)) ls is in
    puts_ground pt next (pt.addresses (Receiver i)).at i (plain_kind m.what) m.to ls h last leads
part_ground pt next (Again i b) ls need sane is leads h =
    let (t, there, last) = bind-is (pt.view.told i) (λ t. Some (puts pt.view b i t.kind t.receiver)) ls is in
    puts_ground pt next b i t.kind t.receiver ls h last leads
part_ground pt next (Owns k q b) ls need sane is leads h = puts_ground pt next b (own_id pt.view) k q ls h is leads
part_ground pt next (Transmits a b l) ls need sane is leads h = one_line pt next (packet_line pt.view a b l) ls tt sane is leads h

parts_ground : (ps : List Part) (pt : Point) (w : Spelled) → AllSayable ps → First pt ps → Sane pt → spelled pt ps ≡ Some w → Grounded pt → Grounded w.point
parts_ground [] pt w ok need sane is h = let f : record { lines = []; point = pt } ≡ w = cc in subst (λ (x : Spelled). Grounded x.point) f h
parts_ground (p ∷ ps) pt w ok need sane is h =
    let (ls, lines, rest) = bind-is (lines_of pt p) (λ (xs : List Line). bind (after pt xs) (λ (q : Point). bind (spelled q ps) (λ (z : Spelled). Some (behind xs z)))) w is in
    let (next, leads, last) = bind-is (after pt ls) (λ (q : Point). bind (spelled q ps) (λ (z : Spelled). Some (behind ls z))) w rest in
    let (z, more, end) = bind-is (spelled next ps) (λ (y : Spelled). Some (behind ls y)) w last in
    let onto = part_ground pt next p ls need.0 sane lines leads h in
    subst (λ (x : Spelled). Grounded x.point) (let f : behind ls z ≡ w = cc in f) (parts_ground ps next z ok.1 (loose_first pt.kernel next ps onto.kept need.1) (part_sane pt next p ls ok.0 lines leads sane) more onto.ground)

-- what the phases say: a process that is asked for is here nowhere
pub moves_away : (k : MessageKind) (s d m : ℕ) (o : Option MsgId) (b c : Bool) → (s == m) ≡ b → (d == m) ≡ c → knows (Moves k s d o) m Here ≡ false
moves_away k s d m o b c h1 h2 = search arith

-- what is served is in the ring
served_if : (s : OneKernel) (queue : Pid → List MsgId) (f : Pid → Known) (p q : Pid) (ps : List Pid) (c : Bool) → (if c then Some p else rule.first_runnable s queue ps) ≡ Some q → f p ≡ Here → (rule.first_runnable s queue ps ≡ Some q → f q ≡ Here) → f q ≡ Here
served_if s queue f p q ps c h1 h2 h3 = grind (arith, nat_tests)

served_here : (s : OneKernel) (queue : Pid → List MsgId) (f : Pid → Known) (q : Pid) (ps : List Pid) → AllHere f ps → rule.first_runnable s queue ps ≡ Some q → f q ≡ Here
served_here s queue f q [] h e = none_some q e
served_here s queue f q (p ∷ ps) h e = served_if s queue f p q ps (rule.can_go s (queue p) (kernel.alive (s.processes p))) e h.0 (λ k. served_here s queue f q ps h.1 k)

pub rooted : (pt : Point) → Sane pt → Grounded pt → Rooted pt
rooted pt sane h = record {
  served = λ m p is. served_here pt.kernel (pt.view.queue m) (pt.view.known m) p (pt.view.ring m) (h.rings.each m) is;
  unborn = λ m n. h.lives.none (pid_of m (first_number + pt.kernel.made m)) (next_is_new pt.kernel m sane.sound.made) (omega arith) n;
}

-- a group
abbrev pub begun : Point → Step → Point
begun pt d = moved pt (Line.Head d) pt.kernel

pub begun_sane : (pt : Point) (d : Step) → Sane pt → Sane (begun pt d)
begun_sane pt d h = sane_line pt (begun pt d) (Line.Head d) refl refl h

begun_ground : (pt : Point) (d : Step) → Sane pt → Grounded pt → Grounded (begun pt d)
begun_ground pt d sane h = line_roots pt pt.kernel (Line.Head d) tt sane refl h

first_some : (pt : Point) (o : Option (List Part)) (ps : List Part) → o ≡ Some ps → FirstOf pt o → First pt ps
first_some pt o ps e h = subst (FirstOf pt) e h

group_ground : (b : Boot) (pt : Point) (d : Step) (w : Spelled) → group_of b pt d ≡ Some w → ((ps : List Part) → rule.outcome b pt d ≡ Some ps → First (begun pt d) ps) → Sane pt → Grounded pt → Grounded w.point
group_ground b pt d w e first sane h =
    let g = group_is b pt d w e in
    subst Grounded g.point (parts_ground g.parts (begun pt d) g.rest (outcome_sayable b pt d g.parts g.is) (first g.parts g.is) (begun_sane pt d sane) g.said (begun_ground pt d sane h))

pub roots_group : (b : Boot) (pt : Point) (d : Step) (w : Spelled) → group_of b pt d ≡ Some w → InPhases pt.view → Sane pt → BuriesAway pt.view → Grounded pt → Grounded w.point
roots_group b pt (Step.Turn m) w e phases sane aways h =
    let asks_by : (pt : Point) (i : MsgId) (is : List MsgId) (t : Told) → InPhases pt.view → pt.view.inbox pt.view.acting ≡ i ∷ is → pt.view.told i ≡ Some t → Asks pt t = λ pt i is t h front told e p about here.
    let v = pt.view in
    let u = due pt i is t h p front told (ap is_between e) about (ap (λ (k : MessageKind). pulls_piece (sort_of k)) e) (ap (λ (k : MessageKind). rule.is_stale pt v.acting i k p) e) in
    search (arith, moves_away) in
    let start = begun pt (Step.Turn m) in
    let there : InPhases start.view = calm_phases pt.view start.view (head_calm pt.view (Step.Turn m)) phases in
    group_ground b pt (Step.Turn m) w e
    (λ ps is. first_some start (rule.turns b pt m (pt.view.inbox m)) ps is
    (turns_first start b pt m (pt.view.inbox m) refl (begun_ground pt (Step.Turn m) sane h).lives (λ p. refl) (λ p runs. (rooted pt sane h).served m p runs) (λ i is t front told. asks_by start i is t there front told) aways refl)) sane h
roots_group b pt (Step.Tick m) w e phases sane aways h =
    group_ground b pt (Step.Tick m) w e
    (λ ps is. first_some (begun pt (Step.Tick m)) (rule.outcome b pt (Step.Tick m)) ps is (tt, net_loose pt.kernel (rule.resends pt.view m pt.kernel.machines) (resends_net pt.view m pt.kernel.machines))) sane h
roots_group b pt (Step.Deliver a c k) w e phases sane aways h =
    let qs = rule.arrives a c (pt.view.pair a c) (pt.view.pair c a) (slice_get (pt.view.pair a c).wire k) in
    let start = begun pt (Step.Deliver a c k) in
    group_ground b pt (Step.Deliver a c k) w e
    (λ ps is. first_some start (rule.outcome b pt (Step.Deliver a c k)) ps is (loose_first pt.kernel start qs (λ q none. none) (net_loose pt.kernel qs (arrives_net a c (pt.view.pair a c) (pt.view.pair c a) (slice_get (pt.view.pair a c).wire k))))) sane h
roots_group b pt (Step.Migrate p m) w e phases sane aways h =
    let start = begun pt (Step.Migrate p m) in
    let migrates_loose : (s : OneKernel) (o : Point) (p : Pid) → AllLoose s (migrates o p) = λ s o p. by_migrates (AllLoose s) o p (λ pt k. tt, tt) (λ pt k. tt, tt) (λ n off is. (λ pt k. tt, tt)) in
    group_ground b pt (Step.Migrate p m) w e
    (λ ps is. first_some start (rule.outcome b pt (Step.Migrate p m)) ps is (loose_first pt.kernel start (migrates pt p) (λ q none. none) (migrates_loose pt.kernel pt p))) sane h
roots_group b pt (Step.CallOff p m) w e phases sane aways h =
    let start = begun pt (Step.CallOff p m) in
    let loose : AllLoose pt.kernel (calls_off pt m p (pt.view.known m p)) =
    by_calls_off (AllLoose pt.kernel) pt m p (λ q k. tt, tt) (λ from is come. (λ q k. tt, again_loose pt.kernel from (pt.view.held m p) (to_kernel MessageKind.CallOff from ∷ []) (λ q k. tt, tt))) in
    group_ground b pt (Step.CallOff p m) w e
    (λ ps is. first_some start (rule.outcome b pt (Step.CallOff p m)) ps is (loose_first pt.kernel start (calls_off pt m p (pt.view.known m p)) (λ q none. none) loose)) sane h
