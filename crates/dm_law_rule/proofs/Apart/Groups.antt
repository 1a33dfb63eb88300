-- A group has no label of a process that moves, and leaves its plain value.
use Rattle.dm_law_rule.proofs.Names.{◌≡◌, ◌≢◌, ℕ, ◌+◌, ◌==◌, Bool, true, false, List, [], ◌∷◌, ◌++◌, length, refl, ap, ◌∙◌, sym, subst, if◌then◌else◌, slice_get, Option, Some, false≢true, Pid, pid_of, MsgId, MessageKind, plain_kind, Boot, Label}
use Rattle.dm_law_rule.proofs.Names.{first_number, bind, OneKernel, Step, Load, Line, Here, own_id, Receiver, Point, label_of, kernel_after, moved, after_line, after, first_point, Part, Says, Routes, Again, Owns, Transmits, Spelled, lines_of}
use Rattle.dm_law_rule.proofs.Names.{puts, goes_out, packet_line, behind, spelled, migrates, Nowhere, Moves, knows, IsIn, Spares, AllSpare, group_of, MovingStaysAlways, bind-is, arith, calls_off}
use Rattle.dm_law_rule.proofs.Groups.{arrives_net, resends_net}
use Rattle.dm_law_rule.proofs.Phases.Lives.{nowhere_known}
use Rattle.dm_law_rule.proofs.Phases.Groups.{Rooted}
use Rattle.dm_law_rule.proofs.Phases.Always.{phased_start, phased_on}
use Rattle.dm_law_rule.proofs.Rooted.Groups.{moves_away, rooted}
use Rattle.dm_law_rule.proofs.Apart.Steps.{keeps_step, Avoids, spares_of, ServerStays, stays_same, stays_on, kernel_servers}
use Rattle.dm_law_rule.proofs.Apart.Rows.{SparesPart, FirstApart, ApartOf, apart_first}
use Rattle.dm_law_rule.proofs.Apart.Turns.{turns_apart, net_apart, migrates_apart, calls_off_apart}
use Rattle.dm_law_rule.specs.Rule as rule

-- what lines say, seen from a kernel, and where they lead
record Left (z : OneKernel) (y : Pid) (pt next : Point) (ls : List Line) : Type 0 where
  spare : AllSpare z y ls
  same : next.kernel.processes y ≡ pt.kernel.processes y
  servers : ServerStays y pt.kernel next.kernel

spare_append : (z : OneKernel) (y : Pid) (ls ms : List Line) → AllSpare z y ls → AllSpare z y ms → AllSpare z y (ls ++ ms)
spare_append z y [] ms h k = k
spare_append z y (l ∷ ls) ms h k = (h.0, spare_append z y ls ms h.1 k)

pub kernel_same : (s t : OneKernel) (y : Pid) (o : Option Label) → Spares s y o → kernel_after s o ≡ Some t → t.processes y ≡ s.processes y
kernel_same s t y o h1 h2 = search (arith, keeps_step)

one_left : (z : OneKernel) (y : Pid) (pt next : Point) (l : Line) (ls : List Line) → Avoids pt.kernel y (label_of l) → Avoids z y (label_of l) → Some (l ∷ []) ≡ Some ls → after pt ls ≡ Some next → Left z y pt next ls
one_left z y pt next l ls here there is leads =
    let f : l ∷ [] ≡ ls = cc in
    let (mid, first, last) = bind-is (after_line pt l) (λ q. after q []) next (ap (after pt) f ∙ leads) in
    let (s, step_, then_) = bind-is (kernel_after pt.kernel (label_of l)) (λ s. Some (moved pt l s)) mid first in
    let one : Left z y pt (moved pt l s) (l ∷ []) = record { spare = (spares_of z y (label_of l) there, tt); same = kernel_same pt.kernel s y (label_of l) (spares_of pt.kernel y (label_of l) here) step_; servers = kernel_servers pt.kernel s y (label_of l) here step_ } in
    subst (λ (n : Point). Left z y pt n ls) ((let g : moved pt l s ≡ mid = cc in g) ∙ (let e : mid ≡ next = cc in e)) (subst (λ (ms : List Line). Left z y pt (moved pt l s) ms) f one)

-- a put, with its packet
put_left : (z : OneKernel) (y : Pid) (pt next : Point) (b : ℕ) (i : MsgId) (k : MessageKind) (q : Pid) (c d : Bool)
    → after pt (Line.Put pt.view.acting b i k q ∷ (if c then [] else if d then packet_line pt.view pt.view.acting b (Load.Data (length (pt.view.pair pt.view.acting b).ids)) ∷ [] else [])) ≡ Some next
    → Left z y pt next (Line.Put pt.view.acting b i k q ∷ (if c then [] else if d then packet_line pt.view pt.view.acting b (Load.Data (length (pt.view.pair pt.view.acting b).ids)) ∷ [] else []))
put_left z y pt next b i k q true d e =
    let f : moved pt (Line.Put pt.view.acting b i k q) pt.kernel ≡ next = cc in subst (λ (n : Point). Left z y pt n (Line.Put pt.view.acting b i k q ∷ [])) f (record { spare = (tt, tt); same = refl; servers = stays_same y pt.kernel })
put_left z y pt next b i k q false false e =
    let f : moved pt (Line.Put pt.view.acting b i k q) pt.kernel ≡ next = cc in subst (λ (n : Point). Left z y pt n (Line.Put pt.view.acting b i k q ∷ [])) f (record { spare = (tt, tt); same = refl; servers = stays_same y pt.kernel })
put_left z y pt next b i k q false true e =
    let l = packet_line pt.view pt.view.acting b (Load.Data (length (pt.view.pair pt.view.acting b).ids)) in
    let mid = moved pt (Line.Put pt.view.acting b i k q) pt.kernel in
    let f : moved mid l mid.kernel ≡ next = cc in subst (λ (n : Point). Left z y pt n (Line.Put pt.view.acting b i k q ∷ l ∷ [])) f (record { spare = (tt, (tt, tt)); same = refl; servers = stays_same y pt.kernel })

puts_left : (z : OneKernel) (y : Pid) (pt next : Point) (b : ℕ) (i : MsgId) (k : MessageKind) (q : Pid) (ls : List Line) → Some (puts pt.view b i k q) ≡ Some ls → after pt ls ≡ Some next → Left z y pt next ls
puts_left z y pt next b i k q ls is leads =
    let f : puts pt.view b i k q ≡ ls = cc in
    subst (Left z y pt next) f (put_left z y pt next b i k q (pt.view.acting == b) (goes_out (pt.view.pair pt.view.acting b)) (ap (after pt) f ∙ leads))

part_left : (z : OneKernel) (y : Pid) (pt next : Point) (p : Part) (ls : List Line) → SparesPart pt.kernel y p → SparesPart z y p → lines_of pt p ≡ Some ls → after pt ls ≡ Some next → Left z y pt next ls
part_left z y pt next (Says l) ls here there is leads = one_left z y pt next l ls here there is leads
part_left z y pt next (Routes i) ls here there is leads =
    let (m, bag, last) = bind-is (pt.kernel.bag i) (λ m. Some (puts pt.view (pt.addresses (Receiver i)).at i (plain_kind m.what) m.to)) ls is in
    puts_left z y pt next (pt.addresses (Receiver i)).at i (plain_kind m.what) m.to ls last leads
part_left z y pt next (Again i b) ls here there is leads =
    let (t, told, last) = bind-is (pt.view.told i) (λ t. Some (puts pt.view b i t.kind t.receiver)) ls is in
    puts_left z y pt next b i t.kind t.receiver ls last leads
part_left z y pt next (Owns k q b) ls here there is leads = puts_left z y pt next b (own_id pt.view) k q ls is leads
part_left z y pt next (Transmits a b l) ls here there is leads = one_left z y pt next (packet_line pt.view a b l) ls tt tt is leads

parts_left : (z : OneKernel) (y : Pid) (ps : List Part) (pt : Point) (w : Spelled) → FirstApart pt.kernel y ps → FirstApart z y ps → spelled pt ps ≡ Some w → Left z y pt w.point w.lines
parts_left z y [] pt w here there is = let f : record { lines = []; point = pt } ≡ w = cc in subst (λ (x : Spelled). Left z y pt x.point x.lines) f (record { spare = tt; same = refl; servers = stays_same y pt.kernel })
parts_left z y (p ∷ ps) pt w here there is =
    let (ls, lines, rest) = bind-is (lines_of pt p) (λ (xs : List Line). bind (after pt xs) (λ (q : Point). bind (spelled q ps) (λ (v : Spelled). Some (behind xs v)))) w is in
    let (next, leads, last) = bind-is (after pt ls) (λ (q : Point). bind (spelled q ps) (λ (v : Spelled). Some (behind ls v))) w rest in
    let (v, more, end) = bind-is (spelled next ps) (λ (x : Spelled). Some (behind ls x)) w last in
    let one = part_left z y pt next p ls here.0 there.0 lines leads in
    let others = parts_left z y ps next v (apart_first next.kernel y ps here.1) (apart_first z y ps there.1) more in
    subst (λ (x : Spelled). Left z y pt x.point x.lines) (let f : behind ls v ≡ w = cc in f) (record { spare = spare_append z y ls v.lines one.spare others.spare; same = others.same ∙ one.same; servers = stays_on y pt.kernel next.kernel v.point.kernel one.servers others.servers })

group_left : (b : Boot) (pt : Point) (d : Step) (w : Spelled) (y : Pid) → ApartOf pt.kernel y (rule.outcome b pt d) → group_of b pt d ≡ Some w → Left pt.kernel y pt w.point w.lines
group_left b pt d w y h e =
    let (parts, is, more) = bind-is (rule.outcome b pt d) (λ parts. bind (after_line pt (Line.Head d)) (λ begun. bind (spelled begun parts) (λ w. Some (rule.behind (Line.Head d ∷ []) w)))) w e in
    let (start, head, last) = bind-is (after_line pt (Line.Head d)) (λ begun. bind (spelled begun parts) (λ w. Some (rule.behind (Line.Head d ∷ []) w))) w more in
    let (rest, told, end) = bind-is (spelled start parts) (λ w. Some (rule.behind (Line.Head d ∷ []) w)) w last in
    let fits = subst (ApartOf pt.kernel y) is h in
    let k = parts_left pt.kernel y parts (moved pt (Line.Head d) pt.kernel) rest fits fits (ap (λ p. spelled p parts) (let f : moved pt (Line.Head d) pt.kernel ≡ start = cc in f) ∙ told) in
    subst (λ (x : Spelled). Left pt.kernel y pt x.point x.lines) (let g : rule.behind (Line.Head d ∷ []) rest ≡ w = cc in g) (record { spare = (tt, k.spare); same = k.same; servers = k.servers })

pub outcome_apart : (b : Boot) (pt : Point) (d : Step) (y : Pid) → Rooted pt → ((m : ℕ) → pid_of m (first_number + pt.kernel.made m) ≢ y) → ((m : ℕ) (p : Pid) → pt.view.known m p ≡ Here → p ≢ y) → ApartOf pt.kernel y (rule.outcome b pt d)
outcome_apart b pt (Step.Turn m) y h child off = turns_apart y b pt m (pt.view.inbox m) (child m) (off m) (h.served m)
outcome_apart b pt (Step.Tick m) y h child off = (tt, net_apart y (rule.resends pt.view m pt.kernel.machines) (resends_net pt.view m pt.kernel.machines))
outcome_apart b pt (Step.Deliver a c k) y h child off =
    let s = slice_get (pt.view.pair a c).wire k in
    let qs = rule.arrives a c (pt.view.pair a c) (pt.view.pair c a) s in
    apart_first pt.kernel y qs (net_apart y qs (arrives_net a c (pt.view.pair a c) (pt.view.pair c a) s))
outcome_apart b pt (Step.Migrate p m) y h child off = apart_first pt.kernel y (migrates pt p) (migrates_apart y pt p)
outcome_apart b pt (Step.CallOff p m) y h child off = apart_first pt.kernel y (calls_off pt m p (pt.view.known m p)) (calls_off_apart y pt m p)

-- what moves is here nowhere, and was made
pub moves_known : (k : MessageKind) (s d : ℕ) (o : Option MsgId) → Moves k s d o ≡ Nowhere → ⊥
moves_known k s d o e = cc

moving_left : (b : Boot) (pt : Point) (d : Step) (w : Spelled) (y : Pid) (k : MessageKind) (s t : ℕ) (o : Option MsgId) → Rooted pt → IsIn pt.view y (Moves k s t o) → group_of b pt d ≡ Some w → Left pt.kernel y pt w.point w.lines
moving_left b pt d w y k s t o h phase e =
    group_left b pt d w y
    (outcome_apart b pt d y h
    (λ m is. moves_known k s t o (nowhere_known (Moves k s t o)
    (λ j. sym (ap (knows (Moves k s t o) j) (ap (pt.view.known j) (sym is) ∙ h.unborn m j)) ∙ phase.known j) (λ at over. cc)))
    (λ m p here is. false≢true (sym (moves_away k s t m o (s == m) (t == m) refl refl) ∙ sym (ap (knows (Moves k s t o) m) (ap (pt.view.known m) (sym is) ∙ here)) ∙ phase.known m))) e

-- wherever the rule leads
pub moving_stays_always : MovingStaysAlways
moving_stays_always b es pt d w p k s t id valid leads e phase =
    let h = phased_on b es (first_point b) pt leads (phased_start b valid) in
    let left = moving_left b pt d w p k s t id (rooted pt h.sane h.ground) phase e in (left.spare, left.same, left.servers.0, left.servers.1)
