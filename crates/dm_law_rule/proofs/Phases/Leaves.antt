-- All of a process is taken: its lists go on, it has left, and the other machine may restart it.
use Rattle.dm_law_rule.proofs.Names.{◌≡◌, ℕ, ◌+◌, ◌≤◌, ◌==◌, ◌&&◌, Bool, true, false, not, List, [], ◌∷◌, ◌++◌, length, refl, ap, ◌∙◌, sym, subst, inl, inr, arith, if◌then◌else◌, Option, None, Some, cases_Bool, false≢true, Pid, pid_eq, MsgId}
use Rattle.dm_law_rule.proofs.Names.{MessageKind, Line, Stage, id_eq, bind, Load, at_record, View, Told, Known, Frozen, view_after, handled_first, gone_to, receiver_of, is_kernels, Point, moved, after, Part, Says, Again, Spelled, lines_of}
use Rattle.dm_law_rule.proofs.Names.{puts, behind, spelled, to_kernel, sends_on, leaves, Spot, times, standing, is_between, Phase, Moves, knows, token_in, sender_in, receiver_in, id_eq-is, id_eq-same, pid_eq-same, bind-is, nat_tests, eqb-true}
use Rattle.dm_law_rule.proofs.Names.{Of, Incoming, sort_of, ComesIn, none_some}
use Rattle.dm_law_rule.specs.View as view
use Rattle.dm_law_rule.specs.Phases as phase
use Rattle.dm_law_rule.proofs.Once.{one_of}
use Rattle.dm_law_rule.proofs.Lines.{Stands-handled}
use Rattle.dm_law_rule.proofs.Letters.{letters}
use Rattle.dm_law_rule.proofs.Pairs.Lines.{pair_same}
use Rattle.dm_law_rule.proofs.States.{State, by_line, PutNext, puts_next}
use Rattle.dm_law_rule.proofs.Lines.{Stands-stays}
use Rattle.dm_law_rule.proofs.Said.{fits_as}
use Rattle.dm_law_rule.proofs.Moves.Lists.{both_lists, both_times, emptied, first_off}
use Rattle.dm_law_rule.proofs.Moves.States.{Between, again}
use Rattle.dm_law_rule.proofs.Moves.Sent.{Way, steadied, way_packet, sent_way, sent_off, line_next, fits_put, least_of}
use Rattle.dm_law_rule.proofs.Moves.Rows.{left_off}
use Rattle.dm_law_rule.proofs.Phases.Calm.{Calm}
use Rattle.dm_law_rule.proofs.Phases.Lines.{handled_spots, put_calm, packet_calm}
use Rattle.dm_law_rule.proofs.Phases.Quiet.{Tame, tame_on, tame_kind}
use Rattle.dm_law_rule.proofs.Phases.Stand.{PhasesBut, none_only, some_only, InPhases, calm_phases, queued_plain, held_plain, Learns, learns_phases, quiet_left, calls_in}
use Rattle.dm_law_rule.proofs.Phases.Answers.{WholeBut, Whole, Due, owns_whole, nowhere_of, token_one}
use Rattle.dm_law_rule.proofs.Phases.Pieces.{record_off, same_row, same_come, due_apart, to_sender}
use Rattle.dm_law_rule.proofs.Bags.{zero_if}
use Rattle.dm_law_rule.proofs.Phases.Put.{of_same}

-- where messages are on the way, in the phase of a process
pub record WayIn (p : Pid) (ph : Phase) (a : ℕ) (gone : List MsgId) (pt : Point) : Type 0 where
  pub way : Way gone pt
  pub phases : PhasesBut (Some p) pt.view
  pub now : phases.of p ≡ ph
  pub acting : pt.view.acting ≡ a
  pub topic : pt.view.topic ≡ Of p
  pub tame : (i : MsgId) → 1 ≤ times i gone → Tame pt.view i

in_packet : (p : Pid) (ph : Phase) (a : ℕ) (gone : List MsgId) (q : Point) (x y k : ℕ) (l : Load) → WayIn p ph a gone q → WayIn p ph a gone (moved q (Line.Packet x y k l) q.kernel)
in_packet p ph a gone q x y k l h =
    let c = packet_calm q.view x y k l in
    record {
      way = way_packet gone q x y k l h.way;
      phases = calm_phases q.view (view_after q.view (Line.Packet x y k l)) c h.phases;
      now = h.now;
      acting = h.acting;
      topic = h.topic;
      tame = λ i least. tame_on q.view (view_after q.view (Line.Packet x y k l)) i c (h.tame i least);
    }

pub first_of : (i : MsgId) (is : List MsgId) → 1 ≤ times i (i ∷ is)
first_of i is = let one : one_of i i ≡ 1 = ap (λ (c : Bool). if c then 1 else 0) (id_eq-same i) in omega (arith, one)

one_again : (p : Pid) (ph : Phase) (a : ℕ) (pt : Point) (b : ℕ) (i : MsgId) (is : List MsgId) (ps : List Part) (w : Spelled) → WayIn p ph a (i ∷ is) pt → spelled pt (Again i b ∷ ps) ≡ Some w → PutNext (WayIn p ph a is) ps w
one_again p ph a pt b i is ps w h e =
    let (ls, lines, rest) = bind-is (lines_of pt (Again i b)) (λ ls. bind (after pt ls) (λ n. bind (spelled n ps) (λ v. Some (behind ls v)))) w e in
    let (t, there, last) = bind-is (pt.view.told i) (λ t. Some (puts pt.view b i t.kind t.receiver)) ls lines in
    let v = pt.view in
    let plain = h.tame i (first_of i is) in
    let c : Calm v (view.after_put v v.acting b i t.kind t.receiver) = put_calm v v.acting b i t.kind t.receiver h.way.fits (tame_kind v i t plain there) (λ u told. tame_kind v i u plain told) in
    puts_next (WayIn p ph a is) (in_packet p ph a is) pt (Again i b) b i t.kind t.receiver ps w (lines ∙ sym last)
    (record {
      way = record { between = again pt b i is t h.way.fits there h.way.between; fits = fits_put v v.acting b i t.kind t.receiver h.way.fits };
      phases = calm_phases v (view.after_put v v.acting b i t.kind t.receiver) c h.phases;
      now = h.now;
      acting = h.acting;
      topic = h.topic;
      tame = λ j least. tame_on v (view.after_put v v.acting b i t.kind t.receiver) j c (h.tame j (omega (arith, least)));
    }) e

pub all_again : (p : Pid) (ph : Phase) (a : ℕ) (is : List MsgId) (pt : Point) (b : ℕ) (ps : List Part) (w : Spelled) → WayIn p ph a is pt → spelled pt (sends_on b is ++ ps) ≡ Some w → PutNext (WayIn p ph a []) ps w
all_again p ph a [] pt b ps w h e = record { next = pt; stands = h; rest = w; more = e; point = refl }
all_again p ph a (i ∷ is) pt b ps w h e =
    let n = one_again p ph a pt b i is (sends_on b is ++ ps) w h e in
    let m = all_again p ph a is n.next b ps n.rest n.stands n.more in
    record { next = m.next; stands = m.stands; rest = m.rest; more = m.more; point = m.point ∙ n.point }

-- the lists are emptied
pub fewer_record : (f : ℕ → Pid → List MsgId) (a : ℕ) (p : Pid) (j : MsgId) (m : ℕ) (q : Pid) → 1 ≤ times j (at_record f a p [] m q) → 1 ≤ times j (f m q)
fewer_record f a p j m q st = elim (cases_Bool ((a == m) && pid_eq p q)) [
  | inl same ↦ absurd (let none : times j (at_record f a p [] m q) ≡ 0 = ap (λ (c : Bool). times j (if c then [] else f m q)) same in omega (arith, st, none))
  | inr off ↦ subst (λ n. 1 ≤ n) (ap (λ (c : Bool). times j (if c then [] else f m q)) off) st
]

sent_spot : (pt : Point) (p : Pid) (n : ℕ) (j : MsgId) (z : Spot) → 1 ≤ standing (view_after pt.view (Line.SentOn p n)) j z → 1 ≤ standing (handled_first pt.view) j z
sent_spot pt p n j z st =
    let emptied_back : (v : View) (p : Pid) (j : MsgId) (z : Spot) → 1 ≤ standing (emptied v p) j z → 1 ≤ standing v j z = λ v p j z h1. search (arith, fewer_record) in
    emptied_back (handled_first pt.view) p j z (subst (λ x. 1 ≤ x) (ap (times j) (sent_off pt.view p n z)) st)

sent_gone : (pt : Point) (p : Pid) (n : ℕ) (i : MsgId) (is : List MsgId) (h : State None pt) → pt.view.inbox pt.view.acting ≡ i ∷ is → (z : Spot) → standing (view_after pt.view (Line.SentOn p n)) i z ≡ 0
sent_gone pt p n i is h front z =
    let first_gone : (pt : Point) (i : MsgId) (is : List MsgId) (h : State None pt) → pt.view.inbox pt.view.acting ≡ i ∷ is → (z : Spot) → standing (handled_first pt.view) i z ≡ 0 = λ pt i is h front.
    let bag = letters h.own pt.kernel.bag in
    nowhere_of bag i (standing (handled_first pt.view) i) ((Stands-handled bag pt.view (handled_first pt.view) i is front (first_off pt.view i is front) (λ j. refl) h.stands).kept i) in
    zero_if (standing (view_after pt.view (Line.SentOn p n)) i z) (λ st. let none = first_gone pt i is h front z in let some = sent_spot pt p n i z st in absurd (omega (arith, none, some)))

-- what is of the protocol stands in no list, and stays where it is
sent_learns : (pt : Point) (n : ℕ) (i : MsgId) (is : List MsgId) (t : Told) (h : Whole pt) (u : Due pt i t h.phases) → pt.view.inbox pt.view.acting ≡ i ∷ is → pt.view.told i ≡ Some t → Learns pt.view (view_after pt.view (Line.SentOn u.p n)) u.p
sent_learns pt n i is t h u front told =
    let v = pt.view in
    let w = view_after v (Line.SentOn u.p n) in
    let first_same : (v : View) (i : MsgId) (is : List MsgId) (j : MsgId) → v.inbox v.acting ≡ i ∷ is → id_eq i j ≡ false → (z : Spot) → standing (handled_first v) j z ≡ standing v j z =
    λ v i is j front apart z. ap (times j) (first_off v i is front z) ∙ handled_spots v i j apart z in
    record {
      calm = λ m q off. refl;
      come = λ q off. refl;
      fresh = λ j x e b. e;
      kept = λ j x e. e;
      back = λ j x e b z st. elim (cases_Bool (id_eq i j)) [
        | inl is_i ↦ absurd (let none : standing w j z ≡ 0 = subst (λ (y : MsgId). standing w y z ≡ 0) (id_eq-is i j is_i) (sent_gone pt u.p n i is h.state front z) in omega (arith, st, none))
        | inr apart ↦ inl (subst (λ y. 1 ≤ y) (first_same v i is j front apart z) (sent_spot pt u.p n j z st))
      ];
      on = λ j x q apart e b ab z st. elim (cases_Bool (id_eq i j)) [
        | inl is_i ↦ absurd (
            let f : Some t ≡ Some x = sym told ∙ ap v.told (id_eq-is i j is_i) ∙ e in
            false≢true (sym apart ∙ ap (pid_eq u.p) (sym (of_same u.p q (sym (ap (λ (y : Told). y.about) u.told) ∙ ap (λ (y : Told). y.about) (let g : t ≡ x = cc in g) ∙ ab))) ∙ pid_eq-same u.p))
        | inr off_i ↦ (z, (let e_ : 1 ≤ standing (view_after pt.view (Line.SentOn u.p n)) j z = grind (arith, nat_tests, queued_plain, held_plain, first_same) in e_))
      ];
    }

-- the messages of the lists are none of the protocol
pub told_some : (o : Option Told) (q : Pid) → receiver_of o ≡ Some q → (t : Told) × (o ≡ Some t)
told_some None q e = none_some q e
told_some (Some t) q e = (t, refl)

lists_tame : (v : View) (p : Pid) (j : MsgId) (q : Pid) → InPhases v → 1 ≤ times j (both_lists v p) → receiver_of (v.told j) ≡ Some q → Tame v j
lists_tame v p j q h least told =
    let (t, is) = told_some (v.told j) q told in
    let sum = both_times v p j in
    record {
      what = t;
      told = is;
      plain = (search (arith, least_of, queued_plain, held_plain));
    }

left_by : (v : View) (a m : ℕ) (p : Pid) (n : ℕ) (b : Bool) → (a == m) ≡ b → (if b && true then gone_to (v.known a p) n else v.known m p) ≡ (if b then gone_to (v.known m p) n else v.known m p)
left_by v a m p n true e = ap (λ (x : ℕ). gone_to (v.known x p) n) (eqb-true a m e)
left_by v a m p n false e = refl

gone_awaited : (b : Bool) (y : Known) (n s : ℕ) → (if b then gone_to y n else y) ≡ Incoming s → y ≡ Incoming s
gone_awaited true (Frozen m) n s e = cc
gone_awaited true _ n s e = e
gone_awaited false y n s e = e

left_row : (pt : Point) (p : Pid) (s d b : ℕ) (w : Spelled) (h : WayIn p (Moves MessageKind.AllTaken s d None) s [] pt) → (is_between MessageKind.AllTaken && not (s == d)) ≡ true → b ≡ d → spelled pt (Says (Line.Migration Stage.Left p) ∷ to_kernel MessageKind.Restart b ∷ []) ≡ Some w → Whole w.point
left_row pt p s d b w h apart to e =
    let left_known : (s d m n : ℕ) (b : Bool) (y : Known) → (s == m) ≡ b → knows (Moves MessageKind.AllTaken s d None) m y ≡ true → knows (Moves MessageKind.Restart s d None) m (if b then gone_to y n else y) ≡ true =
    -- it has left: the source forwards
    let left_if : (d : ℕ) (y : Known) (n : ℕ) → phase.kind_leaves MessageKind.AllTaken d y ≡ true → phase.kind_leaves MessageKind.Restart d (gone_to y n) ≡ true =
    λ d y n e. (elim y as (λ y_. phase.kind_leaves MessageKind.AllTaken d y_ ≡ true → phase.kind_leaves MessageKind.Restart d (gone_to y_ n) ≡ true) [ Frozen to' ↦ λ e'. e' | _ ↦ λ e'. absurd (false≢true e') ]) e in
    λ s d m n b y h1 h2. search (arith, left_if) in
    let v = pt.view in
    let l = Line.Migration Stage.Left p in
    let next = moved pt l pt.kernel in
    let n = line_next pt l (to_kernel MessageKind.Restart b ∷ []) w refl e in
    let steady = steadied pt h.way in
    let was : (m : ℕ) → knows (Moves MessageKind.AllTaken s d None) m (v.known m p) ≡ true = λ m. subst (λ (x : Phase). knows x m (v.known m p) ≡ true) h.now ((h.phases.each p).known m) in
    let left_at : (v : View) (s m : ℕ) (p : Pid) (n : ℕ) → v.acting ≡ s → at_record v.known v.acting p (gone_to (v.known v.acting p) n) m p ≡ (if s == m then gone_to (v.known m p) n else v.known m p) = λ v s m p n e.
    ap (λ (c : Bool). if (v.acting == m) && c then gone_to (v.known v.acting p) n else v.known m p) (pid_eq-same p)
    ∙ left_by v v.acting m p n (v.acting == m) refl ∙ ap (λ (x : ℕ). if x == m then gone_to (v.known m p) n else v.known m p) e in
    let turned = learns_phases v next.view p (Moves MessageKind.Restart s d None) h.phases (some_only p) (record {
      calm = λ m q off. record_off v.known v.acting p (gone_to (v.known v.acting p) (v.moves p + 1)) m q off;
      come = λ q off. refl;
      fresh = λ j x e b. e;
      kept = λ j x e. e;
      back = λ j x e b z st. inl (subst (λ n. 1 ≤ n) (ap (times j) (left_off v p z)) st);
      on = λ j x q apart e b ab z st. (z, subst (λ n. 1 ≤ n) (sym (ap (times j) (left_off v p z))) st);
    }) refl apart
    (λ m. ap (knows (Moves MessageKind.Restart s d None) m) (left_at v s m p (v.moves p + 1) h.acting) ∙ left_known s d m (v.moves p + 1) (s == m) (v.known m p) refl (was m))
    (subst (λ (x : Phase). ComesIn x (v.come p)) h.now (h.phases.each p).come)
    (quiet_left v next.view p (h.phases.of p) (Moves MessageKind.Restart s d None) refl (ap calls_in h.now) (λ m n here. gone_awaited (s == m) (v.known m p) (v.moves p + 1) n (sym (left_at v s m p (v.moves p + 1) h.acting) ∙ here))
    (λ j x z. absurd (let f : None ≡ Some j = sym (ap token_in h.now) ∙ x in cc))) in
    subst Whole n.point (owns_whole next p MessageKind.Restart s d b n.rest (let whole : WholeBut (Some p) next = (search (arith, by_line, Stands-stays, left_off, fits_as, pair_same)) in whole) turned.now refl h.acting to n.more)

pub leaves_row : (pt : Point) (i : MsgId) (is : List MsgId) (t : Told) (ids : List MsgId) (k : Known) (parts : List Part) (w : Spelled) (h : Whole pt) (u : Due pt i t h.phases) → u.k ≡ MessageKind.AllTaken → pt.view.inbox pt.view.acting ≡ i ∷ is → pt.view.told i ≡ Some t → is_kernels i ≡ true
    → both_lists pt.view u.p ≡ ids → leaves i u.p ids k ≡ Some parts → spelled pt parts ≡ Some w → Whole w.point
leaves_row pt i is t ids (Frozen to) parts w h u e front told mine same f n =
    let v = pt.view in
    let end = Says (Line.Migration Stage.Left u.p) ∷ to_kernel MessageKind.Restart i.from.home ∷ [] in
    let l = Line.SentOn u.p (length ids) in
    let k = line_next pt l (sends_on to ids ++ end) w refl (ap (spelled pt) (let g : Says l ∷ sends_on to ids ++ end ≡ parts = cc in g) ∙ n) in
    let next = moved pt l pt.kernel in
    let ph = Moves MessageKind.AllTaken u.s u.d None in
    let apart : (is_between MessageKind.AllTaken && not (u.s == u.d)) ≡ true = ap (λ (k : MessageKind). is_between k && not (u.s == u.d)) (sym e) ∙ due_apart pt i t h.phases u in
    let turned = learns_phases v next.view u.p ph h.phases (none_only u.p) (sent_learns pt (length ids) i is t h u front told) refl apart
    (same_row pt i t h.phases u MessageKind.AllTaken next.view (λ m. refl) (ap phase.is_restart e) (ap phase.is_early e) (ap phase.is_calloff e))
    (same_come pt i t h.phases u MessageKind.AllTaken next.view refl (ap (λ (k : MessageKind). phase.tells_come (sort_of k)) e))
    (quiet_left v next.view u.p (h.phases.of u.p) ph refl (ap calls_in u.phase ∙ ap phase.is_calloff e) (λ m s here. here)
    (λ j x z. subst (λ (y : MsgId). standing next.view y z ≡ 0) (token_one (h.phases.of u.p) u.k u.s u.d i j u.phase x) (sent_gone pt u.p (length ids) i is h.state front z))) in
    let sent : Between ids next = subst (λ (js : List MsgId). Between js next) same (sent_way pt u.p (length ids) i is h.state front mine) in
    let way : WayIn u.p ph u.s ids next = record {
      way = record { between = sent; fits = fits_as v next.view (pair_same v l refl) h.fits };
      phases = turned.phases;
      now = turned.now;
      acting = u.acting ∙ ap (λ (k : MessageKind). receiver_in k u.s u.d) e;
      topic = refl;
      tame = λ j least. (let (q, x, y) = sent.way j least in let z = lists_tame v u.p j q h.phases (subst (λ (js : List MsgId). 1 ≤ times j js) (sym same) least) y in record { what = z.what; told = z.told; plain = z.plain });
    } in
    let a = all_again u.p ph u.s ids next to end k.rest way k.more in
    subst Whole k.point (subst Whole a.point (left_row a.next u.p u.s u.d i.from.home a.rest a.stands apart (to_sender pt i t h.phases u ∙ ap (λ (k : MessageKind). sender_in k u.s u.d) e) a.more))
leaves_row pt i is t ids _ parts w h u e front told mine same f n = cc
