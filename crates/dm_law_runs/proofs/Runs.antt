-- From wherever a run stands it comes to its end: rounds within a directive, machines and pairs within a round, and the packets of a pair
-- that were never delivered, of which a delivery leaves one fewer, since what it puts on wires goes the other way.
use Rattle.dm_law_runs.proofs.Names.{◌≡◌, ℕ, zero, suc, ◌≤◌, Bool, true, is_some, List, [], ◌∷◌, ◌++◌, length, refl, ap, ◌∙◌, sym, subst, arith, All, Option, None, Some, false≢true, All-head, All-tail, Boot, IsValid, Step, Directive, Line}
use Rattle.dm_law_runs.proofs.Names.{Round, Two, Todo, Next, below, pairs_of, here_or_later, next_delivery, next_turn, takes_turn, in_pass, or, next_pass, following, next_step, undelivered, IsKept, IsRun, IsStep, Leads, Spelled, Point}
use Rattle.dm_law_runs.proofs.Names.{first_point, has_mail, is_quiet, group_of, worn_in, stands_once_always, goes_on_always, group_after, IsTwo, leads_last, machines_group, some_machine, IsBelow, all_below, all_pairs, HasEnded, Over, Wears}
use Rattle.dm_line.specs.Todo.{Seen}
use Rattle.dm_law_rule.specs.Good.{seen_at}
use Rattle.dm_law_runs.proofs.Wires.{Counts, lines_count}
use Rattle.dm_law_runs.proofs.Delivers.{waits, fewer_wait}

-- from a place, with this left to do, there is a run that has come to its end
pub record From (b : Boot) (pt : Point) (t : Todo) : Type 0 where
  pub groups : List (List Line)
  pub end : Point
  pub left : Todo
  pub run : IsRun b pt t groups end left
  pub ended : HasEnded b end left

-- a place where a run stands
pub record Stood (b : Boot) (pt : Point) : Type 0 where
  pub steps : List Step
  pub leads : Leads b (first_point b) steps pt
  pub counts : Counts b.numbers pt.view
  pub machines : pt.kernel.machines ≡ length b.machines

abbrev pub follows : Boot → Point → Todo → Option Next
follows b pt t = following (length b.machines) (seen_at (length b.machines) pt) t

abbrev todo : List Two → List ℕ → ℕ → List Directive → Todo
todo ps ms k ds = record { pairs = ps; machines = ms; pass = Round k; directives = ds }

-- so many rounds, and then directives
abbrev pub between : ℕ → List Directive → Todo
between k ds = todo [] [] k ds

due : (b : Boot) (pt : Point) (t : Todo) (o : Option Next) → Stood b pt → follows b pt t ≡ o → next_step pt.kernel.machines pt t ≡ o
due b pt t o s e = ap (λ (k : ℕ). next_step k pt t) s.machines ∙ e

-- nothing is left
pub over : (b : Boot) (pt : Point) (t : Todo) → Stood b pt → follows b pt t ≡ None → From b pt t
over b pt t s e = record { groups = []; end = pt; left = t; run = (refl, refl); ended = Over (due b pt t None s e) }

-- a directive goes on, or wears a pair
wears_or_goes : (b : Boot) (pt : Point) (t : Todo) (n : Next) (w : Spelled) (o : Option Two) → IsValid b → Stood b pt → next_step pt.kernel.machines pt t ≡ Some n → IsStep pt.kernel.machines n.step → group_of b pt n.step ≡ Some w
    → worn_in b.numbers pt.view w.lines ≡ o → (Stood b w.point → From b w.point n.left) → From b pt t
wears_or_goes b pt t n w (Some p) valid s next fit is worn on = record {
  groups = [];
  end = pt;
  left = t;
  run = (refl, refl);
  ended = Wears n p.from p.to next (record { group = w; due = is; first = worn });
}
wears_or_goes b pt t n w None valid s next fit is worn on =
    let leads = leads_last b s.steps (first_point b) pt n.step w s.leads fit is in
    let counts = lines_count b.numbers w.lines pt w.point (group_after b pt n.step w is) worn s.counts in
    let kept : IsKept b w.point = record { once = λ id. stands_once_always b (s.steps ++ n.step ∷ []) w.point id valid leads; counts = counts } in
    let rest = on (record { steps = s.steps ++ n.step ∷ []; leads = leads; counts = counts; machines = machines_group b pt n.step w is ∙ s.machines }) in
    record { groups = w.lines ∷ rest.groups; end = rest.end; left = rest.left; run = (n, w, next, is, refl, kept, rest.run); ended = rest.ended }

by_group : (b : Boot) (pt : Point) (t : Todo) (n : Next) (o : Option Spelled) → IsValid b → Stood b pt → next_step pt.kernel.machines pt t ≡ Some n → IsStep pt.kernel.machines n.step → group_of b pt n.step ≡ o → is_some o ≡ true
    → ((w : Spelled) → group_of b pt n.step ≡ Some w → Stood b w.point → From b w.point n.left) → From b pt t
by_group b pt t n None valid s next fit is some on = absurd (false≢true some)
by_group b pt t n (Some w) valid s next fit is some on = wears_or_goes b pt t n w (worn_in b.numbers pt.view w.lines) valid s next fit is refl (on w is)

pub goes : (b : Boot) (pt : Point) (t : Todo) (n : Next) → IsValid b → Stood b pt → follows b pt t ≡ Some n → IsStep (length b.machines) n.step → ((w : Spelled) → group_of b pt n.step ≡ Some w → Stood b w.point → From b w.point n.left) → From b pt t
goes b pt t n valid s next fit on =
    let step_ : IsStep pt.kernel.machines n.step = subst (λ (k : ℕ). IsStep k n.step) (sym s.machines) fit in
    by_group b pt t n (group_of b pt n.step) valid s (due b pt t (Some n) s next) step_ refl (goes_on_always b s.steps pt n.step valid s.leads step_) on

-- where the same follows
ended_same : (b : Boot) (pt : Point) (t u : Todo) → next_step pt.kernel.machines pt t ≡ next_step pt.kernel.machines pt u → HasEnded b pt u → HasEnded b pt t
ended_same b pt t u e (Over x) = Over (e ∙ x)
ended_same b pt t u e (Wears n from to next worn) = Wears n from to (e ∙ next) worn

pub same_by : (b : Boot) (pt end : Point) (t u left : Todo) (gs : List (List Line)) → next_step pt.kernel.machines pt t ≡ next_step pt.kernel.machines pt u → IsRun b pt u gs end left → HasEnded b end left → From b pt t
same_by b pt end t u left [] e (at, is) ended = record {
  groups = [];
  end = pt;
  left = t;
  run = (refl, refl);
  ended = ended_same b pt t u e (subst (λ (x : Todo). HasEnded b pt x) (sym is) (subst (λ (q : Point). HasEnded b q left) (sym at) ended));
}
same_by b pt end t u left (g ∷ gs) e (n, w, next, is, said, kept, more) ended = record { groups = g ∷ gs; end = end; left = left; run = (n, w, e ∙ next, is, said, kept, more); ended = ended }

pub same : (b : Boot) (pt : Point) (t u : Todo) → Stood b pt → follows b pt t ≡ follows b pt u → From b pt u → From b pt t
same b pt t u s e f = same_by b pt f.end t u f.left f.groups (due b pt t (follows b pt u) s e ∙ sym (due b pt u (follows b pt u) s refl)) f.run f.ended

-- the turns of a round
turns_out : (b : Boot) (ms : List ℕ) (k : ℕ) (ds : List Directive) → IsValid b → All (IsBelow (length b.machines)) ms → ((q : Point) → Stood b q → From b q (between k ds)) → (pt : Point) → Stood b pt → From b pt (todo [] ms k ds)
turns_out b [] k ds valid fit rest pt s = rest pt s
turns_out b (m ∷ ms) k ds valid fit rest pt s =
    goes b pt (todo [] (m ∷ ms) k ds) (record { step = Step.Turn m; left = todo [] ms k ds }) valid s refl (All-head (IsBelow (length b.machines)) m ms fit)
    (λ w is next. turns_out b ms k ds valid (All-tail (IsBelow (length b.machines)) m ms fit) rest w.point next)

-- whatever pairs there were
turn_same : (seen : Seen) (ps qs : List Two) (all ms : List ℕ) (k : ℕ) (ds : List Directive) → next_turn (takes_turn (Round k) seen) (todo ps all k ds) ms ≡ next_turn (takes_turn (Round k) seen) (todo qs all k ds) ms
turn_same seen ps qs all [] k ds = refl
turn_same seen ps qs all (m ∷ ms) k ds = refl

in_same : (seen : Seen) (ps qs : List Two) (ms : List ℕ) (k : ℕ) (ds : List Directive) (o : Option (Step × List Two)) → in_pass seen (todo ps ms k ds) o ≡ in_pass seen (todo qs ms k ds) o
in_same seen ps qs ms k ds (Some d) = refl
in_same seen ps qs ms k ds None = turn_same seen ps qs ms ms k ds

-- what follows the rounds that are left, and then the directives, as the lines say
abbrev after : Boot → Point → ℕ → List Directive → Option Next
after b pt k ds = next_pass (length b.machines) (seen_at (length b.machines) pt) (Round k) ds

-- the packets of a pair
abbrev pub first_on : Point → Two → Option ℕ
first_on pt p = undelivered pt.view p.from p.to

abbrev pub waits_on : Point → Two → ℕ
waits_on pt p = waits pt.view p.from p.to

pair_step : (b : Boot) (p : Two) (ps : List Two) (ms : List ℕ) (k : ℕ) (ds : List Directive) (pt : Point) (o : Option ℕ) → IsValid b → IsTwo (length b.machines) p → Stood b pt → first_on pt p ≡ o → From b pt (todo ps ms k ds)
    → ((q : Point) → Stood b q → suc (waits_on q p) ≡ waits_on pt p → From b q (todo (p ∷ ps) ms k ds)) → From b pt (todo (p ∷ ps) ms k ds)
pair_step b p ps ms k ds pt None valid fit s first rest again =
    let later = next_delivery (undelivered pt.view) ps in
    let e : follows b pt (todo (p ∷ ps) ms k ds) ≡ follows b pt (todo ps ms k ds) =
    ap (λ (o : Option ℕ). or (in_pass (seen_at (length b.machines) pt) (todo (p ∷ ps) ms k ds) (here_or_later p ps o later)) (after b pt k ds)) first
    ∙ ap (λ (o : Option Next). or o (after b pt k ds)) (in_same (seen_at (length b.machines) pt) (p ∷ ps) ps ms k ds later) in
    same b pt (todo (p ∷ ps) ms k ds) (todo ps ms k ds) s e rest
pair_step b p ps ms k ds pt (Some j) valid fit s first rest again =
    let later = next_delivery (undelivered pt.view) ps in
    let e : follows b pt (todo (p ∷ ps) ms k ds) ≡ Some (record { step = Step.Deliver p.from p.to j; left = todo (p ∷ ps) ms k ds }) =
    ap (λ (o : Option ℕ). or (in_pass (seen_at (length b.machines) pt) (todo (p ∷ ps) ms k ds) (here_or_later p ps o later)) (after b pt k ds)) first in
    goes b pt (todo (p ∷ ps) ms k ds) (record { step = Step.Deliver p.from p.to j; left = todo (p ∷ ps) ms k ds }) valid s e (fit.from, fit.to, fit.apart)
    (λ w is next. again w.point next (fewer_wait b pt p.from p.to j w fit.apart first is))

pair_out : (b : Boot) (p : Two) (ps : List Two) (ms : List ℕ) (k : ℕ) (ds : List Directive) (c : ℕ) → IsValid b → IsTwo (length b.machines) p → ((q : Point) → Stood b q → From b q (todo ps ms k ds)) → (pt : Point) → Stood b pt → waits_on pt p ≡ c
    → From b pt (todo (p ∷ ps) ms k ds)
pair_out b p ps ms k ds zero valid fit rest pt s e = pair_step b p ps ms k ds pt (first_on pt p) valid fit s refl (rest pt s) (λ q next f. absurd (omega (arith, e, f)))
pair_out b p ps ms k ds (suc c) valid fit rest pt s e = pair_step b p ps ms k ds pt (first_on pt p) valid fit s refl (rest pt s) (λ q next f. pair_out b p ps ms k ds c valid fit rest q next (omega (arith, e, f)))

packets_out : (b : Boot) (ps : List Two) (ms : List ℕ) (k : ℕ) (ds : List Directive) → IsValid b → All (IsTwo (length b.machines)) ps → ((q : Point) → Stood b q → From b q (todo [] ms k ds)) → (pt : Point) → Stood b pt → From b pt (todo ps ms k ds)
packets_out b [] ms k ds valid fit rest pt s = rest pt s
packets_out b (p ∷ ps) ms k ds valid fit rest pt s =
    pair_out b p ps ms k ds (waits_on pt p) valid (All-head (IsTwo (length b.machines)) p ps fit) (packets_out b ps ms k ds valid (All-tail (IsTwo (length b.machines)) p ps fit) rest) pt s refl

-- a round
some_below : (n : ℕ) → 1 ≤ n → (m : ℕ) × (ms : List ℕ) × (below n ≡ m ∷ ms)
some_below zero h = absurd (omega (arith, h))
some_below (suc n) h = first_of_all (below n) n
  where
    first_of_all : (xs : List ℕ) (x : ℕ) → (m : ℕ) × (ms : List ℕ) × (xs ++ x ∷ [] ≡ m ∷ ms)
    first_of_all [] x = (x, [], refl)
    first_of_all (y ∷ ys) x = (y, ys ++ x ∷ [], refl)

round_goes : (seen : Seen) (ps : List Two) (ms : List ℕ) (m : ℕ) (rest : List ℕ) (k : ℕ) (ds : List Directive) (o : Option (Step × List Two)) (r : Option Next) → ms ≡ m ∷ rest → or (in_pass seen (todo ps ms k ds) o) r ≡ in_pass seen (todo ps ms k ds) o
round_goes seen ps ms m rest k ds (Some d) r e = refl
round_goes seen ps ms m rest k ds None r e = subst (λ (xs : List ℕ). or (in_pass seen (todo ps xs k ds) None) r ≡ in_pass seen (todo ps xs k ds) None) (sym e) refl

round_out : (b : Boot) (k : ℕ) (ds : List Directive) → IsValid b → ((q : Point) → Stood b q → From b q (between k ds)) → (pt : Point) → Stood b pt → From b pt (between (suc k) ds)
round_out b k ds valid rest pt s =
    let n = length b.machines in
    let ps = pairs_of (below n) (below n) in
    let (m, ms, some) = some_below n (some_machine b valid) in
    let e : follows b pt (between (suc k) ds) ≡ follows b pt (todo ps (below n) k ds) = sym (round_goes (seen_at (length b.machines) pt) ps (below n) m ms k ds (next_delivery (undelivered pt.view) ps) (after b pt k ds) some) in
    same b pt (between (suc k) ds) (todo ps (below n) k ds) s e (packets_out b ps (below n) k ds valid (all_pairs n) (turns_out b (below n) k ds valid (all_below n) rest) pt s)

pub rounds_out : (b : Boot) (k : ℕ) (ds : List Directive) → IsValid b → ((q : Point) → Stood b q → From b q (between 0 ds)) → (pt : Point) → Stood b pt → From b pt (between k ds)
rounds_out b zero ds valid rest pt s = rest pt s
rounds_out b (suc k) ds valid rest pt s = round_out b k ds valid (rounds_out b k ds valid rest) pt s

-- the rounds of a spin
pub spin_same : (b : Boot) (pt : Point) (n : ℕ) (ds : List Directive) → after b pt 0 (Directive.Spin n ∷ ds) ≡ after b pt n ds
spin_same b pt zero ds = refl
spin_same b pt (suc n) ds = refl
