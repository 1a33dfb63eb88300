-- Each run comes to its end, and each other is a beginning of it.
use Rattle.dm_law_runs.proofs.Names.{◌≡◌, ◌⊎◌, ℕ, ◌≤◌, nat_le, List, [], ◌∷◌, ◌++◌, length, refl, ap, ◌∙◌, sym, subst, inl, inr, arith, Option, None, Some, cases_Bool, nat_tests, append-nil, Boot, IsValid, replay, received_once, Directive}
use Rattle.dm_law_runs.proofs.Names.{Line, Todo, Next, all_of, next_step, IsKept, IsRun, Spelled, Point, first_point, labels, group_of, IsWorn, shorter_begins, labels-append, replay-append, group_replay, group_after, IsGood, joined}
use Rattle.dm_law_runs.proofs.Names.{HasEnded, Over, Wears, RunsThrough, AllBegin}
use Rattle.dm_law_runs.proofs.AllOut.{all_out}
use Rattle.dm_law_runs.proofs.Runs.{Stood}
use Rattle.dm_law_runs.proofs.Wires.{lines_wear}

-- a run by the rule replays
run_replays : (b : Boot) (gs : List (List Line)) (pt end : Point) (t left : Todo) → IsRun b pt t gs end left → replay pt.kernel (labels (joined gs)) ≡ Some end.kernel
run_replays b [] pt end t left run = ap (λ (q : Point). Some q.kernel) run.0
run_replays b (g ∷ gs) pt end t left (n, w, next, is, said, kept, rest) =
    let one : replay pt.kernel (labels g) ≡ Some w.point.kernel = ap (λ (ls : List Line). replay pt.kernel (labels ls)) (sym said) ∙ group_replay b pt n.step w is in
    ap (replay pt.kernel) (labels-append g (joined gs)) ∙ replay-append (labels g) (labels (joined gs)) pt.kernel w.point.kernel end.kernel one (run_replays b gs w.point end n.left left rest)

good_of : (b : Boot) (ds : List Directive) (gs : List (List Line)) (end : Point) (left : Todo) → IsValid b → IsRun b (first_point b) (all_of ds) gs end left → IsGood b ds gs end left
good_of b ds gs end left valid run =
    let replays = run_replays b gs (first_point b) end (all_of ds) left run in
    record { run = run; replays = replays; received = λ i. received_once b (labels (joined gs)) end.kernel i valid replays }

first_stood : (b : Boot) → Stood b (first_point b)
first_stood b = record { steps = []; leads = refl; counts = λ a c. omega arith; machines = refl }

pub runs_through : RunsThrough
runs_through b ds valid fit =
    let f = all_out b ds valid fit (first_point b) (first_stood b) in
    record { groups = f.groups; end = f.end; left = f.left; good = good_of b ds f.groups f.end f.left valid f.run; ended = f.ended }

-- a run that has ended doesn't go on
some_is : {A : Type 0} (o : Option A) (x y : A) → o ≡ Some x → o ≡ Some y → x ≡ y
some_is o x y e f = let g : Some x ≡ Some y = sym e ∙ f in cc

not_worn : (b : Boot) (pt : Point) (n : Next) (w : Spelled) (from to : ℕ) → group_of b pt n.step ≡ Some w → IsKept b w.point → IsWorn b pt n.step from to → ⊥
not_worn b pt n w from to is kept worn =
    let same : worn.group ≡ w = some_is (group_of b pt n.step) worn.group w worn.due is in
    let more = lines_wear b.numbers worn.group.lines pt worn.group.point (record { from = from; to = to }) (group_after b pt n.step worn.group worn.due) worn.first in
    let less = (subst (λ (v : Spelled). IsKept b v.point) (sym same) kept).counts from to in
    omega (arith, more, less)

no_more : (b : Boot) (fin end : Point) (rest left : Todo) (more : List (List Line)) → HasEnded b fin rest → IsRun b fin rest more end left → more ≡ []
no_more b fin end rest left [] ended run = refl
no_more b fin end rest left (g ∷ gs) (Over none) (n, w, next, is, said, kept, later) = absurd (let f : None ≡ Some n = sym none ∙ next in cc)
no_more b fin end rest left (g ∷ gs) (Wears m from to due worn) (n, w, next, is, said, kept, later) =
    let same : m ≡ n = some_is (next_step fin.kernel.machines fin rest) m n due next in
    absurd (not_worn b fin n w from to is kept (subst (λ (x : Next). IsWorn b fin x.step from to) same worn))

shorter_or : (m n : ℕ) → (m ≤ n) ⊎ (n ≤ m)
shorter_or m n = elim (cases_Bool (nat_le m n)) [
  | inl less ↦ inl (grind (arith, nat_tests))
  | inr more ↦ inr (grind (arith, nat_tests))
]

pub all_begin : AllBegin
all_begin b ds gs hs end fin left rest good other ended = elim (shorter_or (length gs) (length hs)) [
  | inl less ↦
      let (more, is, run) = shorter_begins b (first_point b) (all_of ds) gs hs end fin left rest good.run other.run less in
      (more, is)
  | inr longer ↦
      let (more, is, run) = shorter_begins b (first_point b) (all_of ds) hs gs fin end rest left other.run good.run longer in
      let none = no_more b fin end rest left more ended run in
      let same : gs ≡ hs = is ∙ ap (λ (xs : List (List Line)). hs ++ xs) none ∙ append-nil hs in
      ([], sym same ∙ sym (append-nil gs))
]
