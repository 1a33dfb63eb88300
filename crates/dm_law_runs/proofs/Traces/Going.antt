-- A run by the rule goes on by one more directive, one that a schedule can hold and that routes no message between two machines that
-- count as many as they may.
use Rattle.dm_law_runs.proofs.Names.{◌≡◌, ◌≢◌, ◌<◌, ℕ, ◌==◌, ◌&&◌, Bool, true, false, not, nat_lt, List, [], ◌∷◌, ◌++◌, length, refl, ap, sym, ◌∙◌, subst, arith, nat_tests, Option, All-nil, All-cons, All-append}
use Rattle.std.proofs.Common.{Some, None}
use Rattle.dm_law_runs.proofs.Names.{Boot, IsValid, Step, Directive, Line, Two, all_of, ones, joined, labels, IsKept, IsRun, IsStep, Leads, Spelled, Point, first_point, group_of, worn_in, bind, bind-is, unless_worn, rule_group, by_rule, led}
use Rattle.dm_law_runs.proofs.Names.{AllHeld, can_hold, group_after}
use Rattle.std.proofs.lemmas.List.{map-append}
use Rattle.dm_schedule.specs.declared.Step.TheVariants as step
use Rattle.dm_schedule.specs.declared.Directive.TheVariants as directive
use Rattle.dm_law_one.proofs.Runs.{received_once}
use Rattle.dm_law_rule.proofs.Groups.{stands_once_always}
use Rattle.dm_law_mirror.specs.Run.{IsGood}
use Rattle.dm_law_mirror.proofs.Going.{leads_last, replays_last, run_behind, run_last}
use Rattle.dm_law_mirror.proofs.Next.{machines_stay}
use Rattle.dm_check.specs.Good.{AreHeads}
use Rattle.dm_law_runs.proofs.Wires.{Counts, lines_count}
use Rattle.dm_law_runs.proofs.Traces.Groups.{group_head}
use Rattle.dm_check.proofs.Checks.{heads_last}

-- a run that came there
pub record Came (b : Boot) (es : List Step) (gs : List (List Line)) (pt : Point) : Type 0 where
  pub good : IsGood b (ones es) gs pt (all_of [])
  pub leads : Leads b (first_point b) es pt
  pub counts : Counts b.numbers pt.view
  pub held : AllHeld (length b.machines) es
  pub heads : AreHeads es gs

pub came_first : (b : Boot) → Came b [] [] (first_point b)
came_first b = record {
  good = record { run = (refl, refl); replays = refl; received = λ i. omega arith };
  leads = refl;
  counts = λ a c. omega arith;
  held = All-nil (λ (e : Step). can_hold (length b.machines) e ≡ true);
  heads = tt;
}

-- a directive that a schedule can hold is for its machines
pub both_first : (x y : Bool) → x && y ≡ true → x ≡ true
both_first true y e = refl
both_first false y e = e

pub both_second : (x y : Bool) → x && y ≡ true → y ≡ true
both_second true y e = e
both_second false y e = absurd (cc)

pub is_below : (a n : ℕ) → nat_lt a n ≡ true → a < n
is_below a n e = grind (arith, nat_tests)

pub differ : (a b : ℕ) → not (a == b) ≡ true → a ≢ b
differ a b e = grind (arith, nat_tests)

pub held_fits : (n : ℕ) (e : Step) → can_hold n e ≡ true → IsStep n e
held_fits n (step.Turn m) h = is_below m n h
held_fits n (step.Tick m) h = is_below m n h
held_fits n (step.Deliver a b k) h =
    let ab = both_first (nat_lt a n && nat_lt b n) (not (a == b)) h in
    (is_below a n (both_first (nat_lt a n) (nat_lt b n) ab), is_below b n (both_second (nat_lt a n) (nat_lt b n) ab), differ a b (both_second (nat_lt a n && nat_lt b n) (not (a == b)) h))
held_fits n (step.Migrate p m) h = is_below m n (both_second (nat_lt p.home n) (nat_lt m n) h)
held_fits n (step.CallOff p m) h = is_below m n (both_second (nat_lt p.home n) (nat_lt m n) h)

-- the run so far, with one more directive behind it
run_before : (b : Boot) (es : List Step) (gs : List (List Line)) (pt : Point) (e : Step) → IsRun b (first_point b) (all_of (ones es)) gs pt (all_of []) → IsRun b (first_point b) (all_of (ones (es ++ e ∷ []))) gs pt (all_of (directive.One e ∷ []))
run_before b es gs pt e run =
    subst (λ (ds : List Directive). IsRun b (first_point b) (all_of ds) gs pt (all_of (directive.One e ∷ []))) (sym (map-append directive.One es (e ∷ [])))
    (run_behind b gs (first_point b) pt (all_of (ones es)) (all_of []) (directive.One e ∷ []) run)

pub came_on : (b : Boot) (es : List Step) (gs : List (List Line)) (pt : Point) (e : Step) (w : Spelled) → IsValid b → Came b es gs pt → can_hold (length b.machines) e ≡ true → group_of b pt e ≡ Some w → worn_in b.numbers pt.view w.lines ≡ None
    → Came b (es ++ e ∷ []) (gs ++ w.lines ∷ []) w.point
came_on b es gs pt e w valid c held due fresh =
    let P : Step → Type 0 = λ d. can_hold (length b.machines) d ≡ true in
    let fits : IsStep pt.kernel.machines e = subst (λ (k : ℕ). IsStep k e) (sym (machines_stay b es pt valid c.leads)) (held_fits (length b.machines) e held) in
    let leads : Leads b (first_point b) (es ++ e ∷ []) w.point = leads_last b es (first_point b) pt e w c.leads fits due in
    let counts : Counts b.numbers w.point.view = lines_count b.numbers w.lines pt w.point (group_after b pt e w due) fresh c.counts in
    let kept : IsKept b w.point = record { once = λ id. stands_once_always b (es ++ e ∷ []) w.point id valid leads; counts = counts } in
    let (others, head) = group_head b pt e w due in
    let replays = replays_last b gs pt e w w.lines c.good.replays due refl in
    record {
      good = record {
        run = run_last b gs (first_point b) pt (all_of (ones (es ++ e ∷ []))) (all_of (directive.One e ∷ [])) (record { step = e; left = all_of [] }) w w.lines (run_before b es gs pt e c.good.run) refl due refl kept;
        replays = replays;
        received = λ i. received_once b (labels (joined (gs ++ w.lines ∷ []))) w.point.kernel i valid replays;
      };
      leads = leads;
      counts = counts;
      held = All-append P es (e ∷ []) c.held (All-cons P e [] held (All-nil P));
      heads = heads_last es gs e w.lines others c.heads head;
    }

-- the group that is due is one by the rule
pub record DueGroup (b : Boot) (pt : Point) (e : Step) (ls : List Line) : Type 0 where
  pub group : Spelled
  pub due : group_of b pt e ≡ Some group
  pub fresh : worn_in b.numbers pt.view group.lines ≡ None
  pub lines : group.lines ≡ ls

pub due_group : (b : Boot) (es : List Step) (pt : Point) (e : Step) (ls : List Line) → led b (first_point b) es ≡ Some pt → (by_rule b).group es e ≡ Some ls → DueGroup b pt e ls
due_group b es pt e ls there is =
    let here : rule_group b e pt ≡ Some ls = sym (ap (λ o. bind o (rule_group b e)) there) ∙ is in
    let (w, due, more) = bind-is (group_of b pt e) (λ (v : Spelled). unless_worn (worn_in b.numbers pt.view v.lines) v.lines) ls here in
    by_worn w due (worn_in b.numbers pt.view w.lines) refl more
  where
    by_worn : (w : Spelled) → group_of b pt e ≡ Some w → (o : Option Two) → worn_in b.numbers pt.view w.lines ≡ o → unless_worn o w.lines ≡ Some ls → DueGroup b pt e ls
    by_worn w due None fresh more = record { group = w; due = due; fresh = fresh; lines = cc }
    by_worn w due (Some two) worn more = absurd (cc)
