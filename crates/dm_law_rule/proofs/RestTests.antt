-- The test for rest decides whether all is at rest.
use Rattle.dm_law_rule.proofs.Names.{◌≡◌, ℕ, true, not, is_some, refl, ap, Option, None, Some, false≢true, all_below, all_of_each, both_true, each_of_all, left_true, right_true, is_quiet, Point, first_runnable, at_rest, seen_at, RestIsTested}
use Rattle.dm_law_rule.proofs.Names.{IsAtRest, serves_some}
use Rattle.dm_law_rule.proofs.QuietTests.{passes_quiet, quiet_passes}

none_some : {X : Type 0} (o : Option X) → not (is_some o) ≡ true → o ≡ None
none_some None e = refl
none_some (Some x) e = absurd (false≢true e)

pub rest_passes : (n : ℕ) (pt : Point) → IsAtRest n pt → at_rest n (seen_at n pt) ≡ true
rest_passes n pt r =
    both_true (is_quiet n pt.view) (all_below n (λ m. not (serves_some pt m))) (quiet_passes n pt.view r.quiet)
    (all_of_each n (λ m. not (serves_some pt m)) (λ m h. ap (λ (o : Option _). not (is_some o)) (r.served m h)))

pub passes_rest : (n : ℕ) (pt : Point) → at_rest n (seen_at n pt) ≡ true → IsAtRest n pt
passes_rest n pt e =
    let none = right_true (is_quiet n pt.view) (all_below n (λ m. not (serves_some pt m))) e in
    record {
      quiet = passes_quiet n pt.view (left_true (is_quiet n pt.view) (all_below n (λ m. not (serves_some pt m))) e);
      served = λ m h. none_some (first_runnable pt.kernel (pt.view.queue m) (pt.view.ring m)) (each_of_all n (λ k. not (serves_some pt k)) none m h);
    }

pub rest_is_tested : RestIsTested
rest_is_tested n pt = (passes_rest n pt, rest_passes n pt)
