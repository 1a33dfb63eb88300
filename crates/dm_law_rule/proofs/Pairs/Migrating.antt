-- The parts that migration adds keep the pairs of machines wherever they stand.
use Rattle.dm_law_rule.proofs.Names.{◌≡◌, ℕ, false, refl, Pid, Pair, Point, migrates, arith, nat_tests, calls_off}
use Rattle.dm_law_rule.proofs.Pairs.Lines.{AllFit, touches}
use Rattle.dm_law_rule.proofs.Requests.{by_migrates}
use Rattle.dm_law_rule.proofs.Hearing.{Kept, calls_off_kept}

pub fit_kept : (f : ℕ → ℕ → Pair) → Kept (AllFit f)
fit_kept f = record { none = tt; says = λ l ps h k. ((let e_ : touches l ≡ false = grind (arith, nat_tests) in e_), k); again = λ i to ps k. (tt, k); owns = λ k q to ps h. (tt, h); answers = λ i r. (refl, (tt, tt)) }

pub migrates_fit : (f : ℕ → ℕ → Pair) (pt : Point) (p : Pid) → AllFit f (migrates pt p)
migrates_fit f pt p = by_migrates (AllFit f) pt p (refl, tt) (refl, tt) (λ n off is. (tt, tt))

pub calls_off_fit : (f : ℕ → ℕ → Pair) (pt : Point) (m : ℕ) (p : Pid) → AllFit f (calls_off pt m p (pt.view.known m p))
calls_off_fit f pt m p = calls_off_kept (AllFit f) (fit_kept f) pt m p
