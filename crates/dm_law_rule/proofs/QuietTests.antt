-- The test for quiet decides whether all is quiet.
use Rattle.dm_law_rule.proofs.Names.{◌≡◌, ℕ, ◌<◌, ◌==◌, ◌&&◌, Bool, true, false, not, List, [], ◌∷◌, length, nat_lt, refl, ap, ◌∙◌, sym, arith, ◌||◌, false≢true, nat_tests, MsgId, all_below, all_of_each, both_true, each_of_all, left_true}
use Rattle.dm_law_rule.proofs.Names.{right_true, QuietIsTested, IsQuiet, has_mail, is_quiet, pair_is_quiet, Pair, View, eq-eqb, ne_eqb, eqb-true}
pub use Rattle.std.proofs.lemmas.Bool.{eq-eqb as eq_is, ne_eqb as eq_not}

pub no_mail_empty : (v : View) (m : ℕ) → not (has_mail v m) ≡ true → v.inbox m ≡ []
no_mail_empty v m e = none (v.inbox m) e
  where
    none : {X : Type 0} (xs : List X) → not (nat_lt 0 (length xs)) ≡ true → xs ≡ []
    none [] e = refl
    none (x ∷ xs) e = absurd (some (length (x ∷ xs)) (omega arith) e)
      where
        some : (n : ℕ) → 0 < n → not (nat_lt 0 n) ≡ true → ⊥
        some n h e = grind (arith, nat_tests)

pub quiet_passes : (n : ℕ) (v : View) → IsQuiet n v → is_quiet n v ≡ true
quiet_passes n v q =
    let heard_by : (same : Bool) (p : Pair) → (same ≡ false → p.acked ≡ length p.ids) → (same || (p.acked == length p.ids)) ≡ true =
    λ same p h. (elim same as (λ same_. ((same_ ≡ false → p.acked ≡ length p.ids)) → (same_ || (p.acked == length p.ids)) ≡ true) [ true ↦ λ h'. refl | false ↦ λ h'. eq-eqb p.acked (length p.ids) (h' refl) ]) h in
    all_of_each n (λ a. not (has_mail v a) && all_below n (λ b. pair_is_quiet (a == b) (v.pair a b)))
    (λ a h. both_true (not (has_mail v a)) (all_below n (λ b. pair_is_quiet (a == b) (v.pair a b))) (ap (λ (xs : List MsgId). not (nat_lt 0 (length xs))) (q.inbox a h))
    (all_of_each n (λ b. pair_is_quiet (a == b) (v.pair a b))
    (λ b k. both_true ((v.pair a b).taken == length (v.pair a b).ids) ((a == b) || ((v.pair a b).acked == length (v.pair a b).ids)) (eq-eqb (v.pair a b).taken (length (v.pair a b).ids) (q.taken a b h k))
    (heard_by (a == b) (v.pair a b) (λ apart. q.acked a b h k (λ same. false≢true (sym apart ∙ eq-eqb a b same)))))))

pub passes_quiet : (n : ℕ) (v : View) → is_quiet n v ≡ true → IsQuiet n v
passes_quiet n v e =
    let heard_is : (same : Bool) (p : Pair) → same ≡ false → (same || (p.acked == length p.ids)) ≡ true → p.acked ≡ length p.ids = λ same p h1 h2. search (arith, eqb-true) in
    let each = λ (a : ℕ) (h : a < n). each_of_all n (λ a. not (has_mail v a) && all_below n (λ b. pair_is_quiet (a == b) (v.pair a b))) e a h in
    let pair = λ (a b : ℕ) (h : a < n) (k : b < n). each_of_all n (λ b. pair_is_quiet (a == b) (v.pair a b)) (right_true (not (has_mail v a)) (all_below n (λ b. pair_is_quiet (a == b) (v.pair a b))) (each a h)) b k in
    search (arith, eqb-true, left_true, heard_is, ne_eqb, right_true, no_mail_empty)

pub quiet_is_tested : QuietIsTested
quiet_is_tested n v = (passes_quiet n v, quiet_passes n v)
