-- The order of names.
use Rattle.dm_linktable.proofs.Names.{◌≡◌, ℕ, ◌<◌, ◌≤◌, true, false, arith, nat_cmp_total, on_total, then_total, common_steps, IsTotalOrder, Less, Equal, Greater, Pid, pid_cmp, pid_eq}

pub pid_total : IsTotalOrder pid_cmp
pid_total = then_total (on_total (λ (p : Pid). p.home) nat_cmp_total) (on_total (λ (p : Pid). p.num) nat_cmp_total)

pub pid_eq_same : (p q : Pid) → pid_eq p q ≡ true → p ≡ q
pid_eq_same p q h = grind (arith, common_steps)

pub pid_eq_self : (p : Pid) → pid_eq p p ≡ true
pid_eq_self p = grind (arith, common_steps)

pub pid_less_apart : (p q : Pid) → pid_cmp p q ≡ Less → pid_eq p q ≡ false
pid_less_apart p q h = grind (arith, common_steps)

pub pid_equal : (p q : Pid) → pid_cmp p q ≡ Equal → p ≡ q
pid_equal p q h = grind (arith, common_steps)

pub pid_less_back : (p q : Pid) → pid_cmp p q ≡ Less → pid_cmp q p ≡ Greater
pid_less_back p q h = grind (arith, common_steps)

pub pid_greater_back : (p q : Pid) → pid_cmp p q ≡ Greater → pid_cmp q p ≡ Less
pid_greater_back p q h = grind (arith, common_steps)

-- what stands before or behind p's place isn't p
pub absent_between : (p q : Pid) (i k : ℕ) → (k < i → pid_cmp p q ≡ Less) → (i ≤ k → pid_cmp q p ≡ Less) → pid_eq p q ≡ false
absent_between p q i k before behind = grind (arith, common_steps, before, behind, pid_less_apart p q, pid_less_apart q p, pid_eq_same p q, pid_eq_self p)
