-- The system of a drill is one that may start, for each number of machines.
use Rattle.dm_draw.proofs.Names.{◌≡◌, ℕ, zero, suc, ◌+◌, ◌-◌, ◌<◌, ◌≤◌, ◌&&◌, ◌==◌, nat_le, Bool, true, false, [], length, refl, sym, subst, arith, nat_tests, Boot, IsValid, machines_are_valid, images_are_valid, processes_are_valid}
use Rattle.dm_draw.proofs.Names.{boot_of_machines}

-- all that is asked of a boot file
abbrev pub is_valid : Boot → Bool
is_valid b =
    nat_le 1 b.numbers && (nat_le b.numbers 1048576 && (nat_le 1 b.quantum && (nat_le b.quantum 1000
    && (nat_le 1 (length b.machines) && (nat_le (length b.machines) 16 && (machines_are_valid b 0 b.machines
    && (nat_le (length b.images) 256 && (images_are_valid b.images && processes_are_valid b [] b.processes))))))))

both_first : (x y : Bool) → x && y ≡ true → x ≡ true
both_first true y e = refl
both_first false y e = e

both_second : (x y : Bool) → x && y ≡ true → y ≡ true
both_second true y e = e
both_second false y e = absurd (cc)

valid_by : (b : Boot) → is_valid b ≡ true → IsValid b
valid_by b e =
    let e1 = both_second _ _ e in
    let e2 = both_second _ _ e1 in
    let e3 = both_second _ _ e2 in
    let e4 = both_second _ _ e3 in
    let e5 = both_second _ _ e4 in
    let e6 = both_second _ _ e5 in
    let e7 = both_second _ _ e6 in
    let e8 = both_second _ _ e7 in
    record {
      least_numbers = both_first _ _ e;
      most_numbers = both_first _ _ e1;
      least_quantum = both_first _ _ e2;
      most_quantum = both_first _ _ e3;
      some_machines = both_first _ _ e4;
      few_machines = both_first _ _ e5;
      machines = both_first _ _ e6;
      few_images = both_first _ _ e7;
      images = both_first _ _ e8;
      processes = both_second _ _ e8;
    }

-- a test of each number below n
abbrev each_below : (ℕ → Bool) → ℕ → Bool
each_below f zero = true
each_below f (suc n) = each_below f n && f n

same_by : (k n : ℕ) → (k == n) ≡ true → k ≡ n
same_by k n same = grind (arith, nat_tests)

below_by : (k n : ℕ) → (k == n) ≡ false → k < suc n → k < n
below_by k n other l = grind (arith, nat_tests)

at_or_below : (f : ℕ → Bool) (n k : ℕ) (b : Bool) → (k == n) ≡ b → k < suc n → f n ≡ true → (k < n → f k ≡ true) → f k ≡ true
at_or_below f n k true same l here below = subst (λ (m : ℕ). f m ≡ true) (sym (same_by k n same)) here
at_or_below f n k false other l here below = below (below_by k n other l)

each_at : (f : ℕ → Bool) (n k : ℕ) → each_below f n ≡ true → k < n → f k ≡ true
each_at f zero k e l = absurd (omega (arith, l))
each_at f (suc n) k e l = at_or_below f n k (k == n) refl l (both_second _ _ e) (λ m. each_at f n k (both_first _ _ e) m)

tested : each_below (λ k. is_valid (boot_of_machines (k + 2))) 15 ≡ true
unfolding boot_of_machines
tested = refl

pub boot_valid : (machines : ℕ) → 2 ≤ machines → machines ≤ 16 → IsValid (boot_of_machines machines)
boot_valid machines least most =
    let e : is_valid (boot_of_machines (machines - 2 + 2)) ≡ true = each_at (λ k. is_valid (boot_of_machines (k + 2))) 15 (machines - 2) tested (omega (arith, least, most)) in
    valid_by (boot_of_machines machines) (subst (λ (n : ℕ). is_valid (boot_of_machines n) ≡ true) (omega (arith, least)) e)
