-- The predecessors that a machine keeps are those of the lines, also where one is added or all of a process are forgotten; and as many
-- kernels are told as the lines say.
use Rattle.dm_law_mirror.proofs.Names.{◌≡◌, ℕ, ◌+◌, ◌≤◌, ◌<◌, ◌==◌, ◌&&◌, ◌||◌, Bool, true, false, List, [], ◌∷◌, refl, ap, ◌∙◌, sym, inl, inr, arith, if◌then◌else◌, cases_Bool, nat_tests, Pid, pid_eq, pid_eq-is, Boot, at_record, length, zero}
use Rattle.dm_law_mirror.proofs.Names.{suc, filter, range_with_len, machines_with, with_pred, without_preds, added, nobody, with_caller, PredsStand}
use Rattle.dm_law_mirror.proofs.Kernel.Sets.{eq_self, off_if, on_if}
use Rattle.dm_law_rule.proofs.Serving.{neither}

-- the machine itself, by whether this is the process
here_on : {X : Type 0} (f : ℕ → Pid → X) (m : ℕ) (p q : Pid) (x : X) → pid_eq p q ≡ true → at_record f m p x m q ≡ x
here_on f m p q x e = on_if ((m == m) && pid_eq p q) x (f m q) (ap (λ (c : Bool). c && pid_eq p q) (eq_self m) ∙ e)

here_off : {X : Type 0} (f : ℕ → Pid → X) (m : ℕ) (p q : Pid) (x : X) → pid_eq p q ≡ false → at_record f m p x m q ≡ f m q
here_off f m p q x e = off_if ((m == m) && pid_eq p q) x (f m q) (ap (λ (c : Bool). c && pid_eq p q) (eq_self m) ∙ e)

and_off : (c d : Bool) → d ≡ false → (c && d) ≡ false
and_off true d e = e
and_off false d e = refl

not_far : (n j size : ℕ) → n < size → size ≤ j → (n == j) ≡ false
not_far n j size less far = grind (arith, nat_tests)

-- one machine more
pub added_stand : (b : Boot) (said : ℕ → Pid → ℕ → Bool) (kept : Pid → ℕ → Bool) (m n : ℕ) (p : Pid) → n < length b.machines → PredsStand b (said m) kept → PredsStand b (at_record said m p (added n (said m p)) m) (with_pred kept p n)
added_stand b said kept m n p less h = record {
  same = λ q. elim (cases_Bool (pid_eq p q)) [
    | inl is ↦
        let first : with_pred kept p n q ≡ added n (kept q) = λ i j. (is i && (n == j)) || kept q j in
        first ∙ ap (added n) (h.same q) ∙ ap (λ (r : Pid). added n (said m r)) (sym (pid_eq-is p q is)) ∙ sym (here_on said m p q (added n (said m p)) is)
    | inr off ↦
        let first : with_pred kept p n q ≡ kept q = λ i j. (off i && (n == j)) || kept q j in
        first ∙ h.same q ∙ sym (here_off said m p q (added n (said m p)) off)
  ];
  within = λ q j far. neither (pid_eq p q && (n == j)) (kept q j) (and_off (pid_eq p q) (n == j) (not_far n j (length b.machines) less far)) (h.within q j far);
}

-- a process stays where it was, and nobody called its migration off
pub uncalled_stand : (b : Boot) (said : ℕ → Pid → ℕ → Bool) (kept : Pid → ℕ → Bool) (m n : ℕ) (p : Pid) → PredsStand b (said m) kept → PredsStand b (at_record said m p (with_caller false n (said m p)) m) kept
uncalled_stand b said kept m n p h = record {
  same = λ q. elim (cases_Bool (pid_eq p q)) [
    | inl is ↦ h.same q ∙ ap (said m) (sym (pid_eq-is p q is)) ∙ sym (here_on said m p q (with_caller false n (said m p)) is)
    | inr off ↦ h.same q ∙ sym (here_off said m p q (with_caller false n (said m p)) off)
  ];
  within = h.within;
}

-- all of a process are forgotten
pub none_kept : (kept : Pid → ℕ → Bool) (p q : Pid) → pid_eq p q ≡ true → without_preds kept p q ≡ nobody
none_kept kept p q is = λ i j. if is i then false else kept q j

pub others_kept : (kept : Pid → ℕ → Bool) (p q : Pid) → pid_eq p q ≡ false → without_preds kept p q ≡ kept q
others_kept kept p q off = λ i j. if off i then false else kept q j

pub forgotten_stand : (b : Boot) (said : ℕ → Pid → ℕ → Bool) (kept : Pid → ℕ → Bool) (m : ℕ) (p : Pid) → PredsStand b (said m) kept → PredsStand b (at_record said m p nobody m) (without_preds kept p)
forgotten_stand b said kept m p h = record {
  same = λ q. elim (cases_Bool (pid_eq p q)) [
    | inl is ↦ none_kept kept p q is ∙ sym (here_on said m p q nobody is)
    | inr off ↦ others_kept kept p q off ∙ h.same q ∙ sym (here_off said m p q nobody off)
  ];
  within = λ q j far. elim (cases_Bool (pid_eq p q)) [
    | inl is ↦ ap (λ (f : ℕ → Bool). f j) (none_kept kept p q is)
    | inr off ↦ ap (λ (f : ℕ → Bool). f j) (others_kept kept p q off) ∙ h.within q j far
  ];
}

-- Which machines a test admits, of all that there may be and of those that there are.

none_in : (f : ℕ → Bool) (a n : ℕ) → ((j : ℕ) → a ≤ j → f j ≡ false) → filter f (range_with_len a n) ≡ []
none_in f a zero off = refl
none_in f a (suc n) off =
    let same : a ≤ a = omega arith in
    ap (λ (c : Bool). if c then a ∷ filter f (range_with_len (a + 1) n) else filter f (range_with_len (a + 1) n)) (off a same)
    ∙ none_in f (a + 1) n (λ j far. off j (omega (arith, far)))

more_in : (f : ℕ → Bool) (a n k : ℕ) → ((j : ℕ) → a + n ≤ j → f j ≡ false) → filter f (range_with_len a (n + k)) ≡ filter f (range_with_len a n)
more_in f a zero k off = ap (λ (m : ℕ). filter f (range_with_len a m)) (let e : 0 + k ≡ k = omega arith in e) ∙ none_in f a k (λ j far. off j (omega (arith, far)))
more_in f a (suc n) k off =
    let rest = more_in f (a + 1) n k (λ j far. off j (omega (arith, far))) in
    ap (λ (m : ℕ). filter f (range_with_len a m)) (let e : suc n + k ≡ suc (n + k) = omega arith in e)
    ∙ ap (λ (ms : List ℕ). if f a then a ∷ ms else ms) rest

same_in : (f g : ℕ → Bool) → f ≡ g → (ms : List ℕ) → filter f ms ≡ filter g ms
same_in f g e ms = ap (λ (h : ℕ → Bool). filter h ms) e

pub preds_same : (f g : ℕ → Bool) (machines : ℕ) → f ≡ g → machines ≤ 16 → ((j : ℕ) → machines ≤ j → f j ≡ false) → machines_with f ≡ filter g (range_with_len 0 machines)
unfolding machines_with
preds_same f g machines e few off =
    let (k, all) = rest machines 16 few in
    ap (λ (m : ℕ). filter f (range_with_len 0 m)) (sym all) ∙ more_in f 0 machines k (λ j far. off j (omega (arith, far))) ∙ same_in f g e (range_with_len 0 machines)
  where
    rest : (n most : ℕ) → n ≤ most → (k : ℕ) × (n + k ≡ most)
    rest zero most le = (most, omega arith)
    rest (suc n) zero le = absurd (omega (arith, le))
    rest (suc n) (suc most) le = let (k, e) = rest n most (omega (arith, le)) in (k, omega (arith, e))
