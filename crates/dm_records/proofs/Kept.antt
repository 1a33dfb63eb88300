-- A process that has a record keeps one where a record is set.
use Rattle.dm_records.proofs.Names.{◌≡◌, Bool, true, false, cond, if◌then◌else◌, IsSome, ◌∙◌, ap, arith, refl, rules, sym, common_steps, is_at, Option, Some, Pid, pid_cmp, pid_eq, option_flatten}

one_of : {R : Type 0} (same : Bool) (x : R) (o : Option R) → IsSome o → IsSome (if same then Some x else o)
one_of true x o s = search rules
one_of false x o s = s

pub still_some : {R : Type 0} (records : Pid → Option R) (n : Option R) (p q : Pid) (x : R) → n ≡ (if pid_eq p q then Some x else records q) → IsSome (records q) → IsSome n
still_some records n p q x e s = rw e (one_of (pid_eq p q) x (records q) s)

same_at : (p q : Pid) → is_at (pid_cmp p) q ≡ pid_eq p q
same_at p q = grind (arith, common_steps)

pid_same : (p q : Pid) → pid_eq p q ≡ true → p ≡ q
pid_same p q h = grind (arith, common_steps)

in_chosen : {R : Type 0} (same : Bool) (n o : Option (Option R)) (w : Option R) → n ≡ cond same (Some w) o → option_flatten n ≡ (if same then w else option_flatten o)
in_chosen true n o w e = ap option_flatten e
in_chosen false n o w e = ap option_flatten e

-- what stands in a place that is set, and in the others
pub in_set : {R : Type 0} (old : Pid → Option (Option R)) (n : Option (Option R)) (p q : Pid) (w : Option R) → n ≡ cond (is_at (pid_cmp p) q) (Some w) (old q)
    → option_flatten n ≡ (if pid_eq p q then w else option_flatten (old q))
in_set old n p q w e = in_chosen (pid_eq p q) n (old q) w (e ∙ ap (λ (b : Bool). cond b (Some w) (old q)) (same_at p q))

as_it_was : {R : Type 0} (same : Bool) (n o : Option R) → (same ≡ true → n ≡ o) → (if same then n else o) ≡ o
as_it_was true n o e = e refl
as_it_was false n o e = refl

-- a place that is set as it was
pub in_same : {R : Type 0} (old : Pid → Option (Option R)) (n : Option (Option R)) (p q : Pid) (w : Option R) → old p ≡ Some w → n ≡ cond (is_at (pid_cmp p) q) (Some w) (old q)
    → option_flatten n ≡ option_flatten (old q)
in_same old n p q w is e =
    in_set old n p q w e ∙ as_it_was (pid_eq p q) w (option_flatten (old q)) (λ same. sym (ap option_flatten is) ∙ ap (λ (r : Pid). option_flatten (old r)) (pid_same p q same))

-- what is seen of a place that is set, and of the others
seen_chosen : {P X : Type 0} (see : Option P → X) (same : Bool) (n o : Option P) (w : P) → n ≡ cond same (Some w) o → see n ≡ (if same then see (Some w) else see o)
seen_chosen see true n o w e = ap see e
seen_chosen see false n o w e = ap see e

pub seen_set : {P X : Type 0} (see : Option P → X) (old : Pid → Option P) (n : Option P) (p q : Pid) (w : P) → n ≡ cond (is_at (pid_cmp p) q) (Some w) (old q) → see n ≡ (if pid_eq p q then see (Some w) else see (old q))
seen_set see old n p q w e = seen_chosen see (pid_eq p q) n (old q) w (e ∙ ap (λ (b : Bool). cond b (Some w) (old q)) (same_at p q))

seen_as : {X : Type 0} (same : Bool) (n o : X) → (same ≡ true → n ≡ o) → (if same then n else o) ≡ o
seen_as true n o e = e refl
seen_as false n o e = refl

-- and where what is seen of it stays
pub seen_kept : {P X : Type 0} (see : Option P → X) (old : Pid → Option P) (n : Option P) (p q : Pid) (w : P) → see (Some w) ≡ see (old p) → n ≡ cond (is_at (pid_cmp p) q) (Some w) (old q) → see n ≡ see (old q)
seen_kept see old n p q w is e = seen_set see old n p q w e ∙ seen_as (pid_eq p q) (see (Some w)) (see (old q)) (λ same. is ∙ ap (λ (r : Pid). see (old r)) (pid_same p q same))

-- a record that is set as it was
pub same_set : {R : Type 0} (records : Pid → Option R) (n : Option R) (p q : Pid) (x : R) → records p ≡ Some x → n ≡ (if pid_eq p q then Some x else records q) → n ≡ records q
same_set records n p q x is e = e ∙ seen_as (pid_eq p q) (Some x) (records q) (λ same. sym is ∙ ap records (pid_same p q same))
