-- The pending request of a number, and where it stands.
use Rattle.dm_procman.proofs.Names.{◌≡◌, ◌<◌, ℕ, zero, suc, true, false, if◌then◌else◌, List, [], ◌∷◌, length, get_or, position, None, Some, refl, rules, ap, ◌∙◌, arith, common_steps, position-Some, remove, IsSome, Option, Pending}
use Rattle.dm_procman.proofs.Names.{has_number, pending_request, without_pending}

first_found : (n : ℕ) (rs : List Pending) (i : ℕ) (d : Pending) → i < length rs → has_number n (get_or rs i d) ≡ true → ((k : ℕ) → k < i → has_number n (get_or rs k d) ≡ false) → pending_request n rs ≡ Some (get_or rs i d)
first_found n [] i d lt here before = absurd (omega (arith, lt))
first_found n (r ∷ rs) zero d lt here before = ap (λ b. if b then Some r else pending_request n rs) here
first_found n (r ∷ rs) (suc i) d lt here before =
    ap (λ b. if b then Some r else pending_request n rs) (before 0 (omega arith))
    ∙ first_found n rs i d (grind (arith, common_steps, lt)) here (λ k h. before (suc k) (grind (arith, h)))

others_kept : (n : ℕ) (rs : List Pending) (i : ℕ) (d : Pending) → i < length rs → has_number n (get_or rs i d) ≡ true → ((k : ℕ) → k < i → has_number n (get_or rs k d) ≡ false) → without_pending n rs ≡ remove rs i
others_kept n [] i d lt here before = absurd (omega (arith, lt))
others_kept n (r ∷ rs) zero d lt here before = ap (λ b. if b then rs else r ∷ without_pending n rs) here ∙ grind (arith, common_steps)
others_kept n (r ∷ rs) (suc i) d lt here before =
    ap (λ b. if b then rs else r ∷ without_pending n rs) (before 0 (omega arith))
    ∙ ap (λ xs. r ∷ xs) (others_kept n rs i d (grind (arith, common_steps, lt)) here (λ k h. before (suc k) (grind (arith, h))))

pub found_there : (n : ℕ) (rs : List Pending) (i : ℕ) (d : Pending) → position (has_number n) rs ≡ Some i → pending_request n rs ≡ Some (get_or rs i d)
found_there n rs i d h = let p = position-Some (has_number n) rs i d h in first_found n rs i d p.0 p.1 p.2

pub others_there : (n : ℕ) (rs : List Pending) (i : ℕ) (d : Pending) → position (has_number n) rs ≡ Some i → without_pending n rs ≡ remove rs i
others_there n rs i d h = let p = position-Some (has_number n) rs i d h in others_kept n rs i d p.0 p.1 p.2

pub none_there : (n : ℕ) (rs : List Pending) → position (has_number n) rs ≡ None → pending_request n rs ≡ None
none_there n [] h = refl
none_there n (r ∷ rs) h = grind (arith, common_steps, h, none_there n rs)

pub never_none : (n : ℕ) (rs : List Pending) → IsSome (pending_request n rs) → position (has_number n) rs ≡ None → ⊥
never_none n rs some none = absurd (grind (arith, common_steps, some, none_there n rs none))

pub is_there : (o : Option ℕ) → (o ≡ None → ⊥) → IsSome o
is_there None never = absurd (never refl)
is_there (Some i) never = search rules
