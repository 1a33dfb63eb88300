-- Lists that grow at the end.
use Rattle.dm_stream.proofs.Names.{◌≡◌, ℕ, zero, suc, ◌+◌, ◌-◌, List, [], ◌∷◌, ◌++◌, length, take, drop, slice_get, Some, None, is_some, if◌then◌else◌, refl, ap, arith}

-- what stood in the list stands there still
pub get-longer : {X : Type 0} (xs ys : List X) (k : ℕ) → slice_get (xs ++ ys) k ≡ (if is_some (slice_get xs k) then slice_get xs k else slice_get ys (k - length xs))
get-longer [] ys k = grind arith
get-longer (y ∷ xs) ys zero = refl
get-longer (y ∷ xs) ys (suc k) = grind (arith, get-longer xs ys k)

-- one more is taken
pub take-next : {X : Type 0} (xs : List X) (n : ℕ) (x : X) → slice_get xs n ≡ Some x → take (n + 1) xs ≡ take n xs ++ x ∷ []
take-next [] n x e = cc
take-next (y ∷ xs) zero x e = grind arith
take-next (y ∷ xs) (suc n) x e = grind (arith, take-next xs n x e)

pub get-drop : {X : Type 0} (n : ℕ) (xs : List X) (i j : ℕ) → j ≡ n + i → slice_get (drop n xs) i ≡ slice_get xs j
get-drop zero xs i j e = ap (slice_get xs) (omega arith)
get-drop (suc n) [] i j e = refl
get-drop (suc n) (x ∷ xs) i zero e = absurd (omega arith)
get-drop (suc n) (x ∷ xs) i (suc j) e = get-drop n xs i j (omega arith)

pub drop-more : {X : Type 0} (m n k : ℕ) (xs : List X) → k ≡ m + n → drop n (drop m xs) ≡ drop k xs
drop-more zero n k xs e = ap (λ j. drop j xs) (omega arith)
drop-more (suc m) zero zero [] e = refl
drop-more (suc m) (suc n) zero [] e = refl
drop-more (suc m) zero (suc k) [] e = refl
drop-more (suc m) (suc n) (suc k) [] e = refl
drop-more (suc m) n zero (x ∷ xs) e = absurd (omega arith)
drop-more (suc m) n (suc k) (x ∷ xs) e = drop-more m n k xs (omega arith)

-- a list without a first element
pub front-none : {X : Type 0} (xs : List X) (i : ℕ) → i ≡ 0 → slice_get xs i ≡ None → length xs ≡ 0
front-none [] i e is = refl
front-none (x ∷ xs) zero e is = cc
front-none (x ∷ xs) (suc i) e is = absurd (omega arith)
