-- What stands in a list that was made from another.
use Rattle.dm_law_mirror.proofs.Names.{◌≡◌, ℕ, zero, suc, ◌<◌, ◌||◌, Bool, true, false, if◌then◌else◌, List, [], ◌∷◌, ◌++◌, length, map, refl, ap, ◌∙◌, sym, ◌⊎◌, inl, inr, arith, nat_tests, subst}
use Rattle.std.specs.Prelude.{filter, slice_index_or}
use Rattle.std.specs.List.{Contains, flat_map, list_any}

-- an item stands in a list
abbrev pub Has : {X : Type 0} → List X → X → Type 0
Has [] x = ⊥
Has (y ∷ ys) x = (y ≡ x) ⊎ Has ys x

has_at : {X : Type 0} (xs : List X) (x : X) (k : ℕ) → k < length xs → slice_index_or xs k x ≡ x → Has xs x
has_at [] x k less e = absurd (omega (arith, less))
has_at (y ∷ ys) x zero less e = inl e
has_at (y ∷ ys) x (suc k) less e = inr (has_at ys x k (omega (arith, less)) e)

pub has_of : {X : Type 0} (xs : List X) (x : X) → Contains xs x → Has xs x
has_of xs x h = has_at xs x h.0 h.1 h.2

pub of_has : {X : Type 0} (xs : List X) (x : X) → Has xs x → Contains xs x
of_has [] x h = absurd h
of_has (y ∷ ys) x (inl e) = (0, omega arith, e)
of_has (y ∷ ys) x (inr h) = let c = of_has ys x h in let less = c.1 in (suc c.0, omega (arith, less), c.2)

-- of two lists
pub has_left : {X : Type 0} (xs ys : List X) (x : X) → Has xs x → Has (xs ++ ys) x
has_left [] ys x h = absurd h
has_left (y ∷ xs) ys x (inl e) = inl e
has_left (y ∷ xs) ys x (inr h) = inr (has_left xs ys x h)

pub has_right : {X : Type 0} (xs ys : List X) (x : X) → Has ys x → Has (xs ++ ys) x
has_right [] ys x h = h
has_right (y ∷ xs) ys x h = inr (has_right xs ys x h)

pub has_either : {X : Type 0} (xs ys : List X) (x : X) → Has (xs ++ ys) x → Has xs x ⊎ Has ys x
has_either [] ys x h = inr h
has_either (y ∷ xs) ys x (inl e) = inl (inl e)
has_either (y ∷ xs) ys x (inr h) = elim (has_either xs ys x h) [ inl k ↦ inl (inr k) | inr k ↦ inr k ]

-- what a function makes of each
pub record IsMade {X Y : Type 0} (f : X → Y) (xs : List X) (y : Y) : Type 0 where
  pub item : X
  pub there : Has xs item
  pub is : f item ≡ y

pub made_of : {X Y : Type 0} (f : X → Y) (xs : List X) (y : Y) → Has (map f xs) y → IsMade f xs y
made_of f [] y h = absurd h
made_of f (x ∷ xs) y (inl e) = record { item = x; there = inl refl; is = e }
made_of f (x ∷ xs) y (inr h) = let k = made_of f xs y h in record { item = k.item; there = inr k.there; is = k.is }

pub has_made : {X Y : Type 0} (f : X → Y) (xs : List X) (x : X) → Has xs x → Has (map f xs) (f x)
has_made f [] x h = absurd h
has_made f (y ∷ xs) x (inl e) = inl (ap f e)
has_made f (y ∷ xs) x (inr h) = inr (has_made f xs x h)

-- those that pass a test
passed_by : {X : Type 0} (p : X → Bool) (y : X) (ys : List X) (x : X) (c : Bool) → p y ≡ c → (Has (filter p ys) x → Has ys x × (p x ≡ true)) → Has (if c then y ∷ filter p ys else filter p ys) x → Has (y ∷ ys) x × (p x ≡ true)
passed_by p y ys x true is more (inl e) = (inl e, sym (ap p e) ∙ is)
passed_by p y ys x true is more (inr h) = let k = more h in (inr k.0, k.1)
passed_by p y ys x false is more h = let k = more h in (inr k.0, k.1)

pub passed : {X : Type 0} (p : X → Bool) (xs : List X) (x : X) → Has (filter p xs) x → Has xs x × (p x ≡ true)
passed p [] x h = absurd h
passed p (y ∷ ys) x h = passed_by p y ys x (p y) refl (passed p ys x) h

passes_by : {X : Type 0} (p : X → Bool) (y : X) (ys : List X) (x : X) (c : Bool) → p y ≡ c → p x ≡ true → (Has ys x → Has (filter p ys) x) → Has (y ∷ ys) x → Has (if c then y ∷ filter p ys else filter p ys) x
passes_by p y ys x true is t more (inl e) = inl e
passes_by p y ys x true is t more (inr h) = inr (more h)
passes_by p y ys x false is t more (inl e) = absurd (let f : true ≡ false = sym t ∙ (sym (ap p e) ∙ is) in cc)
passes_by p y ys x false is t more (inr h) = more h

pub passes : {X : Type 0} (p : X → Bool) (xs : List X) (x : X) → p x ≡ true → Has xs x → Has (filter p xs) x
passes p [] x t h = absurd h
passes p (y ∷ ys) x t h = passes_by p y ys x (p y) refl t (passes p ys x t) h

-- the lists that a function makes of each, one after the other
pub record IsInOne {X Y : Type 0} (f : X → List Y) (xs : List X) (y : Y) : Type 0 where
  pub item : X
  pub there : Has xs item
  pub has : Has (f item) y

pub in_one : {X Y : Type 0} (f : X → List Y) (xs : List X) (y : Y) → Has (flat_map f xs) y → IsInOne f xs y
in_one f [] y h = absurd h
in_one f (x ∷ xs) y h = elim (has_either (f x) (flat_map f xs) y h) [
  | inl here ↦ record { item = x; there = inl refl; has = here }
  | inr more ↦ (let k = in_one f xs y more in record { item = k.item; there = inr k.there; has = k.has })
]

in_first : {X Y : Type 0} (f : X → List Y) (x z : X) (y : Y) → z ≡ x → Has (f x) y → Has (f z) y
in_first f x z y e h = subst (λ w. Has (f w) y) (sym e) h

pub has_in_one : {X Y : Type 0} (f : X → List Y) (xs : List X) (x : X) (y : Y) → Has xs x → Has (f x) y → Has (flat_map f xs) y
has_in_one f [] x y there h = absurd there
has_in_one f (z ∷ xs) x y (inl e) h = has_left (f z) (flat_map f xs) y (in_first f x z y e h)
has_in_one f (z ∷ xs) x y (inr there) h = has_right (f z) (flat_map f xs) y (has_in_one f xs x y there h)

-- one passes a test
some_or : (c d : Bool) → c ≡ true → (c || d) ≡ true
some_or c d e = grind (arith, nat_tests)

pub some_passes : {X : Type 0} (p : X → Bool) (xs : List X) (x : X) → p x ≡ true → Has xs x → list_any p xs ≡ true
some_passes p [] x t h = absurd h
some_passes p (y ∷ xs) x t (inl e) = some_or (p y) (list_any p xs) (ap p e ∙ t)
some_passes p (y ∷ xs) x t (inr h) = let k = some_passes p xs x t h in grind (arith, nat_tests)
