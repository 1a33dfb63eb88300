-- The elements of an array, found by their names.
use Rattle.dm_boot.proofs.Imports.{◌≡◌, ℕ, ◌+◌, ◌<◌, Bool, true, false, if◌then◌else◌, List, None, Some, refl, ap, sym, arith, is_some, option_or, Items, no_items, item}
use Rattle.dm_boot.proofs.Imports.{count, element_place, element_place_from, is_named}
use Rattle.std.specs.declared.option.Option.{Option}

-- a place is one of the elements
from_within : (here : Bool) (i n k : ℕ) (o : Option ℕ) → (if here then Some i else o) ≡ Some k → (o ≡ Some k → k < i + 1 + n) → k < i + (n + 1)
from_within true i n k o e h = let is : i ≡ k = cc in omega arith
from_within false i n k o e h = omega (arith, h e)

place_from_within : (i : ℕ) (name : List ℕ) (ts : Items) (k : ℕ) → element_place_from i name ts ≡ Some k → k < i + count ts
place_from_within i name no_items k e = absurd (cc)
place_from_within i name (item t ts) k e = from_within (is_named name t) i (count ts) k (element_place_from (i + 1) name ts) e (place_from_within (i + 1) name ts k)

pub place_within : (name : List ℕ) (ts : Items) (k : ℕ) → element_place name ts ≡ Some k → k < count ts
unfolding element_place
place_within name ts k e = omega (arith, place_from_within 0 name ts k e)

pub ruleset named_lemmas = (place_within)

pub or_none : (o : Option ℕ) → option_or o None ≡ o
or_none None = refl
or_none (Some k) = refl

-- a name that had no place
pub is_put : (here : Bool) (o : Option ℕ) (place : ℕ) → (here ≡ true → o ≡ None) → (if here then Some place else o) ≡ option_or o (if here then Some place else None)
is_put true o place none = ap (λ p. option_or p (Some place)) (sym (none refl))
is_put false o place none = sym (or_none o)

pub is_absent : (o : Option ℕ) → is_some o ≡ false → o ≡ None
is_absent None e = refl
is_absent (Some k) e = absurd (cc)

-- a name that got a place, or has none yet, and those behind it
pub put_more : (here : Bool) (o new rest : Option ℕ) (place : ℕ) → new ≡ option_or o (if here then Some place else None) → option_or new rest ≡ option_or o (if here then Some place else rest)
put_more true None new rest place e = ap (λ (p : Option ℕ). option_or p rest) e
put_more true (Some k) new rest place e = ap (λ (p : Option ℕ). option_or p rest) e
put_more false None new rest place e = ap (λ (p : Option ℕ). option_or p rest) e
put_more false (Some k) new rest place e = ap (λ (p : Option ℕ). option_or p rest) e
