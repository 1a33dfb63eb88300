-- What a document whose rules are kept says of its numbers.
use Rattle.dm_boot.proofs.Imports.{◌≡◌, ℕ, ◌+◌, ◌<◌, ◌&&◌, zero, suc, Bool, true, false, if◌then◌else◌, nat_le, ℤ, pos, negsuc, List, length, slice_get, Option, Some, None, refl, sym, arith, and_parts, nat_tests, is_some, list_all, Data}
use Rattle.std.specs.Prelude.{option_and_then}
use Rattle.toml.specs.Data.{as_str, string, integer, float, boolean, datetime, array, table}
use Rattle.dm_boot.proofs.Imports.{place_at, Items, no_items, item, get_item, get, as_integer, in_range, integer_in, number_or, number_at, or_zero, count, first_failing, map_items, element_place_from, element_place, is_named}

-- an `if` that says nothing
pub if-none : (b : Bool) (rest : Option ℕ) (i : ℕ) → (if b then rest else Some i) ≡ None → (b ≡ true) × (rest ≡ None)
if-none true rest i h = (refl, h)
if-none false rest i h = absurd (cc)

pub none-is : {A : Type 0} (o : Option A) → is_some o ≡ true → (x : A) × (o ≡ Some x)
none-is None h = absurd (cc)
none-is (Some x) h = (x, refl)

-- numbers within bounds
bounds-test : (least most n : ℕ) (b : Bool) → b ≡ (nat_le least n && nat_le n most) → is_some (if b then Some n else None) ≡ true → (nat_le least (or_zero (if b then Some n else None)) ≡ true) × (nat_le (or_zero (if b then Some n else None)) most ≡ true)
bounds-test least most n true e h = and_parts (nat_le least n) (nat_le n most) (sym e)
bounds-test least most n false e h = absurd (cc)

bounds-range : (least most : ℕ) (z : ℤ) → is_some (in_range least most z) ≡ true → (nat_le least (or_zero (in_range least most z)) ≡ true) × (nat_le (or_zero (in_range least most z)) most ≡ true)
bounds-range least most (pos n) h = bounds-test least most n (nat_le least n && nat_le n most) refl h
bounds-range least most (negsuc n) h = absurd (cc)

bounds-integer : (least most : ℕ) (o : Option ℤ) → is_some (integer_in least most o) ≡ true → (nat_le least (or_zero (integer_in least most o)) ≡ true) × (nat_le (or_zero (integer_in least most o)) most ≡ true)
bounds-integer least most None h = absurd (cc)
bounds-integer least most (Some z) h = bounds-range least most z h

bounds-or : (default least most : ℕ) (o : Option Data) → nat_le least default ≡ true → nat_le default most ≡ true → is_some (number_or default least most o) ≡ true → (nat_le least (or_zero (number_or default least most o)) ≡ true) × (nat_le (or_zero (number_or default least most o)) most ≡ true)
bounds-or default least most None a b h = (a, b)
bounds-or default least most (Some d) a b h = bounds-integer least most (as_integer d) h

pub number-bounds : (default least most : ℕ) (key : List ℕ) (d : Data) → nat_le least default ≡ true → nat_le default most ≡ true → is_some (number_at default least most key d) ≡ true → (nat_le least (or_zero (number_at default least most key d)) ≡ true) × (nat_le (or_zero (number_at default least most key d)) most ≡ true)
unfolding number_at
number-bounds default least most key d a b h = bounds-or default least most (get key d) a b h

-- a number that is 0
zero-either : (b : Bool) → or_zero (if b then Some 0 else None) ≡ 0
zero-either true = refl
zero-either false = refl

no-test : (a b : Bool) (n : ℕ) → b ≡ false → is_some (if a && b then Some n else None) ≡ true → ⊥
no-test true true n e h = absurd (cc)
no-test true false n e h = absurd (cc)
no-test false b n e h = absurd (cc)

zero-range : (most : ℕ) (z : ℤ) → is_some (in_range 0 0 z) ≡ true → or_zero (in_range 0 most z) ≡ 0
zero-range most (pos zero) h = zero-either (nat_le 0 0 && nat_le 0 most)
zero-range most (pos (suc n)) h =
    let no : nat_le (suc n) 0 ≡ false = grind (arith, nat_tests) in
    absurd (no-test (nat_le 0 (suc n)) (nat_le (suc n) 0) (suc n) no h)
zero-range most (negsuc n) h = refl

zero-integer : (most : ℕ) (o : Option ℤ) → is_some (integer_in 0 0 o) ≡ true → or_zero (integer_in 0 most o) ≡ 0
zero-integer most None h = refl
zero-integer most (Some z) h = zero-range most z h

zero-or : (most : ℕ) (o : Option Data) → is_some (number_or 0 0 0 o) ≡ true → or_zero (number_or 0 0 most o) ≡ 0
zero-or most None h = refl
zero-or most (Some d) h = zero-integer most (as_integer d) h

pub number-zero : (most : ℕ) (key : List ℕ) (d : Data) → is_some (number_at 0 0 0 key d) ≡ true → or_zero (number_at 0 0 most key d) ≡ 0
unfolding number_at
number-zero most key d h = zero-or most (get key d) h

-- a number at a key is no text
no-text : (most : ℕ) (o : Option Data) → is_some (number_or 0 0 most o) ≡ true → is_some (option_and_then as_str o) ≡ false
no-text most None h = refl
no-text most (Some (string s)) h = absurd (cc)
no-text most (Some (integer z)) h = refl
no-text most (Some (float x)) h = refl
no-text most (Some (boolean b)) h = refl
no-text most (Some (datetime t)) h = refl
no-text most (Some (array vs)) h = refl
no-text most (Some (table ms)) h = refl

pub place-zero : (program : List ℕ) (from : ℕ) (key : List ℕ) (d : Data) → is_some (number_at 0 0 0 key d) ≡ true → or_zero (place_at program from key d) ≡ 0
unfolding place_at number_at
place-zero program from key d h = rw (no-text 0 (get key d) h) (zero-or 65536 (get key d) h)

-- elements that pass two tests
pub both-pass : {A : Type 0} (test more : ℕ → Data → Bool) (f : Data → A) (Q : A → Bool) → ((i : ℕ) (t : Data) → test i t ≡ true → more i t ≡ true → Q (f t) ≡ true) → (i : ℕ) (ts : Items) → first_failing test i ts ≡ None → first_failing more i ts ≡ None → list_all Q (map_items f ts) ≡ true
unfolding first_failing map_items
both-pass test more f Q each i no_items h k = refl
both-pass test more f Q each i (item t ts) h k =
    let (a, rest) = if-none (test i t) (first_failing test (i + 1) ts) i h in
    let (b, rest_too) = if-none (more i t) (first_failing more (i + 1) ts) i k in
    rw (each i t a b) (both-pass test more f Q each (i + 1) ts rest rest_too)

pub length-map : {A : Type 0} (f : Data → A) (ts : Items) → length (map_items f ts) ≡ count ts
unfolding map_items
length-map f no_items = refl
length-map f (item t ts) = omega (arith, length-map f ts)

pub map-at : {A : Type 0} (f : Data → A) (ts : Items) (k : ℕ) (t : Data) → get_item k ts ≡ Some t → slice_get (map_items f ts) k ≡ Some (f t)
unfolding map_items
map-at f no_items zero t h = absurd (cc)
map-at f no_items (suc k) t h = absurd (cc)
map-at f (item u ts) zero t h = cc
map-at f (item u ts) (suc k) t h = map-at f ts k t h

-- a place that was found is one of the elements'
found : (b : Bool) (i k n : ℕ) (rest : Option ℕ) → (if b then Some i else rest) ≡ Some k → (rest ≡ Some k → k < i + 1 + n) → k < i + (n + 1)
found true i k n rest h later =
    let e : i ≡ k = cc in
    omega arith
found false i k n rest h later =
    let below = later h in
    omega arith

element_place_from-within : (i : ℕ) (name : List ℕ) (ds : Items) (k : ℕ) → element_place_from i name ds ≡ Some k → k < i + count ds
element_place_from-within i name no_items k h = absurd (cc)
element_place_from-within i name (item d ds) k h = found (is_named name d) i k (count ds) (element_place_from (i + 1) name ds) h (λ rest. element_place_from-within (i + 1) name ds k rest)

pub place-within : (name : List ℕ) (ds : Items) (k : ℕ) → element_place name ds ≡ Some k → k < count ds
unfolding element_place
place-within name ds k h =
    let below = element_place_from-within 0 name ds k h in
    omega arith

-- there is an element at each place below their number
pub item-at : (ts : Items) (k : ℕ) → k < count ts → (t : Data) × (get_item k ts ≡ Some t)
item-at no_items k h = absurd (omega arith)
item-at (item t ts) zero h = (t, refl)
item-at (item t ts) (suc k) h = item-at ts k (omega arith)
