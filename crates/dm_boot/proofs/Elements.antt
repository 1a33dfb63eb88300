-- The elements of an array, as a loop goes through them.
use Rattle.dm_boot.proofs.Imports.{◌≡◌, ℕ, ◌+◌, ◌<◌, ◌≤◌, zero, suc, Bool, true, false, List, [], ◌∷◌, ◌++◌, length, get_or, drop, Some, None, refl, ap, sym, ◌∙◌, arith, append_assoc, append-nil, drop_of_length-le, Value, Data, no_items}
use Rattle.dm_boot.proofs.Imports.{item, get_item, view, items_view, items_view-drop, count, all_items, first_failing, map_items}

-- an element that was read, and those after it
pub element_at : (vs : List Value) (i : ℕ) (v : Value) → i < length vs → v ≡ get_or vs i v → items_view (drop i vs) ≡ item (view v) (items_view (drop (i + 1) vs))
element_at vs i v within read = items_view-drop vs i v within ∙ ap (λ w. item (view w) (items_view (drop (i + 1) vs))) (sym read)

-- nothing is left
pub no_more : (vs : List Value) (i : ℕ) → length vs ≤ i → items_view (drop i vs) ≡ no_items
no_more vs i past = ap items_view (drop_of_length-le vs past)

-- as many elements as values
pub count-view : (vs : List Value) → count (items_view vs) ≡ length vs
count-view [] = refl
count-view (v ∷ vs) = grind (arith, count-view vs)

pub ruleset count_lemmas = (count-view)

-- a test of all elements
pub all-end : (P : Data → Bool) (vs : List Value) (i : ℕ) → length vs ≤ i → all_items P (items_view (drop i vs)) ≡ true
all-end P vs i past = ap (all_items P) (no_more vs i past)

pub all-more : (P : Data → Bool) (vs : List Value) (i : ℕ) (v : Value) → i < length vs → v ≡ get_or vs i v → P (view v) ≡ true → all_items P (items_view (drop i vs)) ≡ all_items P (items_view (drop (i + 1) vs))
all-more P vs i v within read passes = rw (element_at vs i v within read, passes)

pub all-none : (P : Data → Bool) (vs : List Value) (i : ℕ) (v : Value) → i < length vs → v ≡ get_or vs i v → P (view v) ≡ false → all_items P (items_view (drop i vs)) ≡ false
all-none P vs i v within read fails = rw (element_at vs i v within read, fails)

pub ruleset all_lemmas = (all-end, all-more, all-none)

-- the element at a place
pub get_item-view : (vs : List Value) (k : ℕ) (v : Value) → k < length vs → v ≡ get_or vs k v → get_item k (items_view vs) ≡ Some (view v)
get_item-view [] k v within read = absurd (omega arith)
get_item-view (w ∷ vs) zero v within read = ap (λ x. Some (view x)) (sym read)
get_item-view (w ∷ vs) (suc k) v within read = get_item-view vs k v (omega arith) read

pub ruleset found_lemmas = (get_item-view)

-- the first element that fails a test
pub failing-end : (test : ℕ → Data → Bool) (vs : List Value) (i : ℕ) → length vs ≤ i → first_failing test i (items_view (drop i vs)) ≡ None
unfolding first_failing
failing-end test vs i past = ap (first_failing test i) (no_more vs i past)

pub failing-more : (test : ℕ → Data → Bool) (vs : List Value) (i : ℕ) (v : Value) → i < length vs → v ≡ get_or vs i v → test i (view v) ≡ true → first_failing test i (items_view (drop i vs)) ≡ first_failing test (i + 1) (items_view (drop (i + 1) vs))
unfolding first_failing
failing-more test vs i v within read passes = rw (element_at vs i v within read, passes)

pub failing-here : (test : ℕ → Data → Bool) (vs : List Value) (i : ℕ) (v : Value) → i < length vs → v ≡ get_or vs i v → test i (view v) ≡ false → first_failing test i (items_view (drop i vs)) ≡ Some i
unfolding first_failing
failing-here test vs i v within read fails = rw (element_at vs i v within read, fails)

pub ruleset failing_lemmas = (failing-end, failing-more, failing-here)

-- what each element says
pub map-end : {A : Type 0} (f : Data → A) (done : List A) (vs : List Value) (i : ℕ) → length vs ≤ i → done ++ map_items f (items_view (drop i vs)) ≡ done
unfolding map_items
map-end f done vs i past = ap (λ ds. done ++ map_items f ds) (no_more vs i past) ∙ append-nil done

pub map-more : {A : Type 0} (f : Data → A) (done : List A) (vs : List Value) (i : ℕ) (v : Value) (x : A) → i < length vs → v ≡ get_or vs i v → f (view v) ≡ x → done ++ map_items f (items_view (drop i vs)) ≡ (done ++ x ∷ []) ++ map_items f (items_view (drop (i + 1) vs))
unfolding map_items
map-more f done vs i v x within read says =
    rw (element_at vs i v within read, says) (sym (append_assoc done (x ∷ []) (map_items f (items_view (drop (i + 1) vs)))))

pub ruleset map_lemmas = (map-end, map-more)
