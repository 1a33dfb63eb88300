-- Links that are sound keep their rules.
use Rattle.dm_boot.proofs.Imports.{◌≡◌, ℕ, ◌+◌, ◌<◌, ◌≤◌, ◌&&◌, Bool, true, false, List, [], ◌∷◌, ◌++◌, length, get_or, drop, None, refl, arith, Value, Data, Items, no_items, item, view, items_view, BootProcess}
use Rattle.dm_boot.proofs.Imports.{all_items, count, first_failing, link_tables, process_tables, start_of, starts_from, starts_of, LinkCount, LinkTarget, LinkLimits, has_target, is_limited, keeps, subjects, broken_at, first_broken, link_rules, is_sound, has_sound_links, all_sound}
use Rattle.dm_boot.proofs.Elements.{all-end, element_at}

-- elements that pass two tests
parts : (a b : Bool) → (a && b) ≡ true → (a ≡ true) × (b ≡ true)
parts true b h = (refl, h)
parts false b h = absurd (cc)

targets-sound : (d : Data) (ls : Items) → all_items (is_sound d) ls ≡ true → all_items (has_target d) ls ≡ true
unfolding is_sound
targets-sound d no_items h = refl
targets-sound d (item l ls) h =
    let (here, rest) = parts (has_target d l && is_limited d l) (all_items (is_sound d) ls) h in
    let (target, _) = parts (has_target d l) (is_limited d l) here in
    rw target (targets-sound d ls rest)

limits-sound : (d : Data) (ls : Items) → all_items (is_sound d) ls ≡ true → all_items (is_limited d) ls ≡ true
unfolding is_sound
limits-sound d no_items h = refl
limits-sound d (item l ls) h =
    let (here, rest) = parts (has_target d l && is_limited d l) (all_items (is_sound d) ls) h in
    let (_, limited) = parts (has_target d l) (is_limited d l) here in
    rw limited (limits-sound d ls rest)

none-failing : (test : ℕ → Data → Bool) (P : Data → Bool) → ((i : ℕ) (t : Data) → P t ≡ true → test i t ≡ true) → (i : ℕ) (ts : Items) → all_items P ts ≡ true → first_failing test i ts ≡ None
unfolding first_failing
none-failing test P each i no_items h = refl
none-failing test P each i (item t ts) h =
    let (here, rest) = parts (P t) (all_items P ts) h in
    rw (each i t here) (none-failing test P each (i + 1) ts rest)

target-kept : (d : Data) → all_sound d ≡ true → broken_at LinkTarget d ≡ None
unfolding broken_at keeps subjects
target-kept d h = none-failing (λ _ t. all_items (has_target d) (link_tables t)) (has_sound_links d) (λ _ t. targets-sound d (link_tables t)) 0 (process_tables d) h

limits-kept : (d : Data) → all_sound d ≡ true → broken_at LinkLimits d ≡ None
unfolding broken_at keeps subjects
limits-kept d h = none-failing (λ _ t. all_items (is_limited d) (link_tables t)) (has_sound_links d) (λ _ t. limits-sound d (link_tables t)) 0 (process_tables d) h

-- where all links are sound only the rule of their number is left
pub sound-rules : (d : Data) → all_sound d ≡ true → first_broken link_rules d ≡ first_broken (LinkCount ∷ []) d
unfolding first_broken
sound-rules d h = rw (target-kept d h, limits-kept d h)

pub ruleset sound_lemmas = (sound-rules)

-- as many processes as tables
starts-length : (d : Data) (done : List BootProcess) (ts : Items) → length (starts_from d done ts) ≡ count ts
unfolding starts_from
starts-length d done no_items = refl
starts-length d done (item t ts) = omega (arith, starts-length d (done ++ start_of d done t ∷ []) ts)

pub starts-many : (d : Data) (starts : List BootProcess) → starts ≡ starts_of d → length starts ≡ count (process_tables d)
unfolding starts_of
starts-many d starts e = rw e (starts-length d [] (process_tables d))

pub ruleset length_lemmas = (starts-many)

-- whether all elements so far passed a test, as a loop goes through them
pub sound-more : (P : Data → Bool) (s b : Bool) (vs : List Value) (i : ℕ) (v : Value) → i < length vs → v ≡ get_or vs i v → b ≡ P (view v) → (s && all_items P (items_view (drop i vs))) ≡ ((s && b) && all_items P (items_view (drop (i + 1) vs)))
sound-more P true b vs i v within read said = rw (element_at vs i v within read, said)
sound-more P false b vs i v within read said = refl

pub sound-end : (P : Data → Bool) (s : Bool) (vs : List Value) (i : ℕ) → length vs ≤ i → (s && all_items P (items_view (drop i vs))) ≡ s
sound-end P true vs i past = all-end P vs i past
sound-end P false vs i past = refl

pub both-sound : (s b r : Bool) → s ≡ true → r ≡ b → r ≡ (s && b)
both-sound s b r so_far is = rw (so_far, is)

pub first-unsound : (s b r : Bool) → s ≡ false → r ≡ s → r ≡ (s && b)
first-unsound s b r so_far is = rw (is, so_far)
