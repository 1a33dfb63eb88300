-- The images, as loops go through them.
use Rattle.dm_boot.proofs.Imports.{◌≡◌, ℕ, ◌+◌, ◌<◌, ◌≤◌, true, false, List, ◌∷◌, length, get_or, drop, Option, Some, None, Ok, Err, ap, sym, ◌∙◌, drop_more, drop_of_length-le, Value, view, items_view, BootImage, BootRule, assembles}
use Rattle.dm_boot.proofs.Imports.{first_unassembled, image_fits, first_long, unless_at}
use Rattle.dm_boot.proofs.Elements.{failing-end, failing-more, failing-here, map-end, map-more}

-- one rule that is kept or broken
pub kept-here : {A : Type 0} (rule : BootRule) (broken : Option ℕ) (built : A) → broken ≡ None → unless_at rule broken built ≡ Ok built
unfolding unless_at
kept-here rule broken built none = rw none

pub broken-here : {A : Type 0} (rule : BootRule) (broken : Option ℕ) (built : A) (place : ℕ) → broken ≡ Some place → unless_at rule broken built ≡ Err (rule, place)
unfolding unless_at
broken-here rule broken built place some = rw some

-- texts
pub text-end : (vs : List Value) (i : ℕ) → length vs ≤ i → first_unassembled i (items_view (drop i vs)) ≡ None
unfolding first_unassembled
text-end vs i past = failing-end (λ _ t. assembles t) vs i past

pub text-more : (vs : List Value) (i : ℕ) (v : Value) → i < length vs → v ≡ get_or vs i v → assembles (view v) ≡ true → first_unassembled i (items_view (drop i vs)) ≡ first_unassembled (i + 1) (items_view (drop (i + 1) vs))
unfolding first_unassembled
text-more vs i v within read passes = failing-more (λ _ t. assembles t) vs i v within read passes

pub text-here : (vs : List Value) (i : ℕ) (v : Value) → i < length vs → v ≡ get_or vs i v → assembles (view v) ≡ false → first_unassembled i (items_view (drop i vs)) ≡ Some i
unfolding first_unassembled
text-here vs i v within read fails = failing-here (λ _ t. assembles t) vs i v within read fails

pub ruleset image_lemmas = (text-end, text-more, text-here, map-end, map-more, kept-here, broken-here)

-- sizes
image_at : (is : List BootImage) (i : ℕ) (v : BootImage) → i < length is → v ≡ get_or is i v → drop i is ≡ v ∷ drop (i + 1) is
image_at is i v within read = drop_more is i v within ∙ ap (λ x. x ∷ drop (i + 1) is) (sym read)

pub long-end : (is : List BootImage) (i : ℕ) → length is ≤ i → first_long i (drop i is) ≡ None
unfolding first_long
long-end is i past = ap (first_long i) (drop_of_length-le is past)

pub long-more : (is : List BootImage) (i : ℕ) (v : BootImage) → i < length is → v ≡ get_or is i v → image_fits v ≡ true → first_long i (drop i is) ≡ first_long (i + 1) (drop (i + 1) is)
unfolding first_long
long-more is i v within read fits = rw (image_at is i v within read, fits)

pub long-here : (is : List BootImage) (i : ℕ) (v : BootImage) → i < length is → v ≡ get_or is i v → image_fits v ≡ false → first_long i (drop i is) ≡ Some i
unfolding first_long
long-here is i v within read long = rw (image_at is i v within read, long)

pub ruleset long_lemmas = (long-end, long-more, long-here)
