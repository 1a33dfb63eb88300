-- What is wrong with the keys and the numbers of a table.
use Rattle.std.specs.Prelude.{ℕ, not, Bool, ◌||◌, if◌then◌else◌, ℤ, codes, List, [], ◌∷◌, ◌++◌, map, Option, None, Some}
use Rattle.std.specs.List.{concat, flat_map}
use Rattle.std.specs.Option.{is_some, option_and_then}
use Rattle.std.specs.Fmt.{decimal}
use Rattle.toml.specs.Data.{Data, Members, get, array, as_array, as_bool, as_integer, as_str, boolean, datetime, float, integer, member, no_members, string, table}
use Rattle.dm_boot.specs.Tables.{has_only, has_value, is_known, number_at}
use Rattle.dm_explain.specs.declared.wanted.Sort.{Sort}
use Rattle.dm_explain.specs.declared.wanted.Sort.TheVariants.{Integer, Text, Truth, Array, Place}
use Rattle.dm_explain.specs.Parts.{integer_text, quoted}
use Rattle.dm_explain.specs.Wanted.{Wish, Limit, sort_words}

-- the key has what it must be
abbrev pub is_sort : Sort → Data → Bool
is_sort Integer d = is_some (as_integer d)
is_sort Text d = is_some (as_str d)
is_sort Truth d = is_some (as_bool d)
is_sort Place d = is_some (as_integer d) || is_some (as_str d)
is_sort Array d = is_some (as_array d)

abbrev pub met_by : Wish → Option Data → Bool
met_by w None = not w.needed
met_by w (Some d) = is_sort w.sort d

unfoldable pub is_met : Wish → Data → Bool
is_met w d = met_by w (get w.key d)

-- what is said of the first that isn't good, or something else
unfoldable pub first_bad : {W : Type 0} → (W → Bool) → (W → List ℕ) → List ℕ → List W → List ℕ
first_bad good told other [] = other
first_bad good told other (w ∷ ws) = if good w then first_bad good told other ws else told w

-- a key that isn't there
abbrev pub absence_told : Option Data → List ℕ
absence_told None = codes ", and it is missing"
absence_told (Some d) = []

unfoldable pub wish_told : Wish → Data → List ℕ
wish_told w d = concat (w.key ∷ codes " must be " ∷ sort_words w.sort ∷ []) ++ absence_told (get w.key d)

-- the first wish that isn't met, or something else
unfoldable pub wish_fault : List Wish → List ℕ → Data → List ℕ
wish_fault ws other d = first_bad (λ w. is_met w d) (λ w. wish_told w d) other ws

-- the keys, each behind a space
abbrev pub keys_text : List Wish → List ℕ
keys_text ws = flat_map (λ w. codes " " ++ w.key) ws

-- the first of these members whose key isn't among some
unfoldable pub first_unknown : List (List ℕ) → Members → Option (List ℕ)
first_unknown keys no_members = None
first_unknown keys (member k d ms) = if is_known keys k then first_unknown keys ms else Some k

abbrev pub unknown_key : List (List ℕ) → Data → Option (List ℕ)
unknown_key keys (table ms) = first_unknown keys ms
unknown_key keys (string s) = None
unknown_key keys (integer z) = None
unknown_key keys (float x) = None
unknown_key keys (boolean b) = None
unknown_key keys (datetime t) = None
unknown_key keys (array vs) = None

abbrev pub unknown_key_told : Option (List ℕ) → List ℕ
unknown_key_told None = []
unknown_key_told (Some k) = concat (codes ", not " ∷ quoted k ∷ [])

-- the keys that a table may have, and one that it has beside them
abbrev pub other_keys_told : List Wish → List (List ℕ) → Data → List ℕ
other_keys_told ws keys d = codes "its keys may be" ++ keys_text ws ++ unknown_key_told (unknown_key keys d)

-- what is wrong with the keys of a table, or something else
unfoldable pub key_fault : List Wish → List ℕ → Data → List ℕ
key_fault ws other d =
    if has_only (map (λ w. w.key) ws) d then wish_fault ws other d else other_keys_told ws (map (λ w. w.key) ws) d

-- the integer at a key
unfoldable pub integer_at : List ℕ → Data → Option ℤ
integer_at key d = option_and_then as_integer (get key d)

-- a number that is outside its limits
unfoldable pub limit_told : Limit → Data → List ℕ
limit_told l d = concat (l.key ∷ codes " = " ∷ integer_text (integer_at l.key d) ∷ codes ", which must be " ∷ decimal l.least ∷ codes " to " ∷ decimal l.most ∷ [])

-- the number lies within its limits, or isn't there, or a text stands in its place
unfoldable pub is_within : Limit → Data → Bool
is_within l d = has_value as_str l.key d || is_some (number_at l.most l.least l.most l.key d)

-- the first number that is outside its limits, or something else
unfoldable pub number_fault : List Limit → List ℕ → Data → List ℕ
number_fault ls other d = first_bad (λ l. is_within l d) (λ l. limit_told l d) other ls
