-- What tables of the boot file hold at their keys.
use Rattle.std.specs.Prelude.{ℕ, ◌+◌, ◌&&◌, ◌||◌, Bool, true, false, nat_le, ℤ, pos, negsuc, List, [], ◌∷◌, codes, Some, None, unwrap_or, option_map, option_and_then, if◌then◌else◌}
use Rattle.std.specs.List.{list_any}
use Rattle.std.specs.Option.{is_none, is_some}
use Rattle.std.specs.Str.{bytes_eq}
use Rattle.std.specs.declared.option.Option.{Option}
use Rattle.toml.specs.Data.{Data, table, Items, no_items, item, Members, no_members, member, get, get_item, as_str, as_integer, as_bool, as_array}

-- a key is among these
abbrev pub is_known : List (List ℕ) → List ℕ → Bool
is_known keys k = list_any (λ known. bytes_eq known k) keys

-- each key is among these
abbrev pub all_known : List (List ℕ) → Members → Bool
all_known keys no_members = true
all_known keys (member k d ms) = is_known keys k && all_known keys ms

-- a table with no other keys than these
abbrev pub has_only : List (List ℕ) → Data → Bool
has_only keys (table ms) = all_known keys ms
has_only keys _ = false

-- the key has a value that is read so: an integer, a text, a truth, an array
abbrev pub has_value : {A : Type 0} → (Data → Option A) → List ℕ → Data → Bool
has_value read key d = is_some (option_and_then read (get key d))

-- the key is missing, or has such a value
abbrev pub may_have : {A : Type 0} → (Data → Option A) → List ℕ → Data → Bool
may_have read key d = is_none (get key d) || has_value read key d

-- the text at a key; empty where there is none
abbrev pub text_at : List ℕ → Data → List ℕ
text_at key d = unwrap_or (option_and_then as_str (get key d)) []

-- the text of a table that has this key alone, where it has a text
abbrev pub lone_member : List ℕ → Members → Option (List ℕ)
lone_member key no_members = None
lone_member key (member k d no_members) = if bytes_eq k key then as_str d else None
lone_member key (member k d (member l e ms)) = None

abbrev pub lone_text : List ℕ → Data → Option (List ℕ)
lone_text key (table ms) = lone_member key ms
lone_text key _ = None

-- the truth at a key; false where there is none
abbrev pub truth_at : List ℕ → Data → Bool
truth_at key d = unwrap_or (option_and_then as_bool (get key d)) false

-- a number, where it lies within these bounds
abbrev pub in_range : ℕ → ℕ → ℤ → Option ℕ
in_range least most (pos n) = if nat_le least n && nat_le n most then Some n else None
in_range least most (negsuc n) = None

-- the integer at a key, where it lies within these bounds; the first number where the key is missing
unfoldable pub number_at : ℕ → ℕ → ℕ → List ℕ → Data → Option ℕ
number_at default least most key d =
    unwrap_or (option_map (λ v. option_and_then (in_range least most) (as_integer v)) (get key d)) (Some default)

-- a number; 0 where there is none
abbrev pub or_zero : Option ℕ → ℕ
or_zero n = unwrap_or n 0

-- the elements of the array at a key; none where there is no array
unfoldable pub items_at : List ℕ → Data → Items
items_at key d = unwrap_or (option_and_then as_array (get key d)) no_items

-- how many elements
abbrev pub count : Items → ℕ
count no_items = 0
count (item d ds) = count ds + 1

-- each element passes a test
abbrev pub all_items : (Data → Bool) → Items → Bool
all_items test no_items = true
all_items test (item d ds) = test d && all_items test ds

-- the place of the first element that fails a test, from i on
unfoldable pub first_failing : (ℕ → Data → Bool) → ℕ → Items → Option ℕ
first_failing test i no_items = None
first_failing test i (item d ds) = if test i d then first_failing test (i + 1) ds else Some i

-- what each element says, in order
unfoldable pub map_items : {A : Type 0} → (Data → A) → Items → List A
map_items f no_items = []
map_items f (item d ds) = f d ∷ map_items f ds

-- the element's name is this one
abbrev pub is_named : List ℕ → Data → Bool
is_named name d = bytes_eq (text_at (codes "name") d) name

-- the place of the first element with this name, from i on
abbrev pub element_place_from : ℕ → List ℕ → Items → Option ℕ
element_place_from i name no_items = None
element_place_from i name (item d ds) = if is_named name d then Some i else element_place_from (i + 1) name ds

-- the place of the first element with this name
unfoldable pub element_place : List ℕ → Items → Option ℕ
element_place name ds = element_place_from 0 name ds

-- the first element with this name
unfoldable pub named : List ℕ → Items → Option Data
named name ds = option_and_then (λ k. get_item k ds) (element_place name ds)
