-- The elements of an array by their names.
use Rattle.std.specs.Prelude.{◌≡◌, ℕ, List}
use Rattle.std.specs.Str.{bytes_eq}
use Rattle.std.specs.declared.option.Option.{Option}
use denote.Ref.{Bor}
use Rattle.indexmap.specs.IndexMap.{IndexMap, get_by}
use Rattle.toml.specs.Data.{Items}
use Rattle.dm_boot.specs.Tables.{element_place}

-- the places of elements by name, in a hashed map
abbrev pub Places : Type 0 → Type 0
Places S = IndexMap (Bor (List ℕ)) ℕ S

-- the place that a name has there
abbrev pub place_in : {S : Type 0} → Places S → List ℕ → Option ℕ
place_in places name = get_by (λ k. bytes_eq name k.now) places

-- each name has the place of its first element
abbrev pub FindsNames : {S : Type 0} → Places S → Items → Type 0
FindsNames places items = (name : List ℕ) → place_in places name ≡ element_place name items
