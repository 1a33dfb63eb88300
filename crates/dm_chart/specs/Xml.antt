-- Elements of a document: well formed by construction, since each is opened and closed by its name, and what stands between
-- is elements or words without a bracket, a quotation mark or an ampersand.
use Rattle.std.specs.Prelude.{ℕ, codes, List, ◌++◌}
use Rattle.std.specs.List.{flat_map}

-- an attribute: its name and its value
abbrev pub attribute : List ℕ × List ℕ → List ℕ
attribute a = codes " " ++ a.0 ++ codes "='" ++ a.1 ++ codes "'"

abbrev pub attributes : List (List ℕ × List ℕ) → List ℕ
attributes as_ = flat_map attribute as_

-- an element with nothing in it
unfoldable pub alone : List ℕ → List (List ℕ × List ℕ) → List ℕ
alone name as_ = codes "<" ++ name ++ attributes as_ ++ codes "/>\n"

-- what opens an element, and what closes it
unfoldable pub opening_tag : List ℕ → List (List ℕ × List ℕ) → List ℕ
opening_tag name as_ = codes "<" ++ name ++ attributes as_ ++ codes ">"

abbrev pub closing : List ℕ → List ℕ
closing name = codes "</" ++ name ++ codes ">\n"

-- an element round its content
unfoldable pub element_around : List ℕ → List (List ℕ × List ℕ) → List ℕ → List ℕ
element_around name as_ content = opening_tag name as_ ++ content ++ closing name
