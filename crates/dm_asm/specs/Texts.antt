-- The text of .ascii: what stands between quotation marks in a line.
use Rattle.std.specs.Prelude.{ℕ, Bool, ◌==◌, ◌&&◌, ◌+◌, nat_le, if◌then◌else◌, Option, Some, None, List, [], ◌∷◌, length, take, drop, slice_index}
use Rattle.std.specs.List.{list_all, position}
use Rattle.dm_reading.specs.Words.{source_words}

-- a quotation mark
abbrev pub is_quote : ℕ → Bool
is_quote c = c == 34

-- a byte that is printed
abbrev pub is_printed : ℕ → Bool
is_printed c = nat_le 32 c && nat_le c 126

-- a text of such bytes
abbrev pub printed_text : List ℕ → Option (List ℕ)
printed_text bytes = if list_all is_printed bytes then Some bytes else None

-- a text with its closing mark at a place, and no word behind that
abbrev pub text_closed : List ℕ → Option ℕ → Option (List ℕ)
text_closed rest None = None
text_closed rest (Some end) = if length (source_words (drop (end + 1) rest)) == 0 then printed_text (take end rest) else None

-- a text behind its opening mark
unfoldable pub text_behind : List ℕ → Option (List ℕ)
text_behind rest = text_closed rest (position is_quote rest)

-- a text with its opening mark at a place of a line
abbrev pub text_opened : List ℕ → Option ℕ → Option (List ℕ)
text_opened line None = None
text_opened line (Some start) = text_behind (drop (start + 1) line)

-- the text that begins at the first quotation mark of a line without its comment, and ends it
unfoldable pub text_in : List ℕ → Option (List ℕ)
text_in line = text_opened line (position is_quote line)

-- the text that stands as operand, where the first of these words begins with its mark
abbrev pub text_operand : Option (List ℕ) → List (List ℕ) → Option (List ℕ)
text_operand text [] = None
text_operand text (w ∷ ws) = if slice_index w 0 == 34 then text else None
