-- Decimal numbers.
use Rattle.std.specs.Prelude.{ℕ, Bool, ◌==◌, ◌&&◌, ◌||◌, nat_lt, if◌then◌else◌, Option, Some, None, List, length, slice_index}
use Rattle.dm_reading.specs.Digits.{digits_after}
use Rattle.dm_reading.specs.declared.numbers.Base.TheVariants.{Ten}

-- the number that a word's decimal digits make after those of n
abbrev pub number_after : ℕ → List ℕ → Option ℕ
number_after n word = digits_after Ten n word

-- the number, if it is below a limit
abbrev pub if_below : ℕ → Option ℕ → Option ℕ
if_below limit None = None
if_below limit (Some n) = if nat_lt n limit then Some n else None

-- a digit 0 with others after it
abbrev pub is_padded : List ℕ → Bool
is_padded w = slice_index w 0 == 48 && nat_lt 1 (length w)

-- the number below a limit that a word spells in decimal, with no 0 in front
unfoldable pub read_number : ℕ → List ℕ → Option ℕ
read_number limit w = if length w == 0 || is_padded w then None else if_below limit (number_after 0 w)
