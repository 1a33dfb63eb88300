-- The words of the command `chart`.
use Rattle.std.specs.Prelude.{ℕ, ◌&&◌, nat_le, Bool, true, false, if◌then◌else◌, is_some, List, [], ◌∷◌, codes, option_and_then}
use Rattle.std.specs.declared.option.Option.{Option}
use Rattle.std.specs.declared.option.Option.TheVariants.{None, Some}
use Rattle.clap.specs.Walk.{Row, first_of}
use Rattle.clap.specs.Simple.{Shape, new_shape}
use Rattle.dm_text.specs.Reading.{read_u32}
use Rattle.dm_words.specs.FileWords.{file_option, free_option}
use Rattle.dm_words.specs.Request.{Request, Chart}

-- `chart --boot FILE --schedule FILE [--from G] [--to G]`
abbrev pub chart_command : Shape
chart_command =
    record (new_shape (codes "chart")) { rules = file_option (codes "boot") ∷ file_option (codes "schedule") ∷ free_option (codes "from") ∷ free_option (codes "to") ∷ [] }

-- the number of a group that a word says, in decimal digits without a 0 in front
abbrev pub from_one : Option ℕ → Option ℕ
from_one None = None
from_one (Some n) = if nat_le 1 n then Some n else None

unfoldable pub group_in : List ℕ → Option ℕ
group_in word = from_one (read_u32 word)

abbrev pub is_group_or_none : Option (List ℕ) → Bool
is_group_or_none None = true
is_group_or_none (Some word) = is_some (group_in word)

-- the values of its two numbers are such
abbrev pub takes_chart : List Row → Bool
takes_chart rows = is_group_or_none (first_of (codes "from") rows) && is_group_or_none (first_of (codes "to") rows)

-- what is asked for, where both files are there, and each number that is there is one
abbrev pub charting : Option (List ℕ) → Option (List ℕ) → Bool → Option ℕ → Option ℕ → Option Request
charting (Some boot) (Some schedule) true first last = Some (Chart boot schedule first last)
charting (Some boot) (Some schedule) false first last = None
charting (Some boot) None taken first last = None
charting None schedule taken first last = None

-- what its matches ask for
abbrev pub chart_request : List Row → Option Request
chart_request rows =
    charting (first_of (codes "boot") rows) (first_of (codes "schedule") rows) (takes_chart rows) (option_and_then group_in (first_of (codes "from") rows)) (option_and_then group_in (first_of (codes "to") rows))
