-- What is said before the line of a status, by the words that were given: what was wrong with them, or with which file something is.
use Rattle.std.specs.Prelude.{ℕ, List, [], ◌∷◌, ◌++◌, codes}
use Rattle.dm_ending.specs.declared.status.Input.{Input}
use Rattle.dm_ending.specs.declared.status.Input.TheVariants as input
use Rattle.dm_ending.specs.declared.status.Status.{Status}
use Rattle.dm_ending.specs.declared.status.Status.TheVariants as status
use Rattle.dm_words.specs.declared.option.OptionName.{OptionName}
use Rattle.dm_words.specs.declared.option.OptionName.TheVariants as option
use Rattle.dm_words.specs.Usage.{command_lines, or_nothing, told, usage_pieces, value_of}

-- the option that names a file
abbrev pub option_for : Input → OptionName
option_for input.Boot = option.Boot
option_for input.Schedule = option.Schedule
option_for input.Trace = option.Trace
option_for input.Labels = option.Labels

abbrev pub file_told : Input → List (List ℕ) → List ℕ
file_told i ws = or_nothing (value_of (option_for i) ws)

-- the most bytes that it may have
abbrev pub most_bytes : Input → List ℕ
most_bytes input.Boot = codes "1048576"
most_bytes input.Schedule = codes "16777216"
most_bytes input.Trace = codes "16777216"
most_bytes input.Labels = codes "16777216"

abbrev pub file_pieces : List ℕ → List (List ℕ)
file_pieces name = told (codes "can't be read: ") name [] [] ++ codes "\n" ∷ []

abbrev pub too_long_pieces : Input → List ℕ → List (List ℕ)
too_long_pieces i name = told name (codes " has more than ") (most_bytes i) (codes " bytes") ++ codes "\n" ∷ []

abbrev pub no_pieces : List (List ℕ)
no_pieces = told [] [] [] [] ++ [] ∷ []

-- where a word isn't Unicode
unfoldable pub unread_pieces : List (List ℕ)
unread_pieces = told (codes "a word isn't UTF-8") [] [] [] ++ command_lines ∷ []

-- a row a status
abbrev pub said_pieces : List (List ℕ) → Status → List (List ℕ)
said_pieces ws status.Done = no_pieces
said_pieces ws status.Usage = usage_pieces ws
said_pieces ws (status.ReadFault i) = file_pieces (file_told i ws)
said_pieces ws (status.NoMemory lack) = no_pieces
said_pieces ws status.WriteFault = no_pieces
said_pieces ws (status.BootRefused number place) = no_pieces
said_pieces ws (status.ScheduleRefused line why) = no_pieces
said_pieces ws (status.TooLong i) = too_long_pieces i (file_told i ws)
said_pieces ws (status.Worn from to) = no_pieces
said_pieces ws (status.TraceRefused line why) = no_pieces
said_pieces ws (status.LabelsRefused line) = no_pieces
said_pieces ws status.NotFound = no_pieces
said_pieces ws status.Undecided = no_pieces
