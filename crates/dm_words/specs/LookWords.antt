-- The words of the command `look`.
use Rattle.std.specs.Prelude.{ℕ, Bool, is_some, List, [], ◌∷◌, codes, option_and_then}
use Rattle.std.specs.declared.option.Option.{Option}
use Rattle.std.specs.declared.option.Option.TheVariants.{None, Some}
use Rattle.clap.specs.Walk.{Row, first_of}
use Rattle.clap.specs.Simple.{Shape, new_shape}
use Rattle.dm_text.specs.Reading.{read_u32}
use Rattle.dm_words.specs.DrillWords.{flag_of, flag_option, number_option}
use Rattle.dm_words.specs.FileWords.{file_option}
use Rattle.dm_words.specs.Request.{Request, Look}

-- `look --boot FILE --schedule FILE --at G [--names]`
abbrev pub look_command : Shape
look_command = record (new_shape (codes "look")) { rules = file_option (codes "boot") ∷ file_option (codes "schedule") ∷ number_option (codes "at") ∷ flag_option (codes "names") ∷ [] }

-- how many groups the option `--at` says, in decimal digits without a sign or a 0 in front
abbrev pub groups_of : List Row → Option ℕ
groups_of rows = option_and_then read_u32 (first_of (codes "at") rows)

abbrev pub has_groups : List Row → Bool
has_groups rows = is_some (groups_of rows)

-- whether the names of the boot file are to be said
abbrev pub names_of : List Row → Bool
names_of rows = flag_of (codes "names") rows

-- what is asked for, where both files and the number are there
abbrev pub looking : Option (List ℕ) → Option (List ℕ) → Option ℕ → Bool → Option Request
looking (Some boot) (Some schedule) (Some groups) names = Some (Look boot schedule groups names)
looking (Some boot) (Some schedule) None names = None
looking (Some boot) None groups names = None
looking None schedule groups names = None

-- what its matches ask for
abbrev pub look_request : List Row → Option Request
look_request rows = looking (first_of (codes "boot") rows) (first_of (codes "schedule") rows) (groups_of rows) (names_of rows)
