-- The words of a command that names two files.
use Rattle.std.specs.Prelude.{ℕ, true, List, [], ◌∷◌}
use Rattle.std.specs.declared.option.Option.{Option}
use Rattle.std.specs.declared.option.Option.TheVariants.{None, Some}
use Rattle.clap.specs.Walk.{Row, Rule, first_of}
use Rattle.clap.specs.Simple.{Shape, new_rule, new_shape}
use Rattle.dm_words.specs.Request.{Request}

-- the option `--name FILE`, which has to be there
abbrev pub file_option : List ℕ → Rule
file_option name = record (new_rule name) { long = Some name; required = true }

-- the option `--name FILE`, which may be there
abbrev pub free_option : List ℕ → Rule
free_option name = record (new_rule name) { long = Some name }

-- `name --one FILE --other FILE`
abbrev pub file_command : List ℕ → List ℕ → List ℕ → Shape
file_command name one other = record (new_shape name) { rules = file_option one ∷ file_option other ∷ [] }

-- what two files are named for, where both are there
abbrev pub both_files : (List ℕ → List ℕ → Request) → Option (List ℕ) → Option (List ℕ) → Option Request
both_files asked (Some one) (Some other) = Some (asked one other)
both_files asked (Some one) None = None
both_files asked None other = None

-- the files that these two options name
abbrev pub two_files : (List ℕ → List ℕ → Request) → List ℕ → List ℕ → List Row → Option Request
two_files asked one other rows = both_files asked (first_of one rows) (first_of other rows)
