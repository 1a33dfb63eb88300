-- The words of the command `check`.
use Rattle.std.specs.Prelude.{ℕ, Bool, true, false, List, [], ◌∷◌, codes, is_some}
use Rattle.std.specs.declared.option.Option.{Option}
use Rattle.std.specs.declared.option.Option.TheVariants.{None, Some}
use Rattle.clap.specs.Walk.{Row, first_of}
use Rattle.clap.specs.Simple.{Shape, new_shape}
use Rattle.dm_words.specs.FileWords.{file_option, free_option}
use Rattle.dm_words.specs.Request.{Request, Check, CheckLabels}

-- `check --boot FILE (--trace FILE | --labels FILE)`
abbrev pub check_command : Shape
check_command = record (new_shape (codes "check")) { rules = file_option (codes "boot") ∷ free_option (codes "trace") ∷ free_option (codes "labels") ∷ [] }

-- what is asked for with a boot file, and just one of the two others
abbrev pub checking : Option (List ℕ) → Option (List ℕ) → Option (List ℕ) → Option Request
checking (Some boot) (Some trace) None = Some (Check boot trace)
checking (Some boot) None (Some labels) = Some (CheckLabels boot labels)
checking (Some boot) (Some trace) (Some labels) = None
checking (Some boot) None None = None
checking None trace labels = None

-- what its matches ask for
abbrev pub check_request : List Row → Option Request
check_request rows = checking (first_of (codes "boot") rows) (first_of (codes "trace") rows) (first_of (codes "labels") rows)

-- a trace or labels, and not both
abbrev pub is_just_one : Option (List ℕ) → Option (List ℕ) → Bool
is_just_one None labels = is_some labels
is_just_one (Some trace) None = true
is_just_one (Some trace) (Some labels) = false

abbrev pub has_just_one : List Row → Bool
has_just_one rows = is_just_one (first_of (codes "trace") rows) (first_of (codes "labels") rows)
