-- The words of the command `explain`.
use Rattle.std.specs.Prelude.{ℕ, Bool, not, ◌&&◌, List, [], ◌∷◌, codes, is_some}
use Rattle.std.specs.declared.option.Option.{Option}
use Rattle.std.specs.declared.option.Option.TheVariants.{None, Some}
use Rattle.clap.specs.Walk.{Row, first_of}
use Rattle.clap.specs.Simple.{Shape, new_shape}
use Rattle.dm_words.specs.FileWords.{file_option, free_option}
use Rattle.dm_words.specs.Request.{Request, Explain, Judge}

-- `explain --boot FILE [--schedule FILE | --trace FILE]`
abbrev pub explain_command : Shape
explain_command = record (new_shape (codes "explain")) { rules = file_option (codes "boot") ∷ free_option (codes "schedule") ∷ free_option (codes "trace") ∷ [] }

-- what is asked for with a boot file, and a schedule or a trace where one is named
abbrev pub explaining : Option (List ℕ) → Option (List ℕ) → Option (List ℕ) → Option Request
explaining None schedule trace = None
explaining (Some boot) schedule None = Some (Explain boot schedule)
explaining (Some boot) None (Some trace) = Some (Judge boot trace)
explaining (Some boot) (Some schedule) (Some trace) = None

-- what its matches ask for
abbrev pub explain_request : List Row → Option Request
explain_request rows = explaining (first_of (codes "boot") rows) (first_of (codes "schedule") rows) (first_of (codes "trace") rows)

-- no schedule and trace are named together
abbrev pub takes_explain : List Row → Bool
takes_explain rows = not (is_some (first_of (codes "schedule") rows) && is_some (first_of (codes "trace") rows))
