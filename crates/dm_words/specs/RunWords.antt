-- The words of the command `run`.
use Rattle.std.specs.Prelude.{List, codes}
use Rattle.std.specs.declared.option.Option.{Option}
use Rattle.clap.specs.Walk.{Row}
use Rattle.clap.specs.Simple.{Shape}
use Rattle.dm_words.specs.FileWords.{file_command, two_files}
use Rattle.dm_words.specs.Request.{Request, Run}

-- `run --boot FILE --schedule FILE`
abbrev pub run_command : Shape
run_command = file_command (codes "run") (codes "boot") (codes "schedule")

-- what its matches ask for
abbrev pub run_request : List Row → Option Request
run_request rows = two_files (λ boot schedule. Run boot schedule) (codes "boot") (codes "schedule") rows
