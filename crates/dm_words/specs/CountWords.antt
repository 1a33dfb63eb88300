-- The words of the command `count`.
use Rattle.std.specs.Prelude.{List, codes}
use Rattle.std.specs.declared.option.Option.{Option}
use Rattle.clap.specs.Walk.{Row}
use Rattle.clap.specs.Simple.{Shape}
use Rattle.dm_words.specs.FileWords.{file_command, two_files}
use Rattle.dm_words.specs.Request.{Request, Count}

-- `count --boot FILE --schedule FILE`
abbrev pub count_command : Shape
count_command = file_command (codes "count") (codes "boot") (codes "schedule")

-- what its matches ask for
abbrev pub count_request : List Row → Option Request
count_request rows = two_files (λ boot schedule. Count boot schedule) (codes "boot") (codes "schedule") rows
