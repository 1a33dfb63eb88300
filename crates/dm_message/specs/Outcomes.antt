-- How a requested move ended, as a number.
use Rattle.std.specs.Prelude.{ℕ}
use Rattle.dm_message.specs.declared.Outcome.{Outcome}
use Rattle.dm_message.specs.declared.Outcome.TheVariants as ends

abbrev pub code_of_outcome : Outcome → ℕ
code_of_outcome ends.Done = 0
code_of_outcome ends.Stayed = 1
code_of_outcome ends.Ended = 3
