-- How an answer is told: as a schedule in each case.
use Rattle.std.specs.Prelude.{ℕ, List, [], ◌∷◌, ◌++◌, codes, length, map}
use Rattle.std.specs.Fmt.{decimal}
use Rattle.dm_schedule.specs.declared.Step.{Step}
use Rattle.dm_line.specs.declared.line.Line.TheVariants as line
use Rattle.dm_text.specs.Text.{text_of_lines}
use Rattle.dm_explore.specs.Answers.{Answer, Found, NoneWithin, Undecided}

abbrev pub schedules_told : ℕ → List ℕ
schedules_told n = decimal n ++ codes " schedules\n"

abbrev pub answer_text : Answer → List ℕ
answer_text (Found steps) = codes "# found in " ++ decimal (length steps) ++ codes " directives\n" ++ text_of_lines (map line.Head steps)
answer_text (NoneWithin depth tried) = codes "# none within " ++ decimal depth ++ codes " directives: " ++ schedules_told tried
answer_text (Undecided most) = codes "# undecided: " ++ schedules_told most
