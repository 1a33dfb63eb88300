-- What the commands say, by the rule.
use Rattle.std.specs.Prelude.{◌≡◌}
use Rattle.std.specs.declared.option.Option.TheVariants.{Some}
use Rattle.dm_law_runs.specs.Traces.DueStands.{due_by_rule}
use Rattle.dm_law_runs.specs.Traces.Good.{IsTrace}
use Rattle.dm_law_runs.specs.Traces.Verdict.{verdict}
use Rattle.dm_explore.specs.Answers.{answer}
use Rattle.dm_law_runs.specs.Choices.ByRule.{AnsweredByRule}
use Rattle.dm_look.specs.Looked.{Holding}
use Rattle.dm_law_runs.specs.Letters.Letters.{HoldsLetters}
use Rattle.dm_cmd_check.specs.Checks.{TraceMeans}
use Rattle.dm_program.specs.Commands.{Terms}
use Rattle.dm_cmd_explore.specs.Explores.{AnswerMeans}
use Rattle.dm_program.specs.Printed.{by_rule}

-- of a trace: its verdict, that it is the text of good lines, and what was due in a line of it
abbrev pub traced_by_rule : TraceMeans
traced_by_rule = record { comes_to = λ b bytes v. verdict b bytes ≡ v; is_of = IsTrace; due_in = λ b bytes line due. due_by_rule b bytes line ≡ Some due }

-- of messages: what is in those that the kernel without machines holds
abbrev pub held_by_rule : Holding by_rule
held_by_rule b p letters = HoldsLetters p.end letters

-- of exploring: the answer by the machines, and what it says of all good runs of choices
abbrev pub answered_by_rule : AnswerMeans
answered_by_rule b q x a = (answer b q x ≡ a) × AnsweredByRule b q x a

abbrev pub of_rule : Terms
of_rule = record { run = by_rule; holds = held_by_rule; trace = traced_by_rule; answer = answered_by_rule }
