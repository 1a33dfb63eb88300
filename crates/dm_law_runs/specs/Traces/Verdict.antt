-- What a trace comes to, by the rule.
use Rattle.std.specs.Prelude.{ℕ, List, [], ◌∷◌, length}
use Rattle.std.specs.declared.option.Option.{Option}
use Rattle.std.specs.declared.option.Option.TheVariants.{None, Some}
use Rattle.dm_onekernel.specs.declared.boot.Boot.{Boot}
use Rattle.dm_onekernel.specs.Options.{bind}
use Rattle.dm_schedule.specs.declared.Step.{Step}
use Rattle.dm_line.specs.declared.end_line.EndLine.{EndLine}
use Rattle.dm_line.specs.declared.line.Line.{Line}
use Rattle.dm_line.specs.Todo.{Two}
use Rattle.dm_law_rule.specs.Ends.{end_lines}
use Rattle.dm_law_rule.specs.Point.{Point, first_point}
use Rattle.dm_law_rule.specs.Rule.{group_of}
use Rattle.dm_law_rule.specs.Worn.{worn_in}
use Rattle.dm_check.specs.Judge.{Course, Verdict, verdict_by}

-- where these directives lead from here, one by one
abbrev pub led : Boot → Point → List Step → Option Point
led b pt [] = Some pt
led b pt (e ∷ es) = bind (group_of b pt e) (λ w. led b w.point es)

-- a group, unless it would route a message between two machines that count as many as they may
abbrev pub unless_worn : Option Two → List Line → Option (List Line)
unless_worn None ls = Some ls
unless_worn (Some two) ls = None

abbrev pub rule_group : Boot → Step → Point → Option (List Line)
rule_group b e pt = bind (group_of b pt e) (λ w. unless_worn (worn_in b.numbers pt.view w.lines) w.lines)

-- the lines at the end, where directives lead somewhere
abbrev pub rule_ends : Option Point → List EndLine
rule_ends None = []
rule_ends (Some pt) = end_lines pt

-- the system of a boot file, as the rule has it
abbrev pub by_rule : Boot → Course
by_rule b = record {
  machines = length b.machines;
  quantum = b.quantum;
  group = λ es e. bind (led b (first_point b) es) (rule_group b e);
  ends = λ es. rule_ends (led b (first_point b) es);
}

-- what the whole text comes to, by this boot file
unfoldable pub verdict : Boot → List ℕ → Verdict
verdict b bytes = verdict_by (by_rule b) bytes
