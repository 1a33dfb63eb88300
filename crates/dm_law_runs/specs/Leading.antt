-- Good groups are a run by the rule: so each law of such runs speaks of printed lines, whether it asks for the lines or for the
-- directives alone.
use Rattle.std.specs.Prelude.{List, length}
use Rattle.std.specs.List.{All}
use Rattle.dm_onekernel.specs.declared.boot.Boot.{Boot}
use Rattle.dm_onekernel.specs.Boot.{IsValid}
use Rattle.dm_schedule.specs.declared.Directive.{Directive}
use Rattle.dm_schedule.specs.declared.Step.{Step}
use Rattle.dm_line.specs.declared.line.Line.{Line}
use Rattle.dm_line.specs.Todo.{Todo}
use Rattle.dm_law_rule.specs.Laws.{Leads}
use Rattle.dm_law_rule.specs.Point.{Point, first_point}
use Rattle.dm_law_always.specs.Order.{LeadsBy}
use Rattle.dm_law_mirror.specs.Run.{IsGood, joined}
use Rattle.dm_law_mirror.specs.Todo.{IsDirective}

-- the rule leads there, with these lines, by some directives one by one
pub record AreOfRule (b : Boot) (gs : List (List Line)) (end : Point) : Type 0 where
  pub steps : List Step
  pub by_lines : LeadsBy b (first_point b) steps (joined gs) end
  pub by_steps : Leads b (first_point b) steps end

abbrev pub GoodIsOfRule : Type 0
GoodIsOfRule =
    (b : Boot) (ds : List Directive) (gs : List (List Line)) (end : Point) (left : Todo) → IsValid b → All (IsDirective (length b.machines)) ds → IsGood b ds gs end left → AreOfRule b gs end
