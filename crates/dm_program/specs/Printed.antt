-- What a run is by the rule: its groups are those of the rule, and the world stands for where they lead.
use Rattle.std.specs.Prelude.{◌≡◌, ◌⊎◌, ℕ, true, List}
use Rattle.std.specs.List.{All}
use Rattle.std.specs.declared.option.Option.TheVariants.{None, Some}
use Rattle.dm_onekernel.specs.declared.boot.Boot.{Boot}
use Rattle.dm_schedule.specs.declared.Directive.{Directive}
use Rattle.dm_line.specs.declared.end_line.EndLine.{EndLine}
use Rattle.dm_line.specs.declared.line.Line.{Line}
use Rattle.dm_line.specs.Todo.{Todo, Next}
use Rattle.dm_law_rule.specs.Ends.{end_lines}
use Rattle.dm_law_rule.specs.Good.{next_step}
use Rattle.dm_law_rule.specs.Point.{Point}
use Rattle.dm_law_rule.specs.Quiet.{IsQuiet}
use Rattle.dm_law_rule.specs.Rest.{IsAtRest}
use Rattle.dm_law_rule.specs.Worn as rule
use Rattle.dm_law_moves.specs.AtRest.{AllForgotten}
use Rattle.dm_law_moves.specs.Settles.Passes.{AreGoneThrough, ends_rested, ends_settled, is_at_rest}
use Rattle.dm_law_moves.specs.Settles.Still.{is_still}
use Rattle.dm_world.specs.Meets.{world_state}
use Rattle.dm_law_mirror.specs.Run.{IsGood}
use Rattle.dm_law_mirror.specs.Stands.{Stands}
use Rattle.dm_run.specs.Notion.{Notion}

-- good groups, one for each of the first directives, lead to a directive that would route a message between these two
-- machines, which count as many messages as they may
pub record WearsAfter (b : Boot) (ds : List Directive) (groups : List (List Line)) (from to : ℕ) : Type 0 where
  pub end : Point
  pub left : Todo
  pub good : IsGood b ds groups end left
  pub next : Next
  pub next_is : next_step end.kernel.machines end left ≡ Some next
  pub worn : rule.IsWorn b end next.step from to

-- no directive comes to that
abbrev pub Lasts : Boot → List Directive → Type 0
Lasts b ds = (groups : List (List Line)) (from to : ℕ) → WearsAfter b ds groups from to → ⊥

-- some directive does
abbrev pub Wears : Boot → List Directive → ℕ → ℕ → Type 0
Wears b ds from to = (groups : List (List Line)) × WearsAfter b ds groups from to

-- where the groups lead, and what is left to do there
pub record RulePlace : Type 0 where
  pub end : Point
  pub left : Todo

-- no directive is left
abbrev pub IsOver : Point → Todo → Type 0
IsOver end left = next_step end.kernel.machines end left ≡ None

-- the next directive wears these two
pub record RuleWears (b : Boot) (p : RulePlace) (from to : ℕ) : Type 0 where
  pub next : Next
  pub next_is : next_step p.end.kernel.machines p.end p.left ≡ Some next
  pub worn : rule.IsWorn b p.end next.step from to

-- all is at rest, and the lines at the end show so: nothing is on its way, held back or pending, and each living process is where it is,
-- and waits or is stopped; and of those that have ended nothing is left
pub record RestsAtEnd (end : Point) : Type 0 where
  pub rest : IsAtRest end.kernel.machines end
  pub lines : All (λ (l : EndLine). is_still l ≡ true) (end_lines end)
  pub forgotten : AllForgotten end

-- nothing is on its way, acknowledgements too, and the lines at the end show what they can of it: no message is in an inbox or a stream or
-- held back, and no process leaves or comes
pub record QuietAtEnd (end : Point) : Type 0 where
  pub quiet : IsQuiet end.kernel.machines end.view
  pub lines : All (λ (l : EndLine). is_at_rest l ≡ true) (end_lines end)

-- no run of these directives wears a pair; behind a last settle nothing is on its way, and no machine has a record of a process that has
-- ended; and behind a last rest its passes were gone through whole, or all is at rest
pub record EndsWell (b : Boot) (ds : List Directive) (p : RulePlace) : Type 0 where
  pub lasts : Lasts b ds
  pub rests : ends_settled ds ≡ true → QuietAtEnd p.end
  pub forgotten : ends_settled ds ≡ true → AllForgotten p.end
  pub rested : ends_rested ds ≡ true → AreGoneThrough p.end.kernel.machines p.end p.left ⊎ RestsAtEnd p.end

-- by the rule
abbrev pub by_rule : Notion
by_rule = record {
  Place = RulePlace;
  Leads = λ b ds groups p. IsGood b ds groups p.end p.left;
  IsOver = λ b ds p. IsOver p.end p.left;
  Rests = λ b ds p. EndsWell b ds p;
  Wears = λ b ds p from to. RuleWears b p from to;
  ends = λ b p. end_lines p.end;
  IsQuiet = λ b p. IsQuiet p.end.kernel.machines p.end.view;
  Stands = λ b p w. Stands b (world_state w) p.end;
}
