-- Each run comes to an end, and each other run is a beginning of it.
use Rattle.std.specs.Prelude.{◌≡◌, ℕ, List, ◌++◌, length}
use Rattle.std.specs.List.{All}
use Rattle.std.specs.declared.option.Option.TheVariants.{None, Some}
use Rattle.dm_onekernel.specs.declared.boot.Boot.{Boot}
use Rattle.dm_onekernel.specs.Boot.{IsValid}
use Rattle.dm_schedule.specs.declared.Directive.{Directive}
use Rattle.dm_line.specs.declared.line.Line.{Line}
use Rattle.dm_line.specs.Todo.{Todo, Next}
use Rattle.dm_law_rule.specs.Good.{next_step}
use Rattle.dm_law_rule.specs.Point.{Point}
use Rattle.dm_law_rule.specs.Worn.{IsWorn}
use Rattle.dm_law_mirror.specs.Run.{IsGood}
use Rattle.dm_law_mirror.specs.Todo.{IsDirective}

-- a run has come to its end: no directive is left, or the next one wears a pair of machines
pub data HasEnded (b : Boot) (pt : Point) (left : Todo) : Type 0 where
  Over : next_step pt.kernel.machines pt left ≡ None → HasEnded b pt left
  Wears : (n : Next) → (from to : ℕ) → next_step pt.kernel.machines pt left ≡ Some n → IsWorn b pt n.step from to → HasEnded b pt left

-- a good run for these directives that has
pub record Ending (b : Boot) (ds : List Directive) : Type 0 where
  pub groups : List (List Line)
  pub end : Point
  pub left : Todo
  pub good : IsGood b ds groups end left
  pub ended : HasEnded b end left

-- for each boot file that a system may start with, and directives for its machines
abbrev pub RunsThrough : Type 0
RunsThrough = (b : Boot) (ds : List Directive) → IsValid b → All (IsDirective (length b.machines)) ds → Ending b ds

-- where a good run has ended, each good run for the same directives is a beginning of it
abbrev pub AllBegin : Type 0
AllBegin =
    (b : Boot) (ds : List Directive) (gs hs : List (List Line)) (end fin : Point) (left rest : Todo) → IsGood b ds gs end left → IsGood b ds hs fin rest → HasEnded b fin rest
    → (more : List (List Line)) × (hs ≡ gs ++ more)
