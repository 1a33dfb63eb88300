-- What is left to do is for the machines that there are.
use Rattle.std.specs.Prelude.{◌≢◌, ⊤, ℕ, ◌<◌}
use Rattle.std.specs.List.{All}
use Rattle.dm_schedule.specs.declared.Directive.{Directive}
use Rattle.dm_schedule.specs.declared.Directive.TheVariants as directive
use Rattle.dm_line.specs.Todo.{Two, Todo}
use Rattle.dm_law_rule.specs.Laws.{IsStep}

-- two different machines
pub record IsTwo (machines : ℕ) (p : Two) : Type 0 where
  pub from : p.from < machines
  pub to : p.to < machines
  pub apart : p.from ≢ p.to

abbrev pub IsDirective : ℕ → Directive → Type 0
IsDirective machines (directive.One s) = IsStep machines s
IsDirective machines directive.Round = ⊤
IsDirective machines (directive.Spin n) = ⊤
IsDirective machines directive.Settle = ⊤
IsDirective machines (directive.Rest n) = ⊤

pub record IsTodo (machines : ℕ) (t : Todo) : Type 0 where
  pub pairs : All (IsTwo machines) t.pairs
  pub machines_ : All (λ (m : ℕ). m < machines) t.machines
  pub directives : All (IsDirective machines) t.directives
