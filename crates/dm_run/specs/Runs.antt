-- What is said of directives and of groups, whoever runs them.
use Rattle.std.specs.Prelude.{◌≢◌, ⊤, ℕ, ◌<◌, ◌≤◌, List, [], ◌∷◌, ◌++◌}
use Rattle.dm_schedule.specs.declared.Step.{Step}
use Rattle.dm_schedule.specs.declared.Step.TheVariants as step
use Rattle.dm_schedule.specs.declared.Directive.{Directive}
use Rattle.dm_schedule.specs.declared.Directive.TheVariants as directive
use Rattle.dm_line.specs.declared.line.Line.{Line}
use Rattle.dm_line.specs.declared.pass.Pass.TheVariants.{Round, Settle, Rest}
use Rattle.dm_world.specs.declared.cursor.Cursor.{Cursor}
use Rattle.dm_world.specs.declared.cursor.Cursor.TheVariants.{One, Passing}
use Rattle.dm_world.specs.declared.cursor.Place.TheVariants.{End}

-- an elementary directive for so many machines
abbrev pub IsStep : ℕ → Step → Type 0
IsStep machines (step.Turn m) = m < machines
IsStep machines (step.Tick m) = m < machines
IsStep machines (step.Deliver a b k) = (a < machines) × (b < machines) × (a ≢ b)
IsStep machines (step.Migrate p m) = m < machines
IsStep machines (step.CallOff p m) = m < machines

-- a directive for them
abbrev pub IsDirective : ℕ → Directive → Type 0
IsDirective machines (directive.One s) = IsStep machines s
IsDirective machines directive.Round = ⊤
IsDirective machines (directive.Spin n) = ⊤
IsDirective machines directive.Settle = ⊤
IsDirective machines (directive.Rest n) = ⊤

-- and a number of rounds or passes in its range
abbrev pub IsFor : ℕ → Directive → Type 0
IsFor machines (directive.One s) = IsStep machines s
IsFor machines directive.Round = ⊤
IsFor machines (directive.Spin n) = (1 ≤ n) × (n ≤ 65536)
IsFor machines directive.Settle = ⊤
IsFor machines (directive.Rest n) = (1 ≤ n) × (n ≤ 65536)

-- the lines of groups, in order
abbrev pub joined : List (List Line) → List Line
joined [] = []
joined (g ∷ gs) = g ++ joined gs

-- a directive of which nothing is done yet
abbrev pub cursor_of : Directive → Cursor
cursor_of (directive.One s) = One s
cursor_of directive.Round = Passing (Round 1) End
cursor_of (directive.Spin n) = Passing (Round n) End
cursor_of directive.Settle = Passing Settle End
cursor_of (directive.Rest n) = Passing (Rest n) End
