-- Directives as a schedule has them, a line each.
use Rattle.std.specs.Prelude.{◌≡◌, ◌≢◌, ⊤, ℕ, ◌<◌, ◌≤◌, ◌*◌, ◌^◌, codes, List, ◌++◌, flat_map, length}
use Rattle.std.specs.Fmt.{decimal}
use Rattle.std.specs.List.{All}
use Rattle.dm_schedule.specs.declared.Step.TheVariants as step
use Rattle.dm_schedule.specs.declared.Directive.{Directive}
use Rattle.dm_schedule.specs.declared.Directive.TheVariants as directive
use Rattle.dm_schedule.specs.Schedule.{Accepted, directives_of}
use Rattle.dm_line.specs.declared.line.Line.TheVariants as line
use Rattle.dm_text.specs.Text.{text}

-- a row a directive: an elementary one is spelled as the head of its group
abbrev pub directive_text : Directive → List ℕ
directive_text (directive.One s) = text (line.Head s)
directive_text directive.Round = codes "round\n"
directive_text (directive.Spin n) = codes "spin " ++ decimal n ++ codes "\n"
directive_text directive.Settle = codes "settle\n"
directive_text (directive.Rest n) = codes "rest " ++ decimal n ++ codes "\n"

-- the text of several, in order
unfoldable pub schedule_text : List Directive → List ℕ
schedule_text ds = flat_map directive_text ds

-- a directive that a schedule for so many machines can have
abbrev pub CanStand : ℕ → Directive → Type 0
CanStand machines (directive.One (step.Turn m)) = m < machines
CanStand machines (directive.One (step.Tick m)) = m < machines
CanStand machines (directive.One (step.Deliver a b k)) = (a < machines) × (b < machines) × (a ≢ b) × (k < 2 ^ 32)
CanStand machines (directive.One (step.Migrate p m)) = (p.home < machines) × (p.num < 2 ^ 32) × (m < machines)
CanStand machines (directive.One (step.CallOff p m)) = (p.home < machines) × (p.num < 2 ^ 32) × (m < machines)
CanStand machines directive.Round = ⊤
CanStand machines (directive.Spin n) = (1 ≤ n) × (n ≤ 65536)
CanStand machines directive.Settle = ⊤
CanStand machines (directive.Rest n) = (1 ≤ n) × (n ≤ 65536)

-- what is written of such directives is read as them, and has few bytes
pub record SchedulesAreRead : Type 0 where
  pub read : (machines : ℕ) (ds : List Directive) → machines ≤ 16 → All (CanStand machines) ds → directives_of (schedule_text ds) machines ≡ Accepted ds
  pub short : (machines : ℕ) (ds : List Directive) → machines ≤ 16 → All (CanStand machines) ds → length (schedule_text ds) ≤ 48 * length ds
