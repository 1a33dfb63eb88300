-- What the verdict is on what the system prints.
use Rattle.std.specs.Prelude.{◌≡◌, ⊤, ℕ, ◌<◌, Bool, List, ◌++◌, length}
use Rattle.std.specs.List.{All}
use Rattle.dm_onekernel.specs.declared.boot.Boot.{Boot}
use Rattle.dm_schedule.specs.declared.Step.{Step}
use Rattle.dm_schedule.specs.declared.Step.TheVariants as step
use Rattle.dm_schedule.specs.declared.Directive.{Directive}
use Rattle.dm_schedule.specs.declared.Directive.TheVariants as directive
use Rattle.dm_line.specs.declared.line.Line.{Line}
use Rattle.dm_line.specs.Todo.{Todo}
use Rattle.dm_law_rule.specs.Ends.{end_lines}
use Rattle.dm_law_rule.specs.Point.{Point}
use Rattle.dm_text.specs.Fits.{EndFits, LineFits}
use Rattle.dm_text.specs.Text.{text_of_ends, text_of_lines}
use Rattle.dm_law_mirror.specs.Run.{IsGood, joined}
use Rattle.dm_law_mirror.specs.Todo.{IsDirective}
use Rattle.dm_check.specs.Good.{good_verdict}
use Rattle.dm_check.specs.Judge.{Ended, Open}
use Rattle.dm_law_runs.specs.Traces.Good.{IsTrace}
use Rattle.dm_law_runs.specs.Traces.Verdict.{verdict}

-- a process that is to move is at home on one of so many machines
abbrev pub IsHome : ℕ → Step → Type 0
IsHome machines (step.Turn m) = ⊤
IsHome machines (step.Tick m) = ⊤
IsHome machines (step.Deliver a b k) = ⊤
IsHome machines (step.Migrate p m) = p.home < machines
IsHome machines (step.CallOff p m) = p.home < machines

abbrev pub HasHome : ℕ → Directive → Type 0
HasHome machines (directive.One s) = IsHome machines s
HasHome machines directive.Round = ⊤
HasHome machines (directive.Spin n) = ⊤
HasHome machines directive.Settle = ⊤
HasHome machines (directive.Rest n) = ⊤

-- a text that is good lines, and perhaps the lines at the end behind them, has that verdict
abbrev pub TracesAreGood : Type 0
TracesAreGood = (b : Boot) (bytes : List ℕ) (n : ℕ) (ended : Bool) → IsTrace b bytes n ended → verdict b bytes ≡ good_verdict n ended

-- so has the text of the first groups of a run, whatever its directives are, rounds and settles too
abbrev pub BeginningsAreOpen : Type 0
BeginningsAreOpen =
    (b : Boot) (ds : List Directive) (groups others : List (List Line)) (end : Point) (left : Todo) → All (IsDirective (length b.machines)) ds → All (HasHome (length b.machines)) ds
    → IsGood b ds (groups ++ others) end left → All LineFits (joined groups) → verdict b (text_of_lines (joined groups)) ≡ Open (length groups)

-- and that of all its groups with the lines at the end behind them
abbrev pub RunsAreEnded : Type 0
RunsAreEnded =
    (b : Boot) (ds : List Directive) (groups : List (List Line)) (end : Point) (left : Todo) → All (IsDirective (length b.machines)) ds → All (HasHome (length b.machines)) ds
    → IsGood b ds groups end left → All LineFits (joined groups) → All EndFits (end_lines end) → verdict b (text_of_lines (joined groups) ++ text_of_ends (end_lines end)) ≡ Ended (length groups)
