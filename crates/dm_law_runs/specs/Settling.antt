-- A settle of a run: where nothing of it is done yet; and what it puts, from where no process moves and only user messages for processes
-- and updates are on their way.
use Rattle.std.specs.Prelude.{◌≡◌, ℕ, ◌+◌, ◌-◌, ◌*◌, ◌≤◌, List, [], ◌∷◌, length}
use Rattle.std.specs.List.{All}
use Rattle.dm_onekernel.specs.declared.boot.Boot.{Boot}
use Rattle.dm_onekernel.specs.Boot.{IsValid}
use Rattle.dm_schedule.specs.declared.Directive.{Directive}
use Rattle.dm_schedule.specs.declared.Directive.TheVariants as directive
use Rattle.dm_schedule.specs.declared.Step.{Step}
use Rattle.dm_line.specs.declared.line.Line.{Line}
use Rattle.dm_line.specs.declared.pass.Pass.TheVariants.{Settle}
use Rattle.dm_line.specs.Todo.{Todo, all_of}
use Rattle.dm_law_rule.specs.Good.{IsRun, next_step}
use Rattle.dm_law_rule.specs.Laws.{Leads}
use Rattle.dm_law_rule.specs.Point.{Point, first_point}
use Rattle.dm_law_rule.specs.Quiet.{IsQuiet}
use Rattle.dm_law_mirror.specs.Todo.{IsDirective}
use Rattle.dm_law_moves.specs.Ends.{count}
use Rattle.dm_law_moves.specs.Settles.Left.{one_each, weight_of}
use Rattle.dm_law_moves.specs.Settles.Passes.{SettleGoes}
use Rattle.dm_law_moves.specs.Settles.Puts.{OnlyLight, says_put}

-- how many messages groups route
abbrev pub puts_in : List (List Line) → ℕ
puts_in [] = 0
puts_in (g ∷ gs) = count says_put g + puts_in gs

-- the groups of a settle, as long as each directive behind it is still to do, route at most so many for each message on its way where it
-- begins
abbrev pub SettleFew : Type 0
SettleFew =
    (b : Boot) (es : List Step) (ds : List Directive) (gs : List (List Line)) (pt end : Point) (left : Todo) → IsValid b → All (IsDirective (length b.machines)) ds → Leads b (first_point b) es pt → OnlyLight pt.view
    → IsRun b pt (all_of (directive.Settle ∷ ds)) gs end left → length ds ≤ length left.directives → puts_in gs ≤ (pt.kernel.machines - 1) * (pt.kernel.machines + 1) * weight_of one_each pt.kernel.machines pt.view

-- a settle of which nothing is done
abbrev pub settle_begun : List Directive → Todo
settle_begun ds = record { pairs = []; machines = []; pass = Settle; directives = ds }

-- a settle that is still to do is over where nothing is on its way, and what is behind it follows; where something is, it goes on as
-- one that has begun
pub record SettleStarts (pt : Point) (ds : List Directive) : Type 0 where
  pub over : IsQuiet pt.kernel.machines pt.view → next_step pt.kernel.machines pt (all_of (directive.Settle ∷ ds)) ≡ next_step pt.kernel.machines pt (all_of ds)
  pub as_begun : next_step pt.kernel.machines pt (all_of (directive.Settle ∷ ds)) ≡ next_step pt.kernel.machines pt (settle_begun ds)
  pub goes : (IsQuiet pt.kernel.machines pt.view → ⊥) → SettleGoes pt.kernel.machines pt (settle_begun ds)

abbrev pub SettlesFromStart : Type 0
SettlesFromStart = (b : Boot) (es : List Step) (ds : List Directive) (pt : Point) → IsValid b → Leads b (first_point b) es pt → SettleStarts pt ds
