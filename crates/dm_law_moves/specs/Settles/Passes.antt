-- What a pass of a settle has to do, and where a settle is over.
use Rattle.std.specs.Prelude.{◌≡◌, ℕ, Bool, true, false, ◌||◌, nat_lt, List, [], ◌∷◌}
use Rattle.std.specs.declared.option.Option.TheVariants.{None, Some}
use Rattle.dm_schedule.specs.declared.Directive.{Directive}
use Rattle.dm_schedule.specs.declared.Directive.TheVariants as directive
use Rattle.dm_schedule.specs.declared.Step.{Step}
use Rattle.dm_schedule.specs.declared.Step.TheVariants as step
use Rattle.dm_line.specs.declared.end_line.EndLine.{EndLine}
use Rattle.dm_line.specs.declared.end_line.EndLine.TheVariants as end
use Rattle.dm_line.specs.declared.end_line.Standing.{Standing}
use Rattle.dm_line.specs.declared.end_line.Standing.TheVariants as standing
use Rattle.dm_line.specs.declared.pass.Pass.TheVariants.{Settle, Rest}
use Rattle.dm_line.specs.Todo.{Next, Todo, in_pass, next_delivery}
use Rattle.dm_law_rule.specs.Good.{next_step, seen_at, undelivered}
use Rattle.dm_law_rule.specs.Point.{Point}
use Rattle.dm_law_rule.specs.Quiet.{has_mail}
use Rattle.dm_law_rule.specs.Rest.{serves_some}
use Rattle.dm_law_rule.specs.View.{View}

-- a packet that was never delivered comes, the first of its pair, or a machine that has mail takes its turn
abbrev pub IsSettleStep : View → Step → Type 0
IsSettleStep v (step.Turn m) = has_mail v m ≡ true
IsSettleStep v (step.Deliver a c k) = undelivered v a c ≡ Some k
IsSettleStep v s = ⊥

-- how many turns a step of a settle is
abbrev pub turns_in : Step → ℕ
turns_in (step.Turn m) = 1
turns_in (step.Deliver a c k) = 0
turns_in (step.Tick m) = 0
turns_in (step.Migrate p m) = 0
turns_in (step.CallOff p m) = 0

-- a settle goes on with such a step, and what is behind it stays behind it
pub record SettleGoes (n : ℕ) (pt : Point) (t : Todo) : Type 0 where
  pub next : Next
  pub is : next_step n pt t ≡ Some next
  pub step : IsSettleStep pt.view next.step
  pub pass : next.left.pass ≡ Settle
  pub behind : next.left.directives ≡ t.directives

-- a packet that was never delivered comes, the first of its pair, or a machine takes its turn that has mail or a process that can be
-- served
abbrev pub IsRestStep : Point → Step → Type 0
IsRestStep pt (step.Turn m) = (has_mail pt.view m || serves_some pt m) ≡ true
IsRestStep pt (step.Deliver a c k) = undelivered pt.view a c ≡ Some k
IsRestStep pt s = ⊥

-- so many passes of a rest are left, of which none has begun, and then these directives
abbrev pub passes_left : ℕ → List Directive → Todo
passes_left k ds = record { pairs = []; machines = []; pass = Rest k; directives = ds }

-- a rest goes on with such a step, with so many passes behind this one, and what is behind it stays behind it
pub record RestGoes (n : ℕ) (pt : Point) (t : Todo) (k : ℕ) : Type 0 where
  pub next : Next
  pub is : next_step n pt t ≡ Some next
  pub step : IsRestStep pt next.step
  pub pass : next.left.pass ≡ Rest k
  pub behind : next.left.directives ≡ t.directives

-- the passes of a rest were gone through whole: of the last one nothing is left
pub record AreGoneThrough (n : ℕ) (pt : Point) (t : Todo) : Type 0 where
  pub last : t.pass ≡ Rest 0
  pub nothing : in_pass (seen_at n pt) t (next_delivery (undelivered pt.view) t.pairs) ≡ None
  pub behind : t.directives ≡ []

-- the last directive is a settle
abbrev pub is_settle_directive : Directive → Bool
is_settle_directive directive.Settle = true
is_settle_directive d = false

abbrev pub ends_settled : List Directive → Bool
ends_settled [] = false
ends_settled (d ∷ []) = is_settle_directive d
ends_settled (d ∷ e ∷ ds) = ends_settled (e ∷ ds)

-- the last directive is a rest, of some passes
abbrev pub is_rest_directive : Directive → Bool
is_rest_directive (directive.Rest n) = nat_lt 0 n
is_rest_directive d = false

abbrev pub ends_rested : List Directive → Bool
ends_rested [] = false
ends_rested (d ∷ []) = is_rest_directive d
ends_rested (d ∷ e ∷ ds) = ends_rested (e ∷ ds)

-- a line of the end that says of nothing that it is on its way, and of no process or server that it leaves or comes
abbrev pub stands_here : Standing → Bool
stands_here standing.Here = true
stands_here s = false

abbrev pub is_at_rest : EndLine → Bool
is_at_rest end.Final = true
is_at_rest (end.Ended p y) = true
is_at_rest (end.Process p m s d stopped sent) = stands_here s
is_at_rest (end.Registers p r pc) = true
is_at_rest (end.Memory p k bytes) = true
is_at_rest (end.Link p slot l) = true
is_at_rest (end.Server p sent) = true
is_at_rest (end.Place p m s) = stands_here s
is_at_rest (end.Name name l) = true
is_at_rest (end.Child n p m) = true
is_at_rest (end.Pending i) = true
is_at_rest (end.Queue p is) = true
is_at_rest (end.Holding m p is) = false
is_at_rest (end.Inbox m is) = false
is_at_rest (end.Stream a c is) = false
is_at_rest (end.Groups n) = true
