-- What holds of a settle wherever the rule leads.
use Rattle.std.specs.Prelude.{◌≡◌, ◌≢◌, ◌⊎◌, ℕ, suc, ◌+◌, ◌-◌, ◌*◌, ◌^◌, ◌<◌, ◌≤◌, true, List, ◌∷◌}
use Rattle.std.specs.List.{All}
use Rattle.std.specs.declared.option.Option.TheVariants.{None, Some}
use Rattle.dm_onekernel.specs.declared.boot.Boot.{Boot}
use Rattle.dm_onekernel.specs.Boot.{IsValid}
use Rattle.dm_schedule.specs.declared.Directive.{Directive}
use Rattle.dm_schedule.specs.declared.Directive.TheVariants as directive
use Rattle.dm_schedule.specs.declared.Step.{Step}
use Rattle.dm_line.specs.declared.end_line.EndLine.{EndLine}
use Rattle.dm_line.specs.declared.line.Line.{Line}
use Rattle.dm_line.specs.declared.pass.Pass.TheVariants.{Settle, Rest}
use Rattle.dm_line.specs.Todo.{Todo, all_of}
use Rattle.dm_law_rule.specs.Ends.{end_lines}
use Rattle.dm_law_rule.specs.Good.{IsKept, IsRun, next_step}
use Rattle.dm_law_rule.specs.Laws.{IsStep, Leads}
use Rattle.dm_law_rule.specs.Parts.{Spelled}
use Rattle.dm_law_rule.specs.Point.{Point, first_point}
use Rattle.dm_law_rule.specs.Quiet.{IsQuiet}
use Rattle.dm_law_rule.specs.Rest.{IsAtRest}
use Rattle.dm_law_rule.specs.Rule.{group_of}
use Rattle.dm_law_moves.specs.AtRest.{AtRest}
use Rattle.dm_law_moves.specs.Ends.{count}
use Rattle.dm_law_moves.specs.Settles.Left.{IsLess, left, one_each, turns_left, weight_of}
use Rattle.dm_law_moves.specs.Settles.Passes.{AreGoneThrough, IsSettleStep, RestGoes, SettleGoes, ends_rested, ends_settled, is_at_rest, passes_left, turns_in}
use Rattle.dm_law_moves.specs.Settles.Puts.{OnlyLight, SettlesBy, says_put}
use Rattle.dm_law_moves.specs.Settles.Rests.{PairRests}

-- wherever the rule leads, each machine has done its part on each pair
abbrev pub PairsRestAlways : Type 0
PairsRestAlways = (b : Boot) (es : List Step) (pt : Point) (a c : ℕ) → Leads b (first_point b) es pt → a ≢ c → PairRests (pt.view.pair a c) (pt.view.pair c a)

-- wherever the rule leads, a settle that has begun is over where nothing is on its way, and goes on where something is
pub record Settles (pt : Point) (t : Todo) : Type 0 where
  pub over : IsQuiet pt.kernel.machines pt.view → next_step pt.kernel.machines pt t ≡ next_step pt.kernel.machines pt (all_of t.directives)
  pub goes : (IsQuiet pt.kernel.machines pt.view → ⊥) → SettleGoes pt.kernel.machines pt t

abbrev pub SettlesAlways : Type 0
SettlesAlways = (b : Boot) (es : List Step) (pt : Point) (t : Todo) → IsValid b → Leads b (first_point b) es pt → t.pass ≡ Settle → Settles pt t

-- wherever the rule leads, a rest is over where all is at rest, in the midst of a pass too, and what is behind it follows. Where not all
-- is, each of its passes that begins has a group, and one that has begun goes on, or is gone through
pub record RestsHere (n : ℕ) (pt : Point) : Type 0 where
  pub over : (t : Todo) (k : ℕ) → t.pass ≡ Rest k → IsAtRest n pt → next_step n pt t ≡ next_step n pt (all_of t.directives)
  pub begins : (k : ℕ) (ds : List Directive) → (IsAtRest n pt → ⊥) → RestGoes n pt (passes_left (suc k) ds) k
  pub goes : (t : Todo) (k : ℕ) → t.pass ≡ Rest k → (IsAtRest n pt → ⊥) → RestGoes n pt t k ⊎ (next_step n pt t ≡ next_step n pt (passes_left k t.directives))
  -- the directive is its passes, and behind them what is behind it follows
  pub passes : (k : ℕ) (ds : List Directive) → next_step n pt (all_of (directive.Rest k ∷ ds)) ≡ next_step n pt (passes_left k ds)
  pub behind : (ds : List Directive) → next_step n pt (passes_left 0 ds) ≡ next_step n pt (all_of ds)

abbrev pub RestsAlways : Type 0
RestsAlways = (b : Boot) (es : List Step) (pt : Point) → Leads b (first_point b) es pt → RestsHere pt.kernel.machines pt

-- where all directives of a run are done, the last of them a rest, its passes were gone through whole, or all is at rest
abbrev pub EndsRested : Type 0
EndsRested =
    (b : Boot) (es : List Step) (ds : List Directive) (gs : List (List Line)) (end : Point) (left : Todo) → IsValid b → Leads b (first_point b) es end → IsRun b (first_point b) (all_of ds) gs end left
    → next_step end.kernel.machines end left ≡ None → ends_rested ds ≡ true → AreGoneThrough end.kernel.machines end left ⊎ IsAtRest end.kernel.machines end

-- where all directives of a run are done, the last of them a settle, nothing is on its way
abbrev pub EndsQuiet : Type 0
EndsQuiet =
    (b : Boot) (es : List Step) (ds : List Directive) (gs : List (List Line)) (end : Point) (left : Todo) → IsValid b → Leads b (first_point b) es end → IsRun b (first_point b) (all_of ds) gs end left
    → next_step end.kernel.machines end left ≡ None → ends_settled ds ≡ true → IsQuiet end.kernel.machines end.view

-- so all is at rest: no process moves, nothing is held back, and each message that there still is waits in the queue of the process
-- that it is for, and stands in no other place
abbrev pub EndsResting : Type 0
EndsResting =
    (b : Boot) (es : List Step) (ds : List Directive) (gs : List (List Line)) (end : Point) (left : Todo) → IsValid b → Leads b (first_point b) es end → IsRun b (first_point b) (all_of ds) gs end left
    → next_step end.kernel.machines end left ≡ None → ends_settled ds ≡ true → AtRest end

-- and where nothing is, the lines of the end say so: no inbox and no stream has a message, none is held back, and each process is
-- where it is
abbrev pub EndsAtRest : Type 0
EndsAtRest = (b : Boot) (es : List Step) (pt : Point) → IsValid b → Leads b (first_point b) es pt → IsQuiet pt.kernel.machines pt.view → All (λ (l : EndLine). is_at_rest l ≡ true) (end_lines pt)

-- each group of a settle leaves less to do: so it ends, whatever was lost, repeated or reordered, and however many processes move
abbrev pub LeftFalls : Type 0
LeftFalls =
    (b : Boot) (es : List Step) (pt : Point) (e : Step) (w : Spelled) → IsValid b → Leads b (first_point b) es pt → IsStep pt.kernel.machines e → IsSettleStep pt.view e → group_of b pt e ≡ Some w → IsKept b w.point
    → IsLess (left b.numbers pt.kernel.machines w.point.view) (left b.numbers pt.kernel.machines pt.view)

-- and what it leaves to turns is never more than this
abbrev pub TurnsLeftFew : Type 0
TurnsLeftFew = (b : Boot) (es : List Step) (pt : Point) → IsValid b → Leads b (first_point b) es pt → IsKept b pt → turns_left (left b.numbers pt.kernel.machines pt.view) < 2 ^ 89

-- what it leaves to turns never rises, and each turn takes one of it at least
abbrev pub TurnsFall : Type 0
TurnsFall =
    (b : Boot) (es : List Step) (pt : Point) (e : Step) (w : Spelled) → IsValid b → Leads b (first_point b) es pt → IsStep pt.kernel.machines e → IsSettleStep pt.view e → group_of b pt e ≡ Some w → IsKept b w.point
    → turns_left (left b.numbers pt.kernel.machines w.point.view) + turns_in e ≤ turns_left (left b.numbers pt.kernel.machines pt.view)

-- where no process moves, and only user messages for processes and updates are on their way, a settle routes at most so many messages,
-- the same ones again and updates, for each message that is on its way
abbrev pub FewPuts : Type 0
FewPuts =
    (b : Boot) (es ds : List Step) (pt end : Point) (ls : List Line) → IsValid b → Leads b (first_point b) es pt → OnlyLight pt.view → SettlesBy b pt ds ls end
    → count says_put ls ≤ (pt.kernel.machines - 1) * (pt.kernel.machines + 1) * weight_of one_each pt.kernel.machines pt.view
