-- The theorem on what `run` prints, in one place. Where it ends with status 0, whatever the files say, the bytes that it wrote are
-- the text of groups of lines, one for each directive of the schedule, each the one that the rule has there. Their labels are a run of one
-- kernel without machines, from the boot file on; no message is received twice, and each stands exactly once; and the lines at the end say
-- where that run stands.
-- Of bytes it speaks where the shelf and the sink tell theirs: then `o.files` and `o.before` are `Some`. Those of real files and streams
-- tell nothing, and of them it says nothing of content; the program is one body for every shelf and sink, which can't ask which it has.
use Rattle.std.specs.Prelude.{◌≡◌, ℕ, ◌≤◌, List, ◌++◌}
use Rattle.std.specs.declared.option.Option.{Option}
use Rattle.std.specs.declared.option.Option.TheVariants.{Some}
use Rattle.dm_message.specs.declared.MsgId.{MsgId}
use Rattle.dm_onekernel.specs.declared.boot.Boot.{Boot}
use Rattle.dm_onekernel.specs.Start.{start}
use Rattle.dm_onekernel.specs.Step.{replay}
use Rattle.dm_law_one.specs.Laws.{receptions}
use Rattle.dm_schedule.specs.declared.Directive.{Directive}
use Rattle.dm_line.specs.declared.line.Line.{Line}
use Rattle.dm_line.specs.Todo.{Todo, all_of}
use Rattle.dm_law_rule.specs.Ends.{end_lines}
use Rattle.dm_law_rule.specs.Good.{IsRun}
use Rattle.dm_law_rule.specs.Point.{Point, first_point, labels}
use Rattle.dm_law_rule.specs.Spots.{StandsRight, standing}
use Rattle.dm_law_mirror.specs.Run.{joined}
use Rattle.dm_text.specs.Text.{text_of_ends, text_of_lines}
use Rattle.dm_outside.specs.Outside.{appended}
use Rattle.dm_ending.specs.declared.status.Status.TheVariants.{Done}
use Rattle.dm_front.specs.Inputs.{AcceptsFiles}
use Rattle.dm_front.specs.Outside.{Outside}
use Rattle.dm_cmd_run.specs.Runs.{RunSays}
use Rattle.dm_front.specs.Runs.{SaysRun}
use Rattle.dm_program.specs.Printed.{IsOver, by_rule}

-- groups of lines for the directives of a schedule, and where the run of the kernel without machines stands behind them
pub record IsSound (b : Boot) (ds : List Directive) (groups : List (List Line)) (end : Point) : Type 0 where
  -- the labels among the lines are a run of that kernel, from where the boot file begins
  pub replays : replay (start b) (labels (joined groups)) ≡ Some end.kernel
  -- no message is received twice
  pub received : (id : MsgId) → receptions id (labels (joined groups)) ≤ 1
  -- each message that the kernel holds stands exactly once among the printed queues, held lists, inboxes and streams; one that it
  -- doesn't hold stands nowhere, but a message of the machines' own kernels at most once
  pub stands : (id : MsgId) → StandsRight id (end.kernel.bag id) (standing end.view id)
  -- directive by directive, the groups are those that the rule has, and no directive is left
  pub left : Todo
  pub run : IsRun b (first_point b) (all_of ds) groups end left
  pub over : IsOver end left

-- such groups were written, and behind them those that say where everything stands
pub record PrintsSoundly (b : Boot) (ds : List Directive) (before after : Option (List ℕ)) : Type 0 where
  pub groups : List (List Line)
  pub end : Point
  pub sound : IsSound b ds groups end
  pub written : after ≡ appended before (text_of_lines (joined groups) ++ text_of_ends (end_lines end))

-- the system of the boot file, for which the schedule's directives are, and a sound run of it
pub record RunsSoundly (boot schedule : List ℕ) (o : Outside) : Type 0 where
  pub system : Boot
  pub directives : List Directive
  pub accepts : AcceptsFiles o.files boot schedule system directives
  pub prints : PrintsSoundly system directives o.before o.after

abbrev pub RunsAreSound : Type 0
RunsAreSound = (boot schedule : List ℕ) (o : Outside) → SaysRun (RunSays by_rule) boot schedule o Done → RunsSoundly boot schedule o
