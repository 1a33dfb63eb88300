-- The theorem on what `run` prints, however it ends. Where it ends for want of memory, at a write that failed, or at two machines that count as
-- many messages as they may, the lines so far are those of groups for the first directives of the schedule, by the rule, and all that holds
-- of a whole run's lines (Theorem.antt) holds of them, but that no directive is left. At any other status nothing was written.
use Rattle.std.specs.Prelude.{◌≡◌, ◌⊎◌, ℕ, ◌<◌, ◌≤◌, List, [], ◌++◌, length}
use Rattle.std.specs.declared.option.Option.{Option}
use Rattle.std.specs.declared.option.Option.TheVariants.{Some}
use Rattle.dm_message.specs.declared.MsgId.{MsgId}
use Rattle.dm_onekernel.specs.declared.boot.Boot.{Boot}
use Rattle.dm_onekernel.specs.Start.{start}
use Rattle.dm_onekernel.specs.Step.{replay}
use Rattle.dm_law_one.specs.Laws.{receptions}
use Rattle.dm_schedule.specs.declared.Directive.{Directive}
use Rattle.dm_line.specs.declared.end_line.EndLine.{EndLine}
use Rattle.dm_line.specs.declared.line.Line.{Line}
use Rattle.dm_line.specs.Todo.{Todo, Next, all_of}
use Rattle.dm_law_rule.specs.Ends.{end_lines}
use Rattle.dm_law_rule.specs.Good.{IsRun, next_step}
use Rattle.dm_law_rule.specs.Point.{Point, first_point, labels}
use Rattle.dm_law_rule.specs.Spots.{StandsRight, standing}
use Rattle.dm_law_rule.specs.Worn.{IsWorn}
use Rattle.dm_law_mirror.specs.Run.{joined}
use Rattle.dm_text.specs.Text.{text_of_ends, text_of_lines}
use Rattle.dm_outside.specs.Outside.{appended}
use Rattle.dm_ending.specs.declared.status.Status.{Status}
use Rattle.dm_ending.specs.declared.status.Status.TheVariants.{Done, NoMemory, WriteFault, Worn}
use Rattle.dm_front.specs.Inputs.{AcceptsFiles, NoFiles}
use Rattle.dm_front.specs.Outside.{Never, Outside}
use Rattle.dm_cmd_run.specs.Runs.{RunSays}
use Rattle.dm_front.specs.Runs.{SaysRun}
use Rattle.dm_program.specs.Printed.{IsOver, by_rule}
use Rattle.dm_program.specs.Theorem.{PrintsSoundly}

-- groups of lines for the first directives of a schedule, and where the run of the kernel without machines stands behind them
pub record IsSoundSoFar (b : Boot) (ds : List Directive) (groups : List (List Line)) (end : Point) : Type 0 where
  -- the labels among the lines are a run of that kernel, from where the boot file begins
  pub replays : replay (start b) (labels (joined groups)) ≡ Some end.kernel
  -- no message is received twice
  pub received : (id : MsgId) → receptions id (labels (joined groups)) ≤ 1
  -- each message stands as it should
  pub stands : (id : MsgId) → StandsRight id (end.kernel.bag id) (standing end.view id)
  -- directive by directive, the groups are those that the rule has
  pub left : Todo
  pub run : IsRun b (first_point b) (all_of ds) groups end left

-- such groups were written
pub record PrintsSoFar (b : Boot) (ds : List Directive) (before after : Option (List ℕ)) : Type 0 where
  pub groups : List (List Line)
  pub end : Point
  pub sound : IsSoundSoFar b ds groups end
  pub written : after ≡ appended before (text_of_lines (joined groups))

-- and the group of the next directive would route a message between these two machines, which count as many as they may
pub record PrintsWorn (b : Boot) (ds : List Directive) (from to : ℕ) (before after : Option (List ℕ)) : Type 0 where
  pub groups : List (List Line)
  pub end : Point
  pub sound : IsSoundSoFar b ds groups end
  pub written : after ≡ appended before (text_of_lines (joined groups))
  pub next : Next
  pub next_is : next_step end.kernel.machines end sound.left ≡ Some next
  pub worn : IsWorn b end next.step from to

-- the text of such groups, and where no directive is left perhaps of the lines that say where everything stands, was begun, and some of
-- it is left
pub record BeginsSoundly (b : Boot) (ds : List Directive) (before after : Option (List ℕ)) : Type 0 where
  pub groups : List (List Line)
  pub end : Point
  pub sound : IsSoundSoFar b ds groups end
  pub last : List EndLine
  pub last_is : (last ≡ []) ⊎ (IsOver end sound.left × (last ≡ end_lines end))
  pub begun : List ℕ
  pub others : List ℕ
  pub prefix : text_of_lines (joined groups) ++ text_of_ends last ≡ begun ++ others
  pub more : 0 < length others
  pub written : after ≡ appended before begun

-- what was written of a run, by the status that it ends with
abbrev pub WritesSoundly : Boot → List Directive → Option (List ℕ) → Option (List ℕ) → Status → Type 0
WritesSoundly b ds before after Done = PrintsSoundly b ds before after
WritesSoundly b ds before after (NoMemory lack) = PrintsSoFar b ds before after
WritesSoundly b ds before after WriteFault = BeginsSoundly b ds before after
WritesSoundly b ds before after (Worn from to) = PrintsWorn b ds from to before after
WritesSoundly b ds before after _ = ⊥

-- the system of the boot file, for which the schedule's directives are, and what was written of a run of it
pub record EndsSoundly (boot schedule : List ℕ) (o : Outside) (s : Status) : Type 0 where
  pub system : Boot
  pub directives : List Directive
  pub accepts : AcceptsFiles o.files boot schedule system directives
  pub writes : WritesSoundly system directives o.before o.after s

-- so it ends, or there was no run, for a reason that there is, and nothing was written
abbrev pub AllRunsAreSound : Type 0
AllRunsAreSound = (boot schedule : List ℕ) (o : Outside) (s : Status) → SaysRun (RunSays by_rule) boot schedule o s → EndsSoundly boot schedule o s ⊎ Never (NoFiles o.files boot schedule) o s
