-- What the commands say of each other.
use Rattle.std.specs.Prelude.{◌≡◌, ◌≤◌, ℕ, ◌⊎◌, Bool, true, false, List, [], ◌++◌, length}
use Rattle.std.specs.List.{All}
use Rattle.std.specs.declared.option.Option.{Option}
use Rattle.std.specs.declared.option.Option.TheVariants.{Some}
use Rattle.dm_onekernel.specs.declared.boot.Boot.{Boot}
use Rattle.dm_onekernel.specs.Boot.{IsValid}
use Rattle.dm_outside.specs.Outside.{appended}
use Rattle.dm_draw.specs.Boot.{boot_of_machines}
use Rattle.dm_draw.specs.declared.drill.Drill.{Drill}
use Rattle.dm_drill.specs.Summary.{summary}
use Rattle.dm_drill.specs.Totals.{Totals}
use Rattle.dm_law_mirror.specs.Ran.{ones}
use Rattle.dm_law_mirror.specs.Todo.{IsDirective}
use Rattle.dm_check.specs.Judge.{Open}
use Rattle.dm_law_runs.specs.Traces.Good.{IsTrace}
use Rattle.dm_law_runs.specs.Traces.Verdict.{verdict}
use Rattle.dm_ending.specs.declared.status.Status.{Status}
use Rattle.dm_ending.specs.declared.status.Status.TheVariants.{Done, Worn}
use Rattle.dm_words.specs.DrillWords.{IsWithin}
use Rattle.dm_ending.specs.Status.{IsWant}
use Rattle.dm_cmd_check.specs.Checks.{good_line, most_trace}
use Rattle.dm_cmd_count.specs.Drills.{DrilledSays, SaysDrill, directives_of_drill}
use Rattle.dm_front.specs.Outside.{NeverFails, Outside}
use Rattle.dm_cmd_run.specs.Runs.{RunSays}
use Rattle.dm_front.specs.Runs.{SaysRun}
use Rattle.dm_cmd_check.specs.Promises.{Accepts}
use Rattle.dm_program.specs.Printed.{by_rule}
use Rattle.dm_program.specs.Rule.{traced_by_rule}

-- what a run has written, from nothing on, is the trace that is checked, with the same boot file
pub record IsKept (boot trace : List ℕ) (run check : Outside) : Type 0 where
  pub files : List ℕ → Option (List ℕ)
  pub later : List ℕ → Option (List ℕ)
  pub at_run : run.files ≡ Some files
  pub at_check : check.files ≡ Some later
  pub boot_is : later boot ≡ files boot
  pub from_nothing : run.before ≡ Some []
  pub trace_is : later trace ≡ run.after
  pub short : (bytes : List ℕ) → later trace ≡ Some bytes → length bytes ≤ most_trace

-- it was said that the trace is good
pub record SaysItIs (ended : Bool) (o : Outside) (s : Status) : Type 0 where
  pub groups : ℕ
  pub done : s ≡ Done
  pub said : o.after ≡ appended o.before (good_line groups ended)

-- the trace of a run that came to its end is good, ended
abbrev pub RunsCheck : Type 0
RunsCheck =
    (boot schedule trace : List ℕ) (run check : Outside) (s : Status) → SaysRun (RunSays by_rule) boot schedule run Done → IsKept boot trace run check → Accepts traced_by_rule boot trace check s → NeverFails check → SaysItIs true check s ⊎ IsWant s

-- that of a run that stopped at two machines that count as many messages as they may is good, open
abbrev pub WornRunsCheck : Type 0
WornRunsCheck =
    (boot schedule trace : List ℕ) (run check : Outside) (from to : ℕ) (s : Status) → SaysRun (RunSays by_rule) boot schedule run (Worn from to) → IsKept boot trace run check → Accepts traced_by_rule boot trace check s → NeverFails check
    → SaysItIs false check s ⊎ IsWant s

-- what a drill printed of its groups is good, open; its summary stands behind it
pub record IsGoodDrill (d : Drill) (text : Option (List ℕ)) : Type 0 where
  pub printed : List ℕ
  pub groups : ℕ
  pub totals : Totals
  pub quiet : Bool
  pub written : text ≡ Some (printed ++ summary d.seed d.machines d.lines totals quiet)
  pub good : verdict (boot_of_machines d.machines) printed ≡ Open groups

-- and where it was stopped by two machines that count as many messages as they may, all that it printed is
pub record IsGoodWornDrill (d : Drill) (text : Option (List ℕ)) : Type 0 where
  pub printed : List ℕ
  pub groups : ℕ
  pub written : text ≡ Some printed
  pub good : verdict (boot_of_machines d.machines) printed ≡ Open groups

-- what `drill --trace` writes, from nothing on and without its summary, is good, open
pub record DrillsCheck : Type 0 where
  pub done : (d : Drill) (o : Outside) → IsWithin d → d.trace ≡ true → o.before ≡ Some [] → SaysDrill (DrilledSays by_rule) d o.before o.after o.world Done → IsGoodDrill d o.after
  pub worn : (d : Drill) (o : Outside) (from to : ℕ) → IsWithin d → d.trace ≡ true → o.before ≡ Some [] → SaysDrill (DrilledSays by_rule) d o.before o.after o.world (Worn from to) → IsGoodWornDrill d o.after

-- the system that a drill draws may start, and its directives are for its machines: so the laws of good groups are about a drill's
pub record IsDrillFor (d : Drill) : Type 0 where
  pub valid : IsValid (boot_of_machines d.machines)
  pub within : All (IsDirective (length (boot_of_machines d.machines).machines)) (directives_of_drill d)

abbrev pub DrillsMayStart : Type 0
DrillsMayStart = (d : Drill) → IsWithin d → IsDrillFor d

-- the directives that the heads of a good trace are, are for the machines of its boot file: so those laws are about its groups
abbrev pub TracesAreFor : Type 0
TracesAreFor = (b : Boot) (bytes : List ℕ) (n : ℕ) (ended : Bool) → (t : IsTrace b bytes n ended) → All (IsDirective (length b.machines)) (ones t.steps)
