-- What the commands `count` and `drill` promise: with each status that they end with, what was written by then.
use Rattle.std.specs.Prelude.{◌≡◌, ℕ, ◌⊎◌, Bool, false, List, []}
use Rattle.std.specs.declared.option.Option.{Option}
use Rattle.dm_onekernel.specs.declared.boot.Boot.{Boot}
use Rattle.dm_schedule.specs.declared.Directive.{Directive}
use Rattle.dm_world.specs.declared.world.World.{World}
use Rattle.dm_draw.specs.Boot.{boot_of_machines}
use Rattle.dm_draw.specs.Directives.{directives_drawn}
use Rattle.dm_draw.specs.declared.drill.Drill.{Drill}
use Rattle.dm_run.specs.Notion.{Notion}
use Rattle.dm_drill.specs.declared.report.Report.{Report}
use Rattle.dm_drill.specs.declared.report.Report.TheVariants as report
use Rattle.dm_drill.specs.Drilled.{DrillIsBegun, DrillIsOfFirst, DrillIsWhole, DrillWears}
use Rattle.dm_ending.specs.declared.status.Input.TheVariants as input
use Rattle.dm_ending.specs.declared.status.Status.{Status}
use Rattle.dm_ending.specs.declared.status.Status.TheVariants.{Done, Worn}
use Rattle.dm_ending.specs.Status.{IsWant}
use Rattle.dm_words.specs.DrillWords.{IsWithin}
use Rattle.dm_front.specs.Asked.{Both, Nothing}
use Rattle.dm_front.specs.Decided.{Lasts, RunIsDecided, Wears}
use Rattle.dm_front.specs.Firsts.{FirstOfFiles}
use Rattle.dm_front.specs.Meets.{MeetsShelf, MeetsSink}
use Rattle.dm_front.specs.Outside.{Around, NeverFails, Outside, SinkAround}
use Rattle.dm_front.specs.Promise.{Promise}
use Rattle.dm_front.specs.Runs.{RanSays, RunMeets, RunSaying}

-- the directives that are drawn
abbrev pub directives_of_drill : Drill → List Directive
directives_of_drill d = directives_drawn d.machines d.seed d.lines

-- what a status says of a drill of this system by these directives
abbrev pub DrillSaying : Type 1
DrillSaying = Drill → RunSaying

-- what was written of the run of this system by these directives, counted, with its groups where that is asked for, and with this
-- report, by a notion of a run
abbrev pub CountedSays : Notion → Bool → Report → RunSaying
CountedSays r trace report b ds before after world s =
    RanSays (DrillIsWhole r trace report b ds before after world) (DrillIsOfFirst r trace b ds before after) (DrillIsBegun r trace report b ds before after world) (λ from to. DrillWears r trace b ds before after from to) s

-- what the report of a drill is of
abbrev pub report_of : Drill → Report
report_of d = report.OfDrill d.seed d.machines d.lines

abbrev pub DrilledSays : Notion → DrillSaying
DrilledSays r d = CountedSays r d.trace (report_of d)

-- a run that is counted by `count`: nothing of its groups is written
abbrev pub CountSays : Notion → RunSaying
CountSays r = CountedSays r false report.OfRun

-- that is said of the system and the directives that are drawn
abbrev pub SaysDrill : DrillSaying → Drill → Option (List ℕ) → Option (List ℕ) → Option World → Status → Type 0
SaysDrill Says d before after world s = Says d (boot_of_machines d.machines) (directives_of_drill d) before after world s

-- all that the command promises, which reads no file
pub record DrillMeets (Says : DrillSaying) {K : Type 0} (d : Drill) (k : SinkAround K) (world : Option World) (s : Status) : Type 0 where
  pub says : SaysDrill Says d (k.told k.old) (k.told k.new) world s
  pub sink : MeetsSink k s

-- a drill is done whose numbers are in their ranges, and no file is asked for
pub record Drills (r : Notion) {F K : Type 0} (d : Drill) (a : Around F K) (world : Option World) (s : Status) : Type 0 where
  pub within : IsWithin d
  pub meets : DrillMeets (DrilledSays r) d a.sink world s
  pub shelf : MeetsShelf Nothing a.shelf s

-- where no read and no write fails and memory is there, directives that last come to their end, and others to the worn pair
pub record DrillIsDecided (r : Notion) (d : Drill) (o : Outside) (s : Status) : Type 0 where
  pub completes : Lasts r (boot_of_machines d.machines) (directives_of_drill d) → NeverFails o → (s ≡ Done) ⊎ IsWant s
  pub wears : (from to : ℕ) → Wears r (boot_of_machines d.machines) (directives_of_drill d) from to → NeverFails o → (s ≡ Worn from to) ⊎ IsWant s

abbrev pub drill_promise : Notion → Drill → Promise
drill_promise r d = record {
  names = Nothing;
  meets = λ a world s. Drills r d a world s;
  first = λ files s said. said ≡ [];
  refuses = λ files. ⊥;
  decided = λ o s. DrillIsDecided r d o s;
}

-- and of `count`, with files of these names
abbrev pub count_promise : Notion → List ℕ → List ℕ → Promise
count_promise r boot schedule = record {
  names = Both boot input.Schedule schedule;
  meets = λ a world s. RunMeets (CountSays r) boot schedule a world s;
  first = λ files s said. FirstOfFiles files boot schedule s said;
  refuses = λ files. ⊥;
  decided = λ o s. RunIsDecided r boot schedule o s;
}
