-- What a drill promises that is drawn for a boot file's system: with each status that it ends with, what was written by then.
use Rattle.std.specs.Prelude.{◌≡◌, ℕ, ◌⊎◌, Bool, true, false, List, length}
use Rattle.std.specs.declared.option.Option.{Option}
use Rattle.std.specs.declared.option.Option.TheVariants.{None, Some}
use Rattle.dm_onekernel.specs.declared.boot.Boot.{Boot}
use Rattle.dm_onekernel.specs.Boot.{IsValid}
use Rattle.dm_schedule.specs.declared.Directive.{Directive}
use Rattle.dm_outside.specs.Outside.{appended}
use Rattle.dm_draw.specs.Own.{own_directives_drawn}
use Rattle.dm_draw.specs.declared.drill.OwnDrill.{OwnDrill}
use Rattle.dm_draw.specs.declared.drill.Shows.{Shows}
use Rattle.dm_draw.specs.declared.drill.Shows.TheVariants as shows
use Rattle.dm_run.specs.Appended.{IsCutShort}
use Rattle.dm_run.specs.Notion.{Notion}
use Rattle.dm_drill.specs.Schedules.{schedule_text}
use Rattle.dm_drill.specs.declared.report.Report.{Report}
use Rattle.dm_drill.specs.declared.report.Report.TheVariants as report
use Rattle.dm_world.specs.declared.world.World.{World}
use Rattle.dm_ending.specs.declared.status.Input.TheVariants as input
use Rattle.dm_ending.specs.declared.status.Status.{Status}
use Rattle.dm_ending.specs.declared.status.Status.TheVariants.{Done, Worn}
use Rattle.dm_ending.specs.Status.{IsWant}
use Rattle.dm_front.specs.Asked.{Alone}
use Rattle.dm_front.specs.Decided.{Lasts, Wears}
use Rattle.dm_front.specs.Firsts.{FirstOfBoot}
use Rattle.dm_front.specs.Promise.{Promise}
use Rattle.dm_cmd_count.specs.Drills.{CountedSays}
use Rattle.dm_front.specs.Inputs.{NoBoot, SaysBoot}
use Rattle.dm_front.specs.Meets.{MeetsOutside}
use Rattle.dm_front.specs.Outside.{Around, Never, NeverFails, Outside, outside}
use Rattle.dm_front.specs.Runs.{RanSays, RunSaying}
use Rattle.dm_front.specs.Systems.{RefusesSystem}

-- the directives that are drawn for a system, by its machines and its processes in their order
abbrev pub directives_for : Boot → OwnDrill → List Directive
directives_for b d = own_directives_drawn (length b.machines) b.processes d.seed d.lines

-- what its report is of
abbrev pub own_report : Boot → OwnDrill → Report
own_report b d = report.OfDrill d.seed (length b.machines) d.lines

-- these directives were written as a schedule, and nothing was run: no world is left
abbrev pub ScheduleSays : RunSaying
ScheduleSays b ds before after world s =
    RanSays ((world ≡ None) × (after ≡ appended before (schedule_text ds))) ((world ≡ None) × (after ≡ before)) ((world ≡ None) × IsCutShort before (schedule_text ds) after) (λ from to. ⊥) s

-- or they were done and counted, and their groups were written where that is asked for
abbrev pub RunOwnSays : Notion → Bool → OwnDrill → RunSaying
RunOwnSays r trace d b ds before after world s = CountedSays r trace (own_report b d) b ds before after world s

-- a row for what is written of a drill
abbrev pub ShownSays : Notion → OwnDrill → Shows → RunSaying
ShownSays r d shows.Summary = RunOwnSays r false d
ShownSays r d shows.Groups = RunOwnSays r true d
ShownSays r d shows.Directives = ScheduleSays

abbrev pub OwnSays : Notion → OwnDrill → RunSaying
OwnSays r d = ShownSays r d d.shows

-- that is said of the system that the boot file says, which may start, and of the directives that are drawn for it
pub record DrillsOwn (Says : RunSaying) (boot : List ℕ) (d : OwnDrill) (o : Outside) (s : Status) : Type 0 where
  pub system : Boot
  pub says_boot : SaysBoot o.files boot system
  pub valid : IsValid system
  pub says : Says system (directives_for system d) o.before o.after o.world s

-- or the file gave no system
abbrev pub SaysOwn : RunSaying → List ℕ → OwnDrill → Outside → Status → Type 0
SaysOwn Says boot d o s = DrillsOwn Says boot d o s ⊎ Never (NoBoot o.files boot) o s

-- all that the command promises, with a boot file of this name
pub record OwnMeets (Says : RunSaying) {F K : Type 0} (boot : List ℕ) (d : OwnDrill) (a : Around F K) (world : Option World) (s : Status) : Type 0 where
  pub says : SaysOwn Says boot d (outside a world) s
  pub refuses : RefusesSystem boot (outside a world) s
  pub met : MeetsOutside (Alone input.Boot boot) a s

-- where no read and no write fails and memory is there, the file decides: of a system that it gives, directives that last come to their
-- end, and others to the worn pair
pub record OwnRunIsDecided (r : Notion) (boot : List ℕ) (d : OwnDrill) (o : Outside) (s : Status) : Type 0 where
  pub completes : (files : List ℕ → Option (List ℕ)) (b : Boot) → o.files ≡ Some files → SaysBoot (Some files) boot b → Lasts r b (directives_for b d) → NeverFails o → (s ≡ Done) ⊎ IsWant s
  pub wears : (files : List ℕ → Option (List ℕ)) (b : Boot) (from to : ℕ) → o.files ≡ Some files → SaysBoot (Some files) boot b → Wears r b (directives_for b d) from to → NeverFails o → (s ≡ Worn from to) ⊎ IsWant s

-- where its directives are written alone, nothing wears
abbrev pub OwnIsDecided : Notion → Shows → List ℕ → OwnDrill → Outside → Status → Type 0
OwnIsDecided r shows.Summary boot d o s = OwnRunIsDecided r boot d o s
OwnIsDecided r shows.Groups boot d o s = OwnRunIsDecided r boot d o s
OwnIsDecided r shows.Directives boot d o s = (files : List ℕ → Option (List ℕ)) (b : Boot) → o.files ≡ Some files → SaysBoot (Some files) boot b → NeverFails o → (s ≡ Done) ⊎ IsWant s

abbrev pub own_promise : Notion → List ℕ → OwnDrill → Promise
own_promise r boot d = record {
  names = Alone input.Boot boot;
  meets = λ a world s. OwnMeets (OwnSays r d) boot d a world s;
  first = λ files s said. FirstOfBoot files boot s said;
  refuses = λ files. ⊥;
  decided = λ o s. OwnIsDecided r d.shows boot d o s;
}
