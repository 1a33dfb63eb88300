-- What the command `explain` promises: with each status that it ends with, why it comes and what was written by then.
use Rattle.std.specs.Prelude.{◌≡◌, ⊤, ℕ, ◌⊎◌, List, [], ◌++◌, length}
use Rattle.std.specs.declared.option.Option.{Option}
use Rattle.std.specs.declared.option.Option.TheVariants.{None, Some}
use Rattle.dm_onekernel.specs.declared.boot.Boot.{Boot}
use Rattle.dm_schedule.specs.declared.Directive.{Directive}
use Rattle.dm_schedule.specs.declared.LineFault.{LineFault}
use Rattle.dm_schedule.specs.Schedule.{Accepted, Refused, directives_of, number_of_fault}
use Rattle.dm_world.specs.declared.world.World.{World}
use Rattle.dm_explain.specs.Naming.{name_told}
use Rattle.dm_explain.specs.Schedules.{directives_told, line_told}
use Rattle.dm_ending.specs.declared.status.Status.{Status}
use Rattle.dm_ending.specs.declared.status.Status.TheVariants.{Done, WriteFault, BootRefused, ScheduleRefused}
use Rattle.dm_front.specs.Asked.{perhaps_both}
use Rattle.dm_front.specs.Inputs.{AcceptsFiles, HasFile, NoBoot, NoFiles, SaysBoot, most_schedule}
use Rattle.dm_front.specs.Meets.{MeetsOutside}
use Rattle.dm_front.specs.Outside.{Around, Never, NeverFails, Outside, outside}
use Rattle.dm_ending.specs.Status.{IsWant}
use Rattle.dm_front.specs.Told.{ExplainsBroken, ExplainsSystem, Wrote}
use Rattle.dm_front.specs.Promise.{Promise}

-- what is said of the directives of a schedule, behind what was said first
pub record TellsDirectives (bytes : List ℕ) (machines : ℕ) (first text : List ℕ) : Type 0 where
  pub directives : List Directive
  pub says : directives_of bytes machines ≡ Accepted directives
  pub text_is : text ≡ first ++ directives_told directives

-- and of a line that is refused
pub record TellsLine (b : Boot) (bytes : List ℕ) (line why : ℕ) (first text : List ℕ) : Type 0 where
  pub fault : LineFault
  pub refused : directives_of bytes (length b.machines) ≡ Refused line fault
  pub why_is : why ≡ number_of_fault fault
  pub text_is : text ≡ first ++ (line_told bytes (length b.machines) line fault ++ name_told b bytes line fault)

-- how a run ends on a schedule before it runs, and what is said of it
abbrev pub TellsLines : Boot → List ℕ → List ℕ → Status → List ℕ → Type 0
TellsLines b bytes first Done text = TellsDirectives bytes (length b.machines) first text
TellsLines b bytes first (ScheduleRefused line why) text = TellsLine b bytes line why first text
TellsLines b bytes first _ text = ⊥

-- the same of the schedule of this name
pub record TellsSchedule (files : Option (List ℕ → Option (List ℕ))) (name : List ℕ) (b : Boot) (first : List ℕ) (due : Status) (text : List ℕ) : Type 0 where
  pub bytes : List ℕ
  pub file : HasFile files name most_schedule bytes
  pub tells : TellsLines b bytes first due text

-- a system is said, and then a schedule for its machines
pub record TellsBoth (files : Option (List ℕ → Option (List ℕ))) (boot schedule : List ℕ) (due : Status) (text : List ℕ) : Type 0 where
  pub system : Boot
  pub first : List ℕ
  pub boot_told : ExplainsSystem files boot system first
  pub schedule_told : TellsSchedule files schedule system first due text

-- a system is said, alone
pub record TellsAlone (files : Option (List ℕ → Option (List ℕ))) (boot text : List ℕ) : Type 0 where
  pub system : Boot
  pub told : ExplainsSystem files boot system text

abbrev pub TellsAccepted : Option (List ℕ → Option (List ℕ)) → List ℕ → Option (List ℕ) → List ℕ → Type 0
TellsAccepted files boot None text = TellsAlone files boot text
TellsAccepted files boot (Some schedule) text = TellsBoth files boot schedule Done text

abbrev pub TellsBadLine : Option (List ℕ → Option (List ℕ)) → List ℕ → Option (List ℕ) → ℕ → ℕ → List ℕ → Type 0
TellsBadLine files boot None line why text = ⊥
TellsBadLine files boot (Some schedule) line why text = TellsBoth files boot schedule (ScheduleRefused line why) text

-- how a run ends on files of these names before it runs, and what is said of them
abbrev pub TellsFiles : Option (List ℕ → Option (List ℕ)) → List ℕ → Option (List ℕ) → Status → List ℕ → Type 0
TellsFiles files boot schedule Done text = TellsAccepted files boot schedule text
TellsFiles files boot schedule (BootRefused number place) text = ExplainsBroken files boot number place text
TellsFiles files boot schedule (ScheduleRefused line why) text = TellsBadLine files boot schedule line why text
TellsFiles files boot schedule _ text = ⊥

-- files were explained
pub record Explains (boot : List ℕ) (schedule : Option (List ℕ)) (o : Outside) (s : Status) : Type 0 where
  pub due : Status
  pub text : List ℕ
  pub tells : TellsFiles o.files boot schedule due text
  pub wrote : Wrote due text o.before o.after o.writes_before o.writes_after s

-- why a run of these files comes to nothing; without a schedule, why there is no system
abbrev pub NoInputs : Option (List ℕ → Option (List ℕ)) → List ℕ → Option (List ℕ) → ℕ → ℕ → Status → Type 0
NoInputs files boot None old new s = NoBoot files boot old new s
NoInputs files boot (Some schedule) old new s = NoFiles files boot schedule old new s

-- or none were
abbrev pub SaysExplain : List ℕ → Option (List ℕ) → Outside → Status → Type 0
SaysExplain boot schedule o s = Explains boot schedule o s ⊎ Never (NoInputs o.files boot schedule) o s

-- these files say a system, and directives where there is a schedule
pub record SaysSystem (files : Option (List ℕ → Option (List ℕ))) (boot : List ℕ) : Type 0 where
  pub system : Boot
  pub says : SaysBoot files boot system

pub record SaysRunnable (files : Option (List ℕ → Option (List ℕ))) (boot schedule : List ℕ) : Type 0 where
  pub system : Boot
  pub directives : List Directive
  pub says : AcceptsFiles files boot schedule system directives

abbrev pub SaysInputs : Option (List ℕ → Option (List ℕ)) → List ℕ → Option (List ℕ) → Type 0
SaysInputs files boot None = SaysSystem files boot
SaysInputs files boot (Some schedule) = SaysRunnable files boot schedule

-- the status of a run of these files before it runs
abbrev pub BeforeRun : Option (List ℕ → Option (List ℕ)) → List ℕ → Option (List ℕ) → ℕ → ℕ → Status → Type 0
BeforeRun files boot schedule old new s = ((s ≡ Done) × SaysInputs files boot schedule) ⊎ NoInputs files boot schedule old new s

-- the program ends so, unless the sink failed
abbrev pub AsRun : List ℕ → Option (List ℕ) → Outside → Status → Type 0
AsRun boot schedule o s = (s ≡ WriteFault) ⊎ BeforeRun o.files boot schedule o.reads_before o.reads_after s

-- and it does, where no read and no write fails and memory is there
abbrev pub Decides : List ℕ → Option (List ℕ) → Outside → Status → Type 0
Decides boot schedule o s =
    (files : List ℕ → Option (List ℕ)) (due : Status) → o.files ≡ Some files
    → BeforeRun (Some files) boot schedule o.reads_before o.reads_after due → (IsWant due → ⊥) → NeverFails o → (s ≡ due) ⊎ IsWant s

-- all that the command promises, with files of these names
pub record ExplainMeets {F K : Type 0} (boot : List ℕ) (schedule : Option (List ℕ)) (a : Around F K) (world : Option World) (s : Status) : Type 0 where
  pub says : SaysExplain boot schedule (outside a world) s
  pub as_run : AsRun boot schedule (outside a world) s
  pub decides : Decides boot schedule (outside a world) s
  pub no_world : world ≡ None
  pub met : MeetsOutside (perhaps_both boot schedule) a s

-- it writes all that is said to standard output; and what it comes to is among that
abbrev pub explain_promise : List ℕ → Option (List ℕ) → Promise
explain_promise boot schedule = record {
  names = perhaps_both boot schedule;
  meets = λ a world s. ExplainMeets boot schedule a world s;
  first = λ files s said. said ≡ [];
  refuses = λ files. ⊥;
  decided = λ o s. ⊤;
}
