-- What the status of a command says that runs a schedule: why it comes, and what was written by then.
use Rattle.std.specs.Prelude.{◌≡◌, ℕ, ◌⊎◌, List, length}
use Rattle.std.specs.List.{All}
use Rattle.std.specs.declared.option.Option.{Option}
use Rattle.std.specs.declared.option.Option.TheVariants.{Some}
use Rattle.dm_onekernel.specs.declared.boot.Boot.{Boot}
use Rattle.dm_onekernel.specs.Boot.{IsValid}
use Rattle.dm_schedule.specs.declared.Directive.{Directive}
use Rattle.dm_world.specs.declared.world.World.{World}
use Rattle.dm_run.specs.Runs.{IsFor}
use Rattle.dm_ending.specs.declared.status.Input.TheVariants as input
use Rattle.dm_ending.specs.declared.status.Status.{Status}
use Rattle.dm_ending.specs.declared.status.Status.TheVariants.{Done, NoMemory, WriteFault, Worn}
use Rattle.dm_ending.specs.Status.{IsWant}
use Rattle.dm_front.specs.Asked.{Both}
use Rattle.dm_front.specs.Inputs.{AcceptsFiles, NoFiles}
use Rattle.dm_front.specs.Meets.{MeetsOutside}
use Rattle.dm_front.specs.Outside.{Around, Never, NeverReadsBadly, Outside, outside}

-- what a status says of this system and these directives: of what the sink told before and after, and of the world that was left
abbrev pub RunSaying : Type 1
RunSaying = Boot → List Directive → Option (List ℕ) → Option (List ℕ) → Option World → Status → Type 0

-- a run ends with four statuses alone: it came to its end; memory lacked; the sink failed; or two machines count as many messages as they
-- may. So much is said with each
abbrev pub RanSays : Type 0 → Type 0 → Type 0 → (ℕ → ℕ → Type 0) → Status → Type 0
RanSays Whole First Begun Wears Done = Whole
RanSays Whole First Begun Wears (NoMemory lack) = First
RanSays Whole First Begun Wears WriteFault = Begun
RanSays Whole First Begun Wears (Worn from to) = Wears from to
RanSays Whole First Begun Wears _ = ⊥

-- that is said of the system and the directives that the files say: the system may start, and the directives are for its machines
pub record Runs (Says : RunSaying) (boot schedule : List ℕ) (o : Outside) (s : Status) : Type 0 where
  pub system : Boot
  pub directives : List Directive
  pub accepts : AcceptsFiles o.files boot schedule system directives
  pub valid : IsValid system
  pub within : All (IsFor (length system.machines)) directives
  pub says : Says system directives o.before o.after o.world s

-- or there was no run
abbrev pub SaysRun : RunSaying → List ℕ → List ℕ → Outside → Status → Type 0
SaysRun Says boot schedule o s = Runs Says boot schedule o s ⊎ Never (NoFiles o.files boot schedule) o s

-- files that give no run are refused for the reason that there is, unless memory lacks
abbrev pub Refuses : List ℕ → List ℕ → Outside → Status → Type 0
Refuses boot schedule o s =
    (files : List ℕ → Option (List ℕ)) (due : Status) → o.files ≡ Some files
    → NoFiles (Some files) boot schedule o.reads_before o.reads_after due → (IsWant due → ⊥) → NeverReadsBadly o → (s ≡ due) ⊎ IsWant s

-- all that the command promises, with files of these names
pub record RunMeets (Says : RunSaying) {F K : Type 0} (boot schedule : List ℕ) (a : Around F K) (world : Option World) (s : Status) : Type 0 where
  pub says : SaysRun Says boot schedule (outside a world) s
  pub refuses : Refuses boot schedule (outside a world) s
  pub met : MeetsOutside (Both boot input.Schedule schedule) a s
