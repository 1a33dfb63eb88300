-- What the command `look` promises: with each status that it ends with, what was written by then.
use Rattle.std.specs.Prelude.{◌≡◌, ℕ, ◌⊎◌, Bool, List}
use Rattle.std.specs.declared.option.Option.{Option}
use Rattle.std.specs.declared.option.Option.TheVariants.{None, Some}
use Rattle.dm_onekernel.specs.declared.boot.Boot.{Boot}
use Rattle.dm_schedule.specs.declared.Directive.{Directive}
use Rattle.dm_world.specs.declared.world.World.{World}
use Rattle.dm_outside.specs.Outside.{appended}
use Rattle.dm_run.specs.Appended.{IsCutShort}
use Rattle.dm_run.specs.Notion.{Notion}
use Rattle.dm_look.specs.Groups.{WearsBefore}
use Rattle.dm_look.specs.Looked.{Holding, IsSeen}
use Rattle.dm_ending.specs.declared.status.Input.TheVariants as input
use Rattle.dm_ending.specs.declared.status.Status.{Status}
use Rattle.dm_ending.specs.declared.status.Status.TheVariants.{Done, Worn}
use Rattle.dm_ending.specs.Status.{IsWant}
use Rattle.dm_front.specs.Asked.{Both}
use Rattle.dm_front.specs.Firsts.{FirstOfFiles}
use Rattle.dm_front.specs.Inputs.{AcceptsFiles}
use Rattle.dm_front.specs.Outside.{Around, NeverFails, Outside}
use Rattle.dm_front.specs.Promise.{Promise}
use Rattle.dm_front.specs.Runs.{RanSays, RunMeets, RunSaying}

-- what is seen behind so many groups was appended, with the names of the boot file or without
pub record ShowsSeen (r : Notion) (Holds : Holding r) (most : ℕ) (names : Bool) (b : Boot) (ds : List Directive) (before after : Option (List ℕ)) : Type 0 where
  pub text : List ℕ
  pub is : IsSeen r Holds b ds most names text
  pub written : after ≡ appended before text

-- or begun
pub record BeginsSeen (r : Notion) (Holds : Holding r) (most : ℕ) (names : Bool) (b : Boot) (ds : List Directive) (before after : Option (List ℕ)) : Type 0 where
  pub text : List ℕ
  pub is : IsSeen r Holds b ds most names text
  pub begun : IsCutShort before text after

-- a pair of machines is worn before there are so many groups, and nothing was written
pub record SeesWorn (r : Notion) (most : ℕ) (b : Boot) (ds : List Directive) (before after : Option (List ℕ)) (from to : ℕ) : Type 0 where
  pub worn : WearsBefore r b ds most from to
  pub nothing : after ≡ before

-- what was written of the run of this system by these directives behind so many groups, by a notion of a run; no world is left
abbrev pub LookSays : (r : Notion) → Holding r → ℕ → Bool → RunSaying
LookSays r Holds most names b ds before after world s =
    RanSays (ShowsSeen r Holds most names b ds before after) (after ≡ before) (BeginsSeen r Holds most names b ds before after) (λ from to. SeesWorn r most b ds before after from to) s

-- all that the command promises, with files of these names: what `run` does, of what is seen, and no world is left
pub record LookMeets (Says : RunSaying) {F K : Type 0} (boot schedule : List ℕ) (a : Around F K) (world : Option World) (s : Status) : Type 0 where
  pub as_run : RunMeets Says boot schedule a world s
  pub no_world : world ≡ None

-- where no read and no write fails and memory is there, the files decide: where none is worn before so many groups, it comes to its end
pub record LookIsDecided (r : Notion) (most : ℕ) (boot schedule : List ℕ) (o : Outside) (s : Status) : Type 0 where
  pub completes : (files : List ℕ → Option (List ℕ)) (b : Boot) (ds : List Directive) → o.files ≡ Some files → AcceptsFiles (Some files) boot schedule b ds
      → ((from to : ℕ) → WearsBefore r b ds most from to → ⊥) → NeverFails o → (s ≡ Done) ⊎ IsWant s
  pub wears : (files : List ℕ → Option (List ℕ)) (b : Boot) (ds : List Directive) (from to : ℕ) → o.files ≡ Some files → AcceptsFiles (Some files) boot schedule b ds
      → WearsBefore r b ds most from to → NeverFails o → (s ≡ Worn from to) ⊎ IsWant s

abbrev pub look_promise : (r : Notion) → Holding r → List ℕ → List ℕ → ℕ → Bool → Promise
look_promise r Holds boot schedule groups names = record {
  names = Both boot input.Schedule schedule;
  meets = λ a world s. LookMeets (LookSays r Holds groups names) boot schedule a world s;
  first = λ files s said. FirstOfFiles files boot schedule s said;
  refuses = λ files. ⊥;
  decided = λ o s. LookIsDecided r groups boot schedule o s;
}
