-- What the command `chart` promises: with each status that it ends with, what was written by then.
use Rattle.std.specs.Prelude.{◌≡◌, ℕ, ◌-◌, ◌^◌, ◌⊎◌, List}
use Rattle.std.specs.declared.option.Option.{Option}
use Rattle.std.specs.declared.option.Option.TheVariants.{None, Some}
use Rattle.dm_onekernel.specs.declared.boot.Boot.{Boot}
use Rattle.dm_schedule.specs.declared.Directive.{Directive}
use Rattle.dm_chart.specs.declared.kept.Part.{Part}
use Rattle.dm_world.specs.declared.world.World.{World}
use Rattle.dm_outside.specs.Outside.{appended}
use Rattle.dm_run.specs.Appended.{IsCutShort}
use Rattle.dm_run.specs.Notion.{Notion}
use Rattle.dm_run.specs.Pictured.{IsBeforeWorn, PictureIsWhole}
use Rattle.dm_ending.specs.declared.status.Input.TheVariants as input
use Rattle.dm_ending.specs.declared.status.Status.{Status}
use Rattle.dm_front.specs.Asked.{Both}
use Rattle.dm_front.specs.Decided.{RunIsDecided}
use Rattle.dm_front.specs.Firsts.{FirstOfFiles}
use Rattle.dm_front.specs.Promise.{Promise}
use Rattle.dm_front.specs.Outside.{Around}
use Rattle.dm_front.specs.Runs.{RanSays, RunMeets, RunSaying}

-- the groups that the words ask for: from the first on, and to the last, where they say no number
abbrev pub number_or : ℕ → Option ℕ → ℕ
number_or other None = other
number_or other (Some n) = n

abbrev pub part_of : Option ℕ → Option ℕ → Part
part_of first last = record { first = number_or 1 first; last = number_or (2 ^ 64 - 1) last }

-- the picture of these groups of the whole run was appended, of what fits a picture
pub record ShowsWhole (part : Part) (r : Notion) (b : Boot) (ds : List Directive) (before after : Option (List ℕ)) : Type 0 where
  pub text : List ℕ
  pub is : PictureIsWhole part r b ds text
  pub written : after ≡ appended before text

-- that of what comes before a worn pair
pub record ShowsBegun (part : Part) (r : Notion) (b : Boot) (ds : List Directive) (before after : Option (List ℕ)) (from to : ℕ) : Type 0 where
  pub text : List ℕ
  pub is : IsBeforeWorn part r b ds text from to
  pub written : after ≡ appended before text

-- one of these pictures
abbrev pub IsPicture : Part → Notion → Boot → List Directive → List ℕ → Type 0
IsPicture part r b ds text = PictureIsWhole part r b ds text ⊎ ((from to : ℕ) × IsBeforeWorn part r b ds text from to)

-- it was begun
pub record BeginsPicture (part : Part) (r : Notion) (b : Boot) (ds : List Directive) (before after : Option (List ℕ)) : Type 0 where
  pub text : List ℕ
  pub is : IsPicture part r b ds text
  pub begun : IsCutShort before text after

-- what was written of the run of this system by these directives, by a notion of a run; no world is left
abbrev pub ChartSays : Part → Notion → RunSaying
ChartSays part r b ds before after world s =
    RanSays (ShowsWhole part r b ds before after) (after ≡ before) (BeginsPicture part r b ds before after) (λ from to. ShowsBegun part r b ds before after from to) s

-- all that the command promises, with files of these names: what `run` does, of a picture, and no world is left
pub record ChartMeets (Says : RunSaying) {F K : Type 0} (boot schedule : List ℕ) (a : Around F K) (world : Option World) (s : Status) : Type 0 where
  pub as_run : RunMeets Says boot schedule a world s
  pub no_world : world ≡ None

-- of the groups that the words ask for
abbrev pub chart_promise : Notion → List ℕ → List ℕ → Option ℕ → Option ℕ → Promise
chart_promise r boot schedule first last = record {
  names = Both boot input.Schedule schedule;
  meets = λ a world s. ChartMeets (ChartSays (part_of first last) r) boot schedule a world s;
  first = λ files s said. FirstOfFiles files boot schedule s said;
  refuses = λ files. ⊥;
  decided = λ o s. RunIsDecided r boot schedule o s;
}
