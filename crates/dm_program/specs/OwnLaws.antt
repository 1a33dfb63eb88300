-- What other commands say of a drill of a boot file's system.
use Rattle.std.specs.Prelude.{◌≡◌, ℕ, Bool, List, [], ◌++◌, length}
use Rattle.std.specs.List.{All}
use Rattle.std.specs.declared.option.Option.{Option}
use Rattle.std.specs.declared.option.Option.TheVariants.{Some}
use Rattle.dm_onekernel.specs.declared.boot.Boot.{Boot}
use Rattle.dm_draw.specs.declared.drill.OwnDrill.{OwnDrill}
use Rattle.dm_draw.specs.declared.drill.Shows.TheVariants as shows
use Rattle.dm_drill.specs.Summary.{summary}
use Rattle.dm_drill.specs.Totals.{Totals}
use Rattle.dm_law_mirror.specs.Todo.{IsDirective}
use Rattle.dm_onekernel.specs.Boot.{IsValid}
use Rattle.dm_check.specs.Judge.{Open}
use Rattle.dm_law_runs.specs.Traces.Verdict.{verdict}
use Rattle.dm_ending.specs.declared.status.Status.TheVariants.{Done, Worn}
use Rattle.dm_words.specs.DrillWords.{OwnIsWithin}
use Rattle.dm_front.specs.Inputs.{AcceptsFiles, SaysBoot}
use Rattle.dm_front.specs.Outside.{Outside}
use Rattle.dm_cmd_count.specs.OwnDrills.{OwnSays, SaysOwn, directives_for}
use Rattle.dm_program.specs.Printed.{by_rule}

-- it is so of the system that the boot file says
pub record OfSystem (boot : List ℕ) (o : Outside) (Holds : Boot → Type 0) : Type 0 where
  pub system : Boot
  pub says_boot : SaysBoot o.files boot system
  pub holds : Holds system

-- what `drill --schedule` has written, from nothing on, is the schedule that another command reads later, with the same boot file
pub record IsKeptSchedule (boot schedule : List ℕ) (o : Outside) (later : List ℕ → Option (List ℕ)) : Type 0 where
  pub files : List ℕ → Option (List ℕ)
  pub at_drill : o.files ≡ Some files
  pub boot_is : later boot ≡ files boot
  pub from_nothing : o.before ≡ Some []
  pub schedule_is : later schedule ≡ o.after

-- then these files are accepted, as the directives that were drawn
abbrev pub SchedulesAreTaken : Type 0
SchedulesAreTaken =
    (boot schedule : List ℕ) (d : OwnDrill) (o : Outside) (later : List ℕ → Option (List ℕ)) → OwnIsWithin d → d.shows ≡ shows.Directives → IsKeptSchedule boot schedule o later → SaysOwn (OwnSays by_rule d) boot d o Done
    → OfSystem boot o (λ b. AcceptsFiles (Some later) boot schedule b (directives_for b d))

-- what a drill of this system printed of its groups is good, open; its summary stands behind it
pub record IsGoodOwnDrill (b : Boot) (d : OwnDrill) (text : Option (List ℕ)) : Type 0 where
  pub printed : List ℕ
  pub groups : ℕ
  pub totals : Totals
  pub quiet : Bool
  pub written : text ≡ Some (printed ++ summary d.seed (length b.machines) d.lines totals quiet)
  pub good : verdict b printed ≡ Open groups

-- and where it was stopped by two machines that count as many messages as they may, all that it printed is
pub record IsGoodWornOwnDrill (b : Boot) (text : Option (List ℕ)) : Type 0 where
  pub printed : List ℕ
  pub groups : ℕ
  pub written : text ≡ Some printed
  pub good : verdict b printed ≡ Open groups

-- what `drill --trace` writes of a boot file's system, from nothing on and without its summary, is good, open
pub record OwnDrillsCheck : Type 0 where
  pub done : (boot : List ℕ) (d : OwnDrill) (o : Outside) → d.shows ≡ shows.Groups → o.before ≡ Some [] → SaysOwn (OwnSays by_rule d) boot d o Done → OfSystem boot o (λ b. IsGoodOwnDrill b d o.after)
  pub worn : (boot : List ℕ) (d : OwnDrill) (o : Outside) (from to : ℕ) → d.shows ≡ shows.Groups → o.before ≡ Some [] → SaysOwn (OwnSays by_rule d) boot d o (Worn from to) → OfSystem boot o (λ b. IsGoodWornOwnDrill b o.after)

-- the directives that are drawn for a system that may start are for its machines: so the laws of good groups are about such a drill's
abbrev pub OwnDrillsAreFor : Type 0
OwnDrillsAreFor = (b : Boot) (d : OwnDrill) → IsValid b → All (IsDirective (length b.machines)) (directives_for b d)
