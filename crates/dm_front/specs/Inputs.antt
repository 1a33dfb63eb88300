-- What the boot file and the schedule say.
use Rattle.std.specs.Prelude.{◌≡◌, ℕ, ◌≤◌, ⊤, List, length}
use Rattle.std.specs.declared.result.Result.TheVariants.{Ok, Err}
use Rattle.std.specs.declared.option.Option.{Option}
use Rattle.dm_onekernel.specs.declared.boot.Boot.{Boot}
use Rattle.dm_boot.specs.declared.rules.BootRule.{BootRule}
use Rattle.dm_boot.specs.Rules.{rule_number}
use Rattle.dm_boot.specs.Boot.{boot_of}
use Rattle.dm_schedule.specs.declared.Directive.{Directive}
use Rattle.dm_schedule.specs.declared.LineFault.{LineFault}
use Rattle.dm_schedule.specs.Schedule.{Accepted, Refused, directives_of, number_of_fault}
use Rattle.dm_outside.specs.Outside.{RoseOrFull}
use Rattle.dm_ending.specs.declared.status.Input.TheVariants as input
use Rattle.dm_ending.specs.declared.status.Status.{Status}
use Rattle.dm_ending.specs.declared.status.Status.TheVariants as status
use Rattle.dm_front.specs.Files.{IsFile, IsLonger}

-- the most bytes of a boot file, and of a schedule
abbrev pub most_boot : ℕ
most_boot = 1048576

abbrev pub most_schedule : ℕ
most_schedule = 16777216

-- the file of this name has these bytes, and no more than it may have
pub record HasFile (files : Option (List ℕ → Option (List ℕ))) (name : List ℕ) (most : ℕ) (bytes : List ℕ) : Type 0 where
  pub is : IsFile files name bytes
  pub within : length bytes ≤ most

-- the boot file of this name says this system
pub record SaysBoot (files : Option (List ℕ → Option (List ℕ))) (name : List ℕ) (b : Boot) : Type 0 where
  pub bytes : List ℕ
  pub file : HasFile files name most_boot bytes
  pub says : boot_of bytes ≡ Ok b

-- the boot file of this name breaks the rule of this number, at this place
pub record RefusesBoot (files : Option (List ℕ → Option (List ℕ))) (name : List ℕ) (number place : ℕ) : Type 0 where
  pub bytes : List ℕ
  pub file : HasFile files name most_boot bytes
  pub rule : BootRule
  pub refused : boot_of bytes ≡ Err (rule, place)
  pub number_is : number ≡ rule_number rule

-- the schedule of this name says these directives for so many machines
pub record SaysDirectives (files : Option (List ℕ → Option (List ℕ))) (name : List ℕ) (machines : ℕ) (ds : List Directive) : Type 0 where
  pub bytes : List ℕ
  pub file : HasFile files name most_schedule bytes
  pub says : directives_of bytes machines ≡ Accepted ds

-- the schedule of this name is refused at a line, for a reason
pub record RefusesSchedule (files : Option (List ℕ → Option (List ℕ))) (name : List ℕ) (machines line why : ℕ) : Type 0 where
  pub bytes : List ℕ
  pub file : HasFile files name most_schedule bytes
  pub fault : LineFault
  pub refused : directives_of bytes machines ≡ Refused line fault
  pub why_is : why ≡ number_of_fault fault

-- why the boot file of this name gives no system
abbrev pub NoBoot : Option (List ℕ → Option (List ℕ)) → List ℕ → ℕ → ℕ → Status → Type 0
NoBoot files name old new (status.ReadFault input.Boot) = RoseOrFull old new
NoBoot files name old new (status.NoMemory lack) = ⊤
NoBoot files name old new (status.BootRefused number place) = RefusesBoot files name number place
NoBoot files name old new (status.TooLong input.Boot) = IsLonger files name most_boot
NoBoot files name old new _ = ⊥

-- why the schedule of this name gives no directives
abbrev pub NoDirectives : Option (List ℕ → Option (List ℕ)) → List ℕ → ℕ → ℕ → ℕ → Status → Type 0
NoDirectives files name machines old new (status.ReadFault input.Schedule) = RoseOrFull old new
NoDirectives files name machines old new (status.NoMemory lack) = ⊤
NoDirectives files name machines old new (status.ScheduleRefused line why) = RefusesSchedule files name machines line why
NoDirectives files name machines old new (status.TooLong input.Schedule) = IsLonger files name most_schedule
NoDirectives files name machines old new _ = ⊥

-- the boot file says a system, and the schedule is at fault
pub record AfterBoot (files : Option (List ℕ → Option (List ℕ))) (boot : List ℕ) (Holds : ℕ → Type 0) : Type 0 where
  pub b : Boot
  pub says : SaysBoot files boot b
  pub holds : Holds (length b.machines)

-- why files of these names give no run: the first that is at fault
abbrev pub NoFiles : Option (List ℕ → Option (List ℕ)) → List ℕ → List ℕ → ℕ → ℕ → Status → Type 0
NoFiles files boot schedule old new (status.ReadFault input.Boot) = RoseOrFull old new
NoFiles files boot schedule old new (status.ReadFault input.Schedule) = AfterBoot files boot (λ machines. RoseOrFull old new)
NoFiles files boot schedule old new (status.NoMemory lack) = ⊤
NoFiles files boot schedule old new (status.BootRefused number place) = RefusesBoot files boot number place
NoFiles files boot schedule old new (status.ScheduleRefused line why) = AfterBoot files boot (λ machines. RefusesSchedule files schedule machines line why)
NoFiles files boot schedule old new (status.TooLong input.Boot) = IsLonger files boot most_boot
NoFiles files boot schedule old new (status.TooLong input.Schedule) = AfterBoot files boot (λ machines. IsLonger files schedule most_schedule)
NoFiles files boot schedule old new _ = ⊥

-- files of these names say this system and these directives
pub record AcceptsFiles (files : Option (List ℕ → Option (List ℕ))) (boot schedule : List ℕ) (b : Boot) (ds : List Directive) : Type 0 where
  pub says_boot : SaysBoot files boot b
  pub says_directives : SaysDirectives files schedule (length b.machines) ds
