-- What is said before the line of the status of a boot file or a schedule that is refused: what `explain` says first of it, and
-- whose name stands where a process's number must.
use Rattle.std.specs.Prelude.{◌≡◌, ℕ, ◌+◌, List, [], ◌++◌, length, take}
use Rattle.std.specs.List.{position}
use Rattle.std.specs.declared.option.Option.{Option}
use Rattle.std.specs.declared.option.Option.TheVariants.{None, Some}
use Rattle.dm_reading.specs.Lines.{ends_line}
use Rattle.dm_onekernel.specs.declared.boot.Boot.{Boot}
use Rattle.dm_schedule.specs.declared.LineFault.{LineFault}
use Rattle.dm_schedule.specs.Schedule.{Refused, directives_of, number_of_fault}
use Rattle.dm_explain.specs.declared.explain.BootTold.{BootTold}
use Rattle.dm_explain.specs.declared.explain.BootTold.TheVariants as boot_told
use Rattle.dm_explain.specs.declared.explain.ScheduleTold.{ScheduleTold}
use Rattle.dm_explain.specs.declared.explain.ScheduleTold.TheVariants as schedule_told
use Rattle.dm_explain.specs.Naming.{name_told}
use Rattle.dm_explain.specs.Schedules.{line_told}
use Rattle.dm_ending.specs.declared.status.Status.{Status}
use Rattle.dm_ending.specs.declared.status.Status.TheVariants.{Done, Usage, ReadFault, NoMemory, WriteFault, BootRefused, ScheduleRefused, TooLong, Worn, TraceRefused, LabelsRefused, NotFound, Undecided}
use Rattle.dm_front.specs.Told.{ExplainsBroken}
use Rattle.dm_front.specs.Inputs.{HasFile, SaysBoot, most_schedule}

-- the first line of a text, with its line feed
abbrev pub up_to : List ℕ → Option ℕ → List ℕ
up_to text None = text
up_to text (Some end) = take (end + 1) text

unfoldable pub first_line : List ℕ → List ℕ
first_line text = up_to text (position ends_line text)

-- the text of what is said of a boot file, and of a schedule
abbrev pub boot_text : BootTold → List ℕ
boot_text (boot_told.System b text) = text.items
boot_text (boot_told.Refused rule place text) = text.items

abbrev pub schedule_text : ScheduleTold → List ℕ
schedule_text (schedule_told.Directives ds text) = text.items
schedule_text (schedule_told.Refused line fault text) = text.items

-- the first line of such a text
pub record FirstTold (Says : List ℕ → Type 0) (said : List ℕ) : Type 0 where
  pub text : List ℕ
  pub told : Says text
  pub first : said ≡ first_line text

-- the boot file of this name breaks the rule of this number at this place
abbrev pub FirstOfBroken : Option (List ℕ → Option (List ℕ)) → List ℕ → ℕ → ℕ → List ℕ → Type 0
FirstOfBroken files name number place said = FirstTold (λ text. ExplainsBroken files name number place text) said

-- the schedule of this name is refused at this line, for this system: the first line that is said of that, and whose name stands where
-- a process's number must
pub record FirstOfLine (files : Option (List ℕ → Option (List ℕ))) (name : List ℕ) (b : Boot) (line why : ℕ) (said : List ℕ) : Type 0 where
  pub bytes : List ℕ
  pub is : HasFile files name most_schedule bytes
  pub fault : LineFault
  pub refused : directives_of bytes (length b.machines) ≡ Refused line fault
  pub why_is : why ≡ number_of_fault fault
  pub first : said ≡ first_line (line_told bytes (length b.machines) line fault) ++ name_told b bytes line fault

-- the same of the names of both files
pub record FirstOfSecond (files : Option (List ℕ → Option (List ℕ))) (boot schedule : List ℕ) (line why : ℕ) (said : List ℕ) : Type 0 where
  pub system : Boot
  pub says : SaysBoot files boot system
  pub told : FirstOfLine files schedule system line why said

-- what is said of a boot file alone, of a schedule for a system, and of both: nothing where none is refused
abbrev pub FirstOfBoot : Option (List ℕ → Option (List ℕ)) → List ℕ → Status → List ℕ → Type 0
FirstOfBoot files name Done said = said ≡ []
FirstOfBoot files name Usage said = said ≡ []
FirstOfBoot files name (ReadFault i) said = said ≡ []
FirstOfBoot files name (NoMemory lack) said = said ≡ []
FirstOfBoot files name WriteFault said = said ≡ []
FirstOfBoot files name (BootRefused number place) said = FirstOfBroken files name number place said
FirstOfBoot files name (ScheduleRefused line why) said = said ≡ []
FirstOfBoot files name (TooLong i) said = said ≡ []
FirstOfBoot files name (Worn from to) said = said ≡ []
FirstOfBoot files name (TraceRefused line why) said = said ≡ []
FirstOfBoot files name (LabelsRefused line) said = said ≡ []
FirstOfBoot files name NotFound said = said ≡ []
FirstOfBoot files name Undecided said = said ≡ []

abbrev pub FirstOfSchedule : Option (List ℕ → Option (List ℕ)) → List ℕ → Boot → Status → List ℕ → Type 0
FirstOfSchedule files name b Done said = said ≡ []
FirstOfSchedule files name b Usage said = said ≡ []
FirstOfSchedule files name b (ReadFault i) said = said ≡ []
FirstOfSchedule files name b (NoMemory lack) said = said ≡ []
FirstOfSchedule files name b WriteFault said = said ≡ []
FirstOfSchedule files name b (BootRefused number place) said = said ≡ []
FirstOfSchedule files name b (ScheduleRefused line why) said = FirstOfLine files name b line why said
FirstOfSchedule files name b (TooLong i) said = said ≡ []
FirstOfSchedule files name b (Worn from to) said = said ≡ []
FirstOfSchedule files name b (TraceRefused line why) said = said ≡ []
FirstOfSchedule files name b (LabelsRefused line) said = said ≡ []
FirstOfSchedule files name b NotFound said = said ≡ []
FirstOfSchedule files name b Undecided said = said ≡ []

abbrev pub FirstOfFiles : Option (List ℕ → Option (List ℕ)) → List ℕ → List ℕ → Status → List ℕ → Type 0
FirstOfFiles files boot schedule Done said = said ≡ []
FirstOfFiles files boot schedule Usage said = said ≡ []
FirstOfFiles files boot schedule (ReadFault i) said = said ≡ []
FirstOfFiles files boot schedule (NoMemory lack) said = said ≡ []
FirstOfFiles files boot schedule WriteFault said = said ≡ []
FirstOfFiles files boot schedule (BootRefused number place) said = FirstOfBroken files boot number place said
FirstOfFiles files boot schedule (ScheduleRefused line why) said = FirstOfSecond files boot schedule line why said
FirstOfFiles files boot schedule (TooLong i) said = said ≡ []
FirstOfFiles files boot schedule (Worn from to) said = said ≡ []
FirstOfFiles files boot schedule (TraceRefused line why) said = said ≡ []
FirstOfFiles files boot schedule (LabelsRefused line) said = said ≡ []
FirstOfFiles files boot schedule NotFound said = said ≡ []
FirstOfFiles files boot schedule Undecided said = said ≡ []
