-- What is said of a boot file or a schedule that is refused, and that nothing is said otherwise.
use Rattle.dm_front.proofs.Names.{◌≡◌, ℕ, List, [], length, refl, ap, sym, subst, ◌∙◌, Option, None, Some, Result, Ok, Err, Boot, BootRule, BootTold, LineFault, Accepted, Refused, Status, Done, Usage, ReadFault, NoMemory, WriteFault}
use Rattle.dm_front.proofs.Names.{BootRefused, ScheduleRefused, TooLong, Worn, TraceRefused, LabelsRefused, NotFound, Undecided, NoBoot, NoDirectives, SaysBoot, NoFiles, RefusesSchedule, most_schedule, IsLonger, RoseOrFull, boot_of}
use Rattle.dm_front.proofs.Names.{directives_of, ExplainsBoot, ExplainsSchedule, TellsRefused, line_told, ScheduleTold, FirstOfBoot, FirstOfFiles, FirstOfSchedule, boot_text, schedule_text}
use Rattle.dm_ending.specs.declared.status.Input.TheVariants as input
use Rattle.dm_explain.specs.declared.explain.BootTold.TheVariants as boot_told
use Rattle.dm_explain.specs.declared.explain.ScheduleTold.TheVariants as schedule_told
use Rattle.dm_front.proofs.Outcomes.{Files}

-- the rule and the place of a refusal
abbrev refusal_or : BootRule × ℕ → Result Boot (BootRule × ℕ) → BootRule × ℕ
refusal_or other (Ok b) = other
refusal_or other (Err refusal) = refusal

-- what was said of bytes that are refused, is said of the refusal
pub boot_said : (bytes : List ℕ) (rule : BootRule) (place : ℕ) (told : BootTold) → boot_of bytes ≡ Err (rule, place) → ExplainsBoot bytes told → TellsRefused bytes rule place (boot_text told)
boot_said bytes rule place (boot_told.System b text) e h = let f : ◌≡◌ {A = Result Boot (BootRule × ℕ)} (Ok b) (Err (rule, place)) = sym h.says ∙ e in absurd cc
boot_said bytes rule place (boot_told.Refused r p text) e h = subst (λ (x : BootRule × ℕ). TellsRefused bytes x.0 x.1 text.items) (ap (refusal_or (rule, place)) (sym h.refused ∙ e)) h

pub schedule_said : (bytes : List ℕ) (machines line : ℕ) (fault : LineFault) (told : ScheduleTold) → directives_of bytes machines ≡ Refused line fault → ExplainsSchedule bytes machines told → schedule_text told ≡ line_told bytes machines line fault
schedule_said bytes machines line fault (schedule_told.Directives ds text) e h = let f : Accepted ds.items ≡ Refused line fault = sym h.0 ∙ e in absurd cc
schedule_said bytes machines line fault (schedule_told.Refused l x text) e h =
    let f : Refused l x ≡ Refused line fault = sym h.0 ∙ e in
    let at : l ≡ line = cc in
    let same : x ≡ fault = cc in
    h.1 ∙ ap (λ (k : ℕ). line_told bytes machines k x) at ∙ ap (λ (y : LineFault). line_told bytes machines line y) same

-- the boot file is at fault
pub boot_first : (files : Option Files) (boot schedule : List ℕ) (old new : ℕ) (s : Status) (said : List ℕ) → NoBoot files boot old new s → FirstOfBoot files boot s said → FirstOfFiles files boot schedule s said
boot_first files boot schedule old new Done said none h = h
boot_first files boot schedule old new Usage said none h = h
boot_first files boot schedule old new (ReadFault i) said none h = h
boot_first files boot schedule old new (NoMemory lack) said none h = h
boot_first files boot schedule old new WriteFault said none h = h
boot_first files boot schedule old new (BootRefused number place) said none h = h
boot_first files boot schedule old new (ScheduleRefused line why) said none h = absurd none
boot_first files boot schedule old new (TooLong i) said none h = h
boot_first files boot schedule old new (Worn from to) said none h = h
boot_first files boot schedule old new (TraceRefused line why) said none h = h
boot_first files boot schedule old new (LabelsRefused line) said none h = h
boot_first files boot schedule old new NotFound said none h = h
boot_first files boot schedule old new Undecided said none h = h

-- it says a system, and the schedule is at fault
schedule_at : (files : Option Files) (boot schedule : List ℕ) (b : Boot) (old new : ℕ) (s : Status) (said : List ℕ) → SaysBoot files boot b → NoDirectives files schedule (length b.machines) old new s → FirstOfSchedule files schedule b s said → FirstOfFiles files boot schedule s said
schedule_at files boot schedule b old new Done said says none h = h
schedule_at files boot schedule b old new Usage said says none h = h
schedule_at files boot schedule b old new (ReadFault i) said says none h = h
schedule_at files boot schedule b old new (NoMemory lack) said says none h = h
schedule_at files boot schedule b old new WriteFault said says none h = h
schedule_at files boot schedule b old new (BootRefused number place) said says none h = absurd none
schedule_at files boot schedule b old new (ScheduleRefused line why) said says none h = record { system = b; says = says; told = h }
schedule_at files boot schedule b old new (TooLong i) said says none h = h
schedule_at files boot schedule b old new (Worn from to) said says none h = h
schedule_at files boot schedule b old new (TraceRefused line why) said says none h = h
schedule_at files boot schedule b old new (LabelsRefused line) said says none h = h
schedule_at files boot schedule b old new NotFound said says none h = h
schedule_at files boot schedule b old new Undecided said says none h = h

pub schedule_first : (files between : Option Files) (boot schedule : List ℕ) (b : Boot) (old new : ℕ) (s : Status) (said : List ℕ) → SaysBoot files boot b → between ≡ files
    → NoDirectives between schedule (length b.machines) old new s → FirstOfSchedule between schedule b s said → FirstOfFiles files boot schedule s said
schedule_first files between boot schedule b old new s said says same none h =
    schedule_at files boot schedule b old new s said says
    (subst (λ (f : Option Files). NoDirectives f schedule (length b.machines) old new s) same none) (subst (λ (f : Option Files). FirstOfSchedule f schedule b s said) same h)

-- so there is no run
pub schedule_none : (files between : Option Files) (boot schedule : List ℕ) (b : Boot) (old mid new : ℕ) (s : Status) → SaysBoot files boot b → between ≡ files → mid ≡ old
    → NoDirectives between schedule (length b.machines) mid new s → NoFiles files boot schedule old new s
schedule_none files between boot schedule b old mid new Done says is same h = absurd h
schedule_none files between boot schedule b old mid new Usage says is same h = absurd h
schedule_none files between boot schedule b old mid new (ReadFault input.Boot) says is same h = absurd h
schedule_none files between boot schedule b old mid new (ReadFault input.Schedule) says is same h = record { b = b; says = says; holds = subst (λ (n : ℕ). RoseOrFull n new) same h }
schedule_none files between boot schedule b old mid new (ReadFault input.Trace) says is same h = absurd h
schedule_none files between boot schedule b old mid new (ReadFault input.Labels) says is same h = absurd h
schedule_none files between boot schedule b old mid new (NoMemory lack) says is same h = tt
schedule_none files between boot schedule b old mid new WriteFault says is same h = absurd h
schedule_none files between boot schedule b old mid new (BootRefused number place) says is same h = absurd h
schedule_none files between boot schedule b old mid new (ScheduleRefused line why) says is same h =
    record { b = b; says = says; holds = subst (λ (f : Option Files). RefusesSchedule f schedule (length b.machines) line why) is h }
schedule_none files between boot schedule b old mid new (TooLong input.Boot) says is same h = absurd h
schedule_none files between boot schedule b old mid new (TooLong input.Schedule) says is same h = record { b = b; says = says; holds = subst (λ (f : Option Files). IsLonger f schedule most_schedule) is h }
schedule_none files between boot schedule b old mid new (TooLong input.Trace) says is same h = absurd h
schedule_none files between boot schedule b old mid new (TooLong input.Labels) says is same h = absurd h
schedule_none files between boot schedule b old mid new (Worn from to) says is same h = absurd h
schedule_none files between boot schedule b old mid new (TraceRefused line why) says is same h = absurd h
schedule_none files between boot schedule b old mid new (LabelsRefused line) says is same h = absurd h
schedule_none files between boot schedule b old mid new NotFound says is same h = absurd h
schedule_none files between boot schedule b old mid new Undecided says is same h = absurd h

-- nothing is said with a status of which something holds that holds of no refused file
pub silent_boot : (Holds : Status → Type 0) (files : Option Files) (boot : List ℕ) (s : Status) (said : List ℕ) → ((number place : ℕ) → Holds (BootRefused number place) → ⊥) → Holds s → said ≡ [] → FirstOfBoot files boot s said
silent_boot Holds files boot Done said no_boot h e = e
silent_boot Holds files boot Usage said no_boot h e = e
silent_boot Holds files boot (ReadFault i) said no_boot h e = e
silent_boot Holds files boot (NoMemory lack) said no_boot h e = e
silent_boot Holds files boot WriteFault said no_boot h e = e
silent_boot Holds files boot (BootRefused number place) said no_boot h e = absurd (no_boot number place h)
silent_boot Holds files boot (ScheduleRefused line why) said no_boot h e = e
silent_boot Holds files boot (TooLong i) said no_boot h e = e
silent_boot Holds files boot (Worn from to) said no_boot h e = e
silent_boot Holds files boot (TraceRefused line why) said no_boot h e = e
silent_boot Holds files boot (LabelsRefused line) said no_boot h e = e
silent_boot Holds files boot NotFound said no_boot h e = e
silent_boot Holds files boot Undecided said no_boot h e = e

pub silent_files : (Holds : Status → Type 0) (files : Option Files) (boot schedule : List ℕ) (s : Status) (said : List ℕ) → ((number place : ℕ) → Holds (BootRefused number place) → ⊥) → ((line why : ℕ) → Holds (ScheduleRefused line why) → ⊥) → Holds s → said ≡ [] → FirstOfFiles files boot schedule s said
silent_files Holds files boot schedule Done said no_boot no_schedule h e = e
silent_files Holds files boot schedule Usage said no_boot no_schedule h e = e
silent_files Holds files boot schedule (ReadFault i) said no_boot no_schedule h e = e
silent_files Holds files boot schedule (NoMemory lack) said no_boot no_schedule h e = e
silent_files Holds files boot schedule WriteFault said no_boot no_schedule h e = e
silent_files Holds files boot schedule (BootRefused number place) said no_boot no_schedule h e = absurd (no_boot number place h)
silent_files Holds files boot schedule (ScheduleRefused line why) said no_boot no_schedule h e = absurd (no_schedule line why h)
silent_files Holds files boot schedule (TooLong i) said no_boot no_schedule h e = e
silent_files Holds files boot schedule (Worn from to) said no_boot no_schedule h e = e
silent_files Holds files boot schedule (TraceRefused line why) said no_boot no_schedule h e = e
silent_files Holds files boot schedule (LabelsRefused line) said no_boot no_schedule h e = e
silent_files Holds files boot schedule NotFound said no_boot no_schedule h e = e
silent_files Holds files boot schedule Undecided said no_boot no_schedule h e = e
