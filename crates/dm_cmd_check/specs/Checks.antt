-- What the command `check` promises: with each status that it ends with, why it comes and what was written by then.
use Rattle.std.specs.Prelude.{◌≡◌, ⊤, ℕ, ◌⊎◌, Bool, true, false, List, ◌++◌, codes}
use Rattle.std.specs.Fmt.{decimal}
use Rattle.std.specs.declared.option.Option.{Option}
use Rattle.std.specs.declared.option.Option.TheVariants.{None, Some}
use Rattle.dm_onekernel.specs.declared.boot.Boot.{Boot}
use Rattle.dm_onekernel.specs.Boot.{IsValid}
use Rattle.dm_outside.specs.Outside.{RoseOrFull, appended}
use Rattle.dm_run.specs.Appended.{IsCutShort}
use Rattle.dm_check.specs.declared.fault.TraceFault.{TraceFault}
use Rattle.dm_check.specs.Faults.{number_of_trace_fault}
use Rattle.dm_check.specs.Good.{good_verdict}
use Rattle.dm_check.specs.Judge.{Refused, Verdict}
use Rattle.dm_check.specs.declared.refusal.WasDue.{WasDue}
use Rattle.dm_ending.specs.declared.status.Input.TheVariants as input
use Rattle.dm_ending.specs.declared.status.Status.{Status}
use Rattle.dm_ending.specs.declared.status.Status.TheVariants as status
use Rattle.dm_front.specs.Asked.{Both}
use Rattle.dm_front.specs.Files.{IsLonger}
use Rattle.dm_front.specs.Inputs.{AfterBoot, HasFile, RefusesBoot, SaysBoot, most_boot}
use Rattle.dm_front.specs.Meets.{MeetsOutside}
use Rattle.dm_front.specs.Outside.{Around, Never, NeverReadsBadly, Outside, outside}
use Rattle.dm_ending.specs.Status.{IsWant}
use Rattle.dm_world.specs.declared.world.World.{World}

-- the most bytes of a trace
abbrev pub most_trace : ℕ
most_trace = 16777216

abbrev pub end_word : Bool → List ℕ
end_word false = codes " open\n"
end_word true = codes " ended\n"

-- the line of a good trace: so many groups, with or without the lines at the end
abbrev pub good_line : ℕ → Bool → List ℕ
good_line groups ended = codes "good " ++ decimal groups ++ end_word ended

-- what a trace of a system comes to: to this verdict; it is that of so many groups, with or without the lines at the end; this was
-- due in the line of this number
pub record TraceMeans : Type 1 where
  pub comes_to : Boot → List ℕ → Verdict → Type 0
  pub is_of : Boot → List ℕ → ℕ → Bool → Type 0
  pub due_in : Boot → List ℕ → ℕ → WasDue → Type 0

-- the trace is good
pub record IsGoodTrace (m : TraceMeans) (b : Boot) (bytes : List ℕ) (groups : ℕ) (ended : Bool) : Type 0 where
  pub verdict : m.comes_to b bytes (good_verdict groups ended)
  pub trace : m.is_of b bytes groups ended

-- and its line was appended
pub record SaysGood (m : TraceMeans) (b : Boot) (bytes : List ℕ) (before after : Option (List ℕ)) : Type 0 where
  pub groups : ℕ
  pub ended : Bool
  pub good : IsGoodTrace m b bytes groups ended
  pub written : after ≡ appended before (good_line groups ended)

-- or begun
pub record BeginsGood (m : TraceMeans) (b : Boot) (bytes : List ℕ) (before after : Option (List ℕ)) : Type 0 where
  pub groups : ℕ
  pub ended : Bool
  pub good : IsGoodTrace m b bytes groups ended
  pub begun : IsCutShort before (good_line groups ended) after

-- the trace is refused at a line, for a reason
pub record RefusesTrace (m : TraceMeans) (b : Boot) (bytes : List ℕ) (line why : ℕ) : Type 0 where
  pub fault : TraceFault
  pub refused : m.comes_to b bytes (Refused line fault)
  pub why_is : why ≡ number_of_trace_fault fault

-- what a status says of a trace and a system, by what the sink told before and after
abbrev pub CheckSaying : Type 1
CheckSaying = Boot → List ℕ → Option (List ℕ) → Option (List ℕ) → Status → Type 0

abbrev pub CheckSays : TraceMeans → CheckSaying
CheckSays m b bytes before after status.Done = SaysGood m b bytes before after
CheckSays m b bytes before after (status.NoMemory lack) = after ≡ before
CheckSays m b bytes before after status.WriteFault = BeginsGood m b bytes before after
CheckSays m b bytes before after (status.TraceRefused line why) = RefusesTrace m b bytes line why × (after ≡ before)
CheckSays m b bytes before after _ = ⊥

-- the boot file of this name says this system, and the trace of that name has these bytes
pub record HasTrace (files : Option (List ℕ → Option (List ℕ))) (boot trace : List ℕ) (b : Boot) (bytes : List ℕ) : Type 0 where
  pub says_boot : SaysBoot files boot b
  pub file : HasFile files trace most_trace bytes

-- a trace was checked
pub record Checks (Says : CheckSaying) (boot trace : List ℕ) (o : Outside) (s : Status) : Type 0 where
  pub system : Boot
  pub bytes : List ℕ
  pub has : HasTrace o.files boot trace system bytes
  pub valid : IsValid system
  pub says : Says system bytes o.before o.after s

-- why the trace of this name can't be had
abbrev pub NoBytes : Option (List ℕ → Option (List ℕ)) → List ℕ → ℕ → ℕ → Status → Type 0
NoBytes files name old new (status.ReadFault input.Trace) = RoseOrFull old new
NoBytes files name old new (status.NoMemory lack) = ⊤
NoBytes files name old new (status.TooLong input.Trace) = IsLonger files name most_trace
NoBytes files name old new _ = ⊥

-- why files of these names give nothing to check: the first that is at fault
abbrev pub NoTrace : Option (List ℕ → Option (List ℕ)) → List ℕ → List ℕ → ℕ → ℕ → Status → Type 0
NoTrace files boot trace old new (status.ReadFault input.Boot) = RoseOrFull old new
NoTrace files boot trace old new (status.ReadFault input.Trace) = AfterBoot files boot (λ machines. RoseOrFull old new)
NoTrace files boot trace old new (status.NoMemory lack) = ⊤
NoTrace files boot trace old new (status.BootRefused number place) = RefusesBoot files boot number place
NoTrace files boot trace old new (status.TooLong input.Boot) = IsLonger files boot most_boot
NoTrace files boot trace old new (status.TooLong input.Trace) = AfterBoot files boot (λ machines. IsLonger files trace most_trace)
NoTrace files boot trace old new _ = ⊥

-- or none was
abbrev pub SaysCheck : CheckSaying → List ℕ → List ℕ → Outside → Status → Type 0
SaysCheck Says boot trace o s = Checks Says boot trace o s ⊎ Never (NoTrace o.files boot trace) o s

-- files that give nothing to check end for the reason that there is, unless memory lacks
abbrev pub CheckRefuses : List ℕ → List ℕ → Outside → Status → Type 0
CheckRefuses boot trace o s =
    (files : List ℕ → Option (List ℕ)) (due : Status) → o.files ≡ Some files
    → NoTrace (Some files) boot trace o.reads_before o.reads_after due → (IsWant due → ⊥) → NeverReadsBadly o → (s ≡ due) ⊎ IsWant s

-- all that the command promises, with files of these names
pub record CheckMeets (Says : CheckSaying) {F K : Type 0} (boot trace : List ℕ) (a : Around F K) (world : Option World) (s : Status) : Type 0 where
  pub says : SaysCheck Says boot trace (outside a world) s
  pub refuses : CheckRefuses boot trace (outside a world) s
  pub no_world : world ≡ None
  pub met : MeetsOutside (Both boot input.Trace trace) a s
