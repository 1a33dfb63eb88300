-- What the command `explain` promises of a trace: with each status that it ends with, why it comes and what was written by then.
use Rattle.std.specs.Prelude.{◌≡◌, ◌⊎◌, ℕ, Bool, List}
use Rattle.std.specs.declared.option.Option.{Option}
use Rattle.std.specs.declared.option.Option.TheVariants.{None}
use Rattle.dm_onekernel.specs.declared.boot.Boot.{Boot}
use Rattle.dm_onekernel.specs.Boot.{IsValid}
use Rattle.dm_check.specs.Faults.{number_of_trace_fault}
use Rattle.dm_check.specs.Judge.{Refused}
use Rattle.dm_check.specs.declared.refusal.Refusal.{Refusal}
use Rattle.dm_judge.specs.Refusals.{refusal_told}
use Rattle.dm_ending.specs.declared.status.Input.TheVariants as input
use Rattle.dm_ending.specs.declared.status.Status.{Status}
use Rattle.dm_ending.specs.declared.status.Status.TheVariants.{Done, BootRefused, TraceRefused}
use Rattle.dm_front.specs.Asked.{Both}
use Rattle.dm_cmd_check.specs.Checks.{HasTrace, IsGoodTrace, NoTrace, TraceMeans, good_line}
use Rattle.dm_front.specs.Told.{ExplainsBroken, Wrote}
use Rattle.dm_front.specs.Meets.{MeetsOutside}
use Rattle.dm_front.specs.Outside.{Around, Never, Outside, outside}
use Rattle.dm_world.specs.declared.world.World.{World}
use Rattle.dm_front.specs.Told.{IsUntold}

-- a trace is good, and that is said
pub record TellsGood (m : TraceMeans) (b : Boot) (bytes text : List ℕ) : Type 0 where
  pub groups : ℕ
  pub ended : Bool
  pub good : IsGoodTrace m b bytes groups ended
  pub text_is : text ≡ good_line groups ended

-- it is refused at a line, for a reason, and what was due there is said
pub record TellsRefusal (m : TraceMeans) (b : Boot) (bytes : List ℕ) (line why : ℕ) (text : List ℕ) : Type 0 where
  pub refusal : Refusal
  pub refused : m.comes_to b bytes (Refused refusal.line refusal.fault)
  pub due : m.due_in b bytes refusal.line refusal.due
  pub line_is : line ≡ refusal.line
  pub why_is : why ≡ number_of_trace_fault refusal.fault
  pub text_is : text ≡ refusal_told bytes refusal

-- how a check of a trace ends, and what is said of it
abbrev pub TellsTrace : TraceMeans → Boot → List ℕ → Status → List ℕ → Type 0
TellsTrace m b bytes Done text = TellsGood m b bytes text
TellsTrace m b bytes (TraceRefused line why) text = TellsRefusal m b bytes line why text
TellsTrace m b bytes _ text = ⊥

-- of that of the second name, for the system of the boot file of the first
pub record TellsJudged (m : TraceMeans) (files : Option (List ℕ → Option (List ℕ))) (boot trace : List ℕ) (due : Status) (text : List ℕ) : Type 0 where
  pub system : Boot
  pub bytes : List ℕ
  pub has : HasTrace files boot trace system bytes
  pub valid : IsValid system
  pub tells : TellsTrace m system bytes due text

-- a boot file that breaks a rule is told as without a trace
abbrev pub JudgeTells : TraceMeans → Option (List ℕ → Option (List ℕ)) → List ℕ → List ℕ → Status → List ℕ → Type 0
JudgeTells m files boot trace (BootRefused number place) text = ExplainsBroken files boot number place text
JudgeTells m files boot trace due text = TellsJudged m files boot trace due text

-- files were judged
pub record Judges (m : TraceMeans) (boot trace : List ℕ) (o : Outside) (s : Status) : Type 0 where
  pub due : Status
  pub text : List ℕ
  pub tells : JudgeTells m o.files boot trace due text
  pub wrote : Wrote due text o.before o.after o.writes_before o.writes_after s

-- or none were, for a reason of which nothing is said
pub record NoneJudged (files : Option (List ℕ → Option (List ℕ))) (boot trace : List ℕ) (old new : ℕ) (s : Status) : Type 0 where
  pub why : NoTrace files boot trace old new s
  pub silent : IsUntold s

abbrev pub SaysJudged : TraceMeans → List ℕ → List ℕ → Outside → Status → Type 0
SaysJudged m boot trace o s = Judges m boot trace o s ⊎ Never (NoneJudged o.files boot trace) o s

-- all that the command promises, with files of these names
pub record JudgeMeets (m : TraceMeans) {F K : Type 0} (boot trace : List ℕ) (a : Around F K) (world : Option World) (s : Status) : Type 0 where
  pub says : SaysJudged m boot trace (outside a world) s
  pub no_world : world ≡ None
  pub met : MeetsOutside (Both boot input.Trace trace) a s
