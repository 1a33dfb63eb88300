-- What the commands promise that judge a trace or labels, and that the files decide what comes of it, where no read and no write fails and
-- memory is there.
use Rattle.std.specs.Prelude.{◌≡◌, ⊤, ℕ, ◌⊎◌, Bool, List, []}
use Rattle.std.specs.declared.option.Option.{Option}
use Rattle.std.specs.declared.option.Option.TheVariants.{Some}
use Rattle.dm_onekernel.specs.declared.boot.Boot.{Boot}
use Rattle.dm_outside.specs.Outside.{appended}
use Rattle.dm_check.specs.Good.{good_verdict}
use Rattle.dm_labels.specs.Judged.{judged}
use Rattle.dm_labels.specs.declared.judge.Verdict.{Verdict}
use Rattle.dm_labels.specs.declared.judge.Verdict.TheVariants as labelled
use Rattle.dm_ending.specs.declared.status.Input.TheVariants as input
use Rattle.dm_ending.specs.declared.status.Status.{Status}
use Rattle.dm_ending.specs.declared.status.Status.TheVariants.{Done, LabelsRefused, TraceRefused}
use Rattle.dm_ending.specs.Status.{IsWant}
use Rattle.dm_front.specs.Asked.{Both}
use Rattle.dm_front.specs.Firsts.{FirstOfBoot}
use Rattle.dm_front.specs.Outside.{NeverFails, NeverReadsBadly, Outside}
use Rattle.dm_front.specs.Promise.{Promise}
use Rattle.dm_cmd_check.specs.Checks.{CheckMeets, CheckSays, HasTrace, RefusesTrace, TraceMeans, good_line}
use Rattle.dm_cmd_check.specs.Judges.{JudgeMeets}
use Rattle.dm_cmd_check.specs.LabelChecks.{HasLabels, LabelsMeet, good_labels_line}

-- what files of these names come to, whoever asks: good, or refused
pub record GivesGood (m : TraceMeans) (files : List ℕ → Option (List ℕ)) (boot trace : List ℕ) (groups : ℕ) (ended : Bool) : Type 0 where
  pub system : Boot
  pub bytes : List ℕ
  pub has : HasTrace (Some files) boot trace system bytes
  pub good : m.comes_to system bytes (good_verdict groups ended)

pub record GivesRefused (m : TraceMeans) (files : List ℕ → Option (List ℕ)) (boot trace : List ℕ) (line why : ℕ) : Type 0 where
  pub system : Boot
  pub bytes : List ℕ
  pub has : HasTrace (Some files) boot trace system bytes
  pub refused : RefusesTrace m system bytes line why

-- what is good by the verdict checks as good, and that is said, unless memory lacks
abbrev pub Accepts : TraceMeans → List ℕ → List ℕ → Outside → Status → Type 0
Accepts m boot trace o s =
    (files : List ℕ → Option (List ℕ)) (groups : ℕ) (ended : Bool) → o.files ≡ Some files → GivesGood m files boot trace groups ended → NeverFails o
    → ((s ≡ Done) × (o.after ≡ appended o.before (good_line groups ended))) ⊎ IsWant s

-- others are refused at their first bad line
abbrev pub Finds : TraceMeans → List ℕ → List ℕ → Outside → Status → Type 0
Finds m boot trace o s =
    (files : List ℕ → Option (List ℕ)) (line why : ℕ) → o.files ≡ Some files → GivesRefused m files boot trace line why → NeverReadsBadly o → (s ≡ TraceRefused line why) ⊎ IsWant s

-- so it is with a trace
pub record CheckIsDecided (m : TraceMeans) (boot trace : List ℕ) (o : Outside) (s : Status) : Type 0 where
  pub accepts : Accepts m boot trace o s
  pub finds : Finds m boot trace o s

-- what files of these names come to as labels, whoever asks
pub record GivesLabels (files : List ℕ → Option (List ℕ)) (boot labels : List ℕ) (verdict : Verdict) : Type 0 where
  pub system : Boot
  pub bytes : List ℕ
  pub has : HasLabels (Some files) boot labels system bytes
  pub judged_so : judged system bytes ≡ verdict

-- so it is with labels: those that are steps are good, and others are refused at the first line that isn't one, unless memory lacks
pub record LabelsAreDecided (boot labels : List ℕ) (o : Outside) (s : Status) : Type 0 where
  pub accepts : (files : List ℕ → Option (List ℕ)) (n : ℕ) → o.files ≡ Some files → GivesLabels files boot labels (labelled.Good n) → NeverFails o
      → ((s ≡ Done) × (o.after ≡ appended o.before (good_labels_line n))) ⊎ IsWant s
  pub finds : (files : List ℕ → Option (List ℕ)) (line : ℕ) → o.files ≡ Some files → GivesLabels files boot labels (labelled.Refused line) → NeverReadsBadly o → (s ≡ LabelsRefused line) ⊎ IsWant s

-- a trace is checked
abbrev pub check_promise : TraceMeans → List ℕ → List ℕ → Promise
check_promise m boot trace = record {
  names = Both boot input.Trace trace;
  meets = λ a world s. CheckMeets (CheckSays m) boot trace a world s;
  first = λ files s said. FirstOfBoot files boot s said;
  refuses = λ files. ⊥;
  decided = λ o s. CheckIsDecided m boot trace o s;
}

-- labels are checked
abbrev pub labels_promise : List ℕ → List ℕ → Promise
labels_promise boot labels = record {
  names = Both boot input.Labels labels;
  meets = λ a world s. LabelsMeet boot labels a world s;
  first = λ files s said. FirstOfBoot files boot s said;
  refuses = λ files. ⊥;
  decided = λ o s. LabelsAreDecided boot labels o s;
}

-- a trace is checked, and what was due is said: what it comes to is among that
abbrev pub judge_promise : TraceMeans → List ℕ → List ℕ → Promise
judge_promise m boot trace = record {
  names = Both boot input.Trace trace;
  meets = λ a world s. JudgeMeets m boot trace a world s;
  first = λ files s said. said ≡ [];
  refuses = λ files. ⊥;
  decided = λ o s. ⊤;
}
