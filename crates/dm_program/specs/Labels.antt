-- What `check` says of the labels of what `run` wrote.
use Rattle.std.specs.Prelude.{◌≡◌, ◌≤◌, ◌⊎◌, ℕ, List, [], ◌++◌, length}
use Rattle.std.specs.List.{All}
use Rattle.std.specs.declared.option.Option.{Option}
use Rattle.std.specs.declared.option.Option.TheVariants.{Some}
use Rattle.dm_outside.specs.Outside.{appended}
use Rattle.dm_line.specs.declared.end_line.EndLine.{EndLine}
use Rattle.dm_line.specs.declared.line.Line.{Line}
use Rattle.dm_law_rule.specs.Point.{labels}
use Rattle.dm_text.specs.Fits.{EndFits, LineFits}
use Rattle.dm_text.specs.Text.{text_of_ends, text_of_lines}
use Rattle.dm_labels.specs.Printed.{text_of_labels}
use Rattle.dm_ending.specs.declared.status.Status.{Status}
use Rattle.dm_ending.specs.declared.status.Status.TheVariants.{Done, Worn}
use Rattle.dm_ending.specs.Status.{IsWant}
use Rattle.dm_cmd_check.specs.LabelChecks.{good_labels_line, most_labels}
use Rattle.dm_front.specs.Outside.{NeverFails, Outside}
use Rattle.dm_cmd_run.specs.Runs.{RunSays}
use Rattle.dm_front.specs.Runs.{SaysRun}
use Rattle.dm_cmd_check.specs.Promises.{LabelsAreDecided}
use Rattle.dm_program.specs.Printed.{by_rule}

-- the labels among the lines that a run has written, from nothing on, are those that are checked, a line each, with the same boot file
pub record KeepsLabels (boot kept : List ℕ) (run check : Outside) : Type 0 where
  pub files : List ℕ → Option (List ℕ)
  pub later : List ℕ → Option (List ℕ)
  pub at_run : run.files ≡ Some files
  pub at_check : check.files ≡ Some later
  pub boot_is : later boot ≡ files boot
  pub from_nothing : run.before ≡ Some []
  pub labels_are : (lines : List Line) (ends : List EndLine) → All LineFits lines → All EndFits ends → run.after ≡ Some (text_of_lines lines ++ text_of_ends ends) → later kept ≡ Some (text_of_labels (labels lines))
  pub short : (bytes : List ℕ) → later kept ≡ Some bytes → length bytes ≤ most_labels

-- it was said that so many labels are good
pub record SaysLabelsAre (o : Outside) (s : Status) : Type 0 where
  pub count : ℕ
  pub done : s ≡ Done
  pub said : o.after ≡ appended o.before (good_labels_line count)

-- the labels of a run that came to its end, or that stopped at two machines that count as many messages as they may, are good
abbrev pub LabelsCheck : Status → Type 0
LabelsCheck ended =
    (boot schedule kept : List ℕ) (run check : Outside) (s : Status) → SaysRun (RunSays by_rule) boot schedule run ended → KeepsLabels boot kept run check → LabelsAreDecided boot kept check s → NeverFails check → SaysLabelsAre check s ⊎ IsWant s

pub record RunLabelsCheck : Type 0 where
  pub done : LabelsCheck Done
  pub worn : (from to : ℕ) → LabelsCheck (Worn from to)
