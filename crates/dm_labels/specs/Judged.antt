-- What labels come to: all are steps, so many, or the first line that is no label, or whose label is no step.
use Rattle.std.specs.Prelude.{ℕ, ◌+◌, if◌then◌else◌, List, [], ◌∷◌}
use Rattle.std.specs.Option.{option_map_or}
use Rattle.std.specs.declared.option.Option.{Option}
use Rattle.std.specs.declared.option.Option.TheVariants.{Some}
use Rattle.dm_reading.specs.Lines.{source_lines}
use Rattle.dm_onekernel.specs.declared.boot.Boot.{Boot}
use Rattle.dm_onekernel.specs.Kernel.{OneKernel}
use Rattle.dm_onekernel.specs.Options.{bind}
use Rattle.dm_onekernel.specs.Start.{start}
use Rattle.dm_onekernel.specs.Step.{step}
use Rattle.dm_labels.specs.declared.judge.Verdict.{Verdict}
use Rattle.dm_labels.specs.declared.judge.Verdict.TheVariants.{Good, Refused}
use Rattle.dm_labels.specs.Labels.{is_skipped, label_of}

-- what a line comes to: nothing where it says nothing, else the step of its label, if it is one
abbrev pub line_step : OneKernel → List ℕ → Option OneKernel
line_step s l = if is_skipped l then Some s else bind (label_of l) (step s)

-- how many labels it has
abbrev pub labels_in : List ℕ → ℕ
labels_in l = if is_skipped l then 0 else 1

-- the lines from number n on, behind so many labels
abbrev pub judged_from : OneKernel → ℕ → ℕ → List (List ℕ) → Verdict
judged_from s n labels [] = Good labels
judged_from s n labels (l ∷ ls) = option_map_or (λ t. judged_from t (n + 1) (labels + labels_in l) ls) (line_step s l) (Refused n)

-- the lines of a text, from the boot file on; they are counted from 1, skipped ones too
abbrev pub judged : Boot → List ℕ → Verdict
judged b text = judged_from (start b) 1 0 (source_lines text)
