-- What the verdict on labels means: a replay of the kernel without machines.
use Rattle.std.specs.Prelude.{◌≡◌, ℕ, ◌+◌, List, [], ◌∷◌, ◌++◌, length, if◌then◌else◌}
use Rattle.std.specs.declared.option.Option.{Option}
use Rattle.std.specs.declared.option.Option.TheVariants.{None, Some}
use Rattle.dm_reading.specs.Lines.{source_lines}
use Rattle.dm_onekernel.specs.declared.boot.Boot.{Boot}
use Rattle.dm_onekernel.specs.declared.label.Label.{Label}
use Rattle.dm_onekernel.specs.Kernel.{OneKernel}
use Rattle.dm_onekernel.specs.Options.{bind}
use Rattle.dm_onekernel.specs.Start.{start}
use Rattle.dm_onekernel.specs.Step.{replay}
use Rattle.dm_labels.specs.declared.judge.Verdict.TheVariants.{Good, Refused}
use Rattle.dm_labels.specs.Judged.{judged, line_step}
use Rattle.dm_labels.specs.Labels.{is_skipped, label_of}

-- the labels that lines say, where each says one or nothing
abbrev pub labels_said : List (List ℕ) → Option (List Label)
labels_said [] = Some []
labels_said (l ∷ ls) = if is_skipped l then labels_said ls else bind (label_of l) (λ x. bind (labels_said ls) (λ xs. Some (x ∷ xs)))

-- lines say labels, so many, whose replay from there leads somewhere
pub record Replays (s : OneKernel) (lines : List (List ℕ)) (n : ℕ) : Type 0 where
  pub said : List Label
  pub says : labels_said lines ≡ Some said
  pub so_many : length said ≡ n
  pub end : OneKernel
  pub leads : replay s said ≡ Some end

-- a line, counted from this number on, is no label, or its label is no step; those before it replay
pub record FallsAt (s : OneKernel) (first : ℕ) (lines : List (List ℕ)) (line : ℕ) : Type 0 where
  pub before : List (List ℕ)
  pub bad : List ℕ
  pub behind : List (List ℕ)
  pub parts : lines ≡ before ++ bad ∷ behind
  pub place : line ≡ first + length before
  pub said : List Label
  pub says : labels_said before ≡ Some said
  pub end : OneKernel
  pub leads : replay s said ≡ Some end
  pub falls : line_step end bad ≡ None

-- labels are good exactly where their replay from the boot file on leads somewhere; else they are refused at the first line that is no
-- label, or whose label is no step
pub record JudgesExactly : Type 0 where
  pub good : (b : Boot) (text : List ℕ) (n : ℕ) → judged b text ≡ Good n → Replays (start b) (source_lines text) n
  pub replays : (b : Boot) (text : List ℕ) (n : ℕ) → Replays (start b) (source_lines text) n → judged b text ≡ Good n
  pub refused : (b : Boot) (text : List ℕ) (line : ℕ) → judged b text ≡ Refused line → FallsAt (start b) 1 (source_lines text) line
