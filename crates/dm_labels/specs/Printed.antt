-- Labels as they are printed: a line each.
use Rattle.std.specs.Prelude.{◌≡◌, ℕ, List, length, map}
use Rattle.std.specs.List.{All}
use Rattle.std.specs.declared.option.Option.TheVariants.{Some}
use Rattle.dm_onekernel.specs.declared.boot.Boot.{Boot}
use Rattle.dm_onekernel.specs.declared.label.Label.{Label}
use Rattle.dm_onekernel.specs.Kernel.{OneKernel}
use Rattle.dm_onekernel.specs.Start.{start}
use Rattle.dm_onekernel.specs.Step.{replay}
use Rattle.dm_line.specs.declared.line.Line.{Line}
use Rattle.dm_line.specs.declared.line.Line.TheVariants as line
use Rattle.dm_text.specs.Fits.{LineFits}
use Rattle.dm_text.specs.Text.{text_of_lines}
use Rattle.dm_labels.specs.declared.judge.Verdict.TheVariants.{Good}
use Rattle.dm_labels.specs.Judged.{judged}

abbrev pub label_lines : List Label → List Line
label_lines xs = map (λ x. line.Label x) xs

-- their text
abbrev pub text_of_labels : List Label → List ℕ
text_of_labels xs = text_of_lines (label_lines xs)

-- the labels of a run of the kernel without machines are good, as they are printed
abbrev pub PrintedAreGood : Type 0
PrintedAreGood = (b : Boot) (xs : List Label) (end : OneKernel) → All LineFits (label_lines xs) → replay (start b) xs ≡ Some end → judged b (text_of_labels xs) ≡ Good (length xs)
