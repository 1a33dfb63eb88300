-- One line more is judged.
use Rattle.std.specs.Prelude.{◌≡◌, ◌≤◌, ◌+◌, ℕ, Bool, true, false, if◌then◌else◌, List, ◌∷◌, length}
use Rattle.std.proofs.Common.{ap, arith, ◌∙◌}
use Rattle.std.specs.Option.{option_map_or}
use Rattle.std.specs.declared.option.Option.{Option}
use Rattle.std.specs.declared.option.Option.TheVariants.{None, Some}
use Rattle.dm_reading.proofs.LineCuts.{source_lines-none}
use Rattle.dm_reading.specs.Lines.{source_lines}
use Rattle.dm_onekernel.specs.declared.boot.Boot.{Boot}
use Rattle.dm_onekernel.specs.declared.label.Label.{Label}
use Rattle.dm_onekernel.specs.Kernel.{OneKernel}
use Rattle.dm_onekernel.specs.Options.{bind}
use Rattle.dm_onekernel.specs.Step.{step}
use Rattle.dm_labels.specs.declared.judge.Verdict.{Verdict}
use Rattle.dm_labels.specs.declared.judge.Verdict.TheVariants.{Good, Refused}
use Rattle.dm_labels.specs.Judged.{judged, judged_from, labels_in, line_step}
use Rattle.dm_labels.specs.Labels.{is_skipped, label_of}
use Rattle.dm_replay.specs.Sound.{IsOf, IsSound}
use Rattle.dm_replay.specs.State.{one_kernel}
use Rattle.dm_replay.specs.declared.kernel.Kernel.{Kernel}

-- so far: what is left is judged as the whole, by a kernel that has taken the labels before; and all counts fit
pub record JudgesSo (b : Boot) (text : List ℕ) (k : Kernel) (line : ℕ) (rest : List ℕ) : Type 0 where
  pub verdict : judged b text ≡ judged_from (one_kernel b k) line k.labels (source_lines rest)
  pub of : IsOf b k
  pub sound : IsSound k.labels k
  pub lines : line + length rest ≤ length text + 1
  pub labels : k.labels + length rest ≤ length text

abbrev by_step : ℕ → ℕ → List ℕ → List (List ℕ) → Option OneKernel → Verdict
by_step n labels l ls o = option_map_or (λ t. judged_from t (n + 1) (labels + labels_in l) ls) o (Refused n)

-- a line that is good
pub goes : (s t : OneKernel) (n labels : ℕ) (l : List ℕ) (ls : List (List ℕ)) → line_step s l ≡ Some t → judged_from s n labels (l ∷ ls) ≡ judged_from t (n + 1) (labels + labels_in l) ls
goes s t n labels l ls e = ap (by_step n labels l ls) e

-- the first that isn't
pub falls : (s : OneKernel) (n labels : ℕ) (l : List ℕ) (ls : List (List ℕ)) → line_step s l ≡ None → judged_from s n labels (l ∷ ls) ≡ Refused n
falls s n labels l ls e = ap (by_step n labels l ls) e

-- nothing is left
pub all_judged : (s : OneKernel) (n labels : ℕ) (rest : List ℕ) → length rest ≡ 0 → judged_from s n labels (source_lines rest) ≡ Good labels
all_judged s n labels rest none = ap (judged_from s n labels) (source_lines-none rest none)

-- what a line comes to
pub nothing_said : (s : OneKernel) (l : List ℕ) → is_skipped l ≡ true → line_step s l ≡ Some s
nothing_said s l e = ap (λ c. if c then Some s else bind (label_of l) (step s)) e

pub label_said : (s : OneKernel) (l : List ℕ) (o : Option Label) → is_skipped l ≡ false → label_of l ≡ o → line_step s l ≡ bind o (step s)
label_said s l o e is = ap (λ c. if c then Some s else bind (label_of l) (step s)) e ∙ ap (λ o. bind o (step s)) is

pub none_in : (l : List ℕ) → is_skipped l ≡ true → labels_in l ≡ 0
none_in l e = ap (λ c. if c then 0 else 1) e

pub one_in : (l : List ℕ) → is_skipped l ≡ false → labels_in l ≡ 1
one_in l e = ap (λ c. if c then 0 else 1) e

pub at_most_one : (l : List ℕ) → labels_in l ≤ 1
at_most_one l = by (is_skipped l)
  where
    by : (c : Bool) → (if c then 0 else 1) ≤ 1
    by true = omega arith
    by false = omega arith
