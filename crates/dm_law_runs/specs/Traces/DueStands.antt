-- What is told as due where a text is refused, by the rule: with that line in its place, no line up to it is refused.
use Rattle.std.specs.Prelude.{◌≡◌, ℕ, zero, suc, ◌<◌, List, [], ◌∷◌, ◌++◌, codes}
use Rattle.std.specs.declared.option.Option.{Option}
use Rattle.std.specs.declared.option.Option.TheVariants.{Some}
use Rattle.dm_onekernel.specs.declared.boot.Boot.{Boot}
use Rattle.dm_onekernel.specs.Options.{bind}
use Rattle.dm_schedule.specs.declared.Step.{Step}
use Rattle.dm_line.specs.declared.end_line.EndLine.{EndLine}
use Rattle.dm_line.specs.declared.line.Line.{Line}
use Rattle.dm_line.specs.Todo.{Two}
use Rattle.dm_law_rule.specs.Point.{first_point}
use Rattle.dm_law_rule.specs.Rule.{group_of}
use Rattle.dm_law_rule.specs.Worn.{worn_in}
use Rattle.dm_text.specs.Fits.{EndFits, LineFits}
use Rattle.dm_text.specs.Reading.{pieces}
use Rattle.dm_text.specs.Text.{end_text, text}
use Rattle.dm_shape.specs.Full.{IsFull}
use Rattle.dm_check.specs.DueThere.{was_due}
use Rattle.dm_check.specs.Judge.{Refused}
use Rattle.dm_check.specs.declared.fault.TraceFault.{TraceFault}
use Rattle.dm_check.specs.declared.refusal.Group.{Group}
use Rattle.dm_check.specs.declared.refusal.WasDue.{WasDue}
use Rattle.dm_check.specs.declared.refusal.WasDue.TheVariants as was
use Rattle.dm_law_runs.specs.Traces.Verdict.{by_rule, led, verdict}

-- the pair that the group of one more directive would wear out, if it would
abbrev pub worn_by_rule : Boot → List Step → Step → Option Two
worn_by_rule b es e = bind (led b (first_point b) es) (λ pt. bind (group_of b pt e) (λ w. worn_in b.numbers pt.view w.lines))

-- what was due in the line of this number of a text, by this boot file
unfoldable pub due_by_rule : Boot → List ℕ → ℕ → Option WasDue
due_by_rule b bytes number = was_due (by_rule b) (worn_by_rule b) bytes number

-- of two texts in pieces between line feeds, the second has so many lines as the first has them, and behind them this one
abbrev pub HasInPlace : ℕ → List ℕ → List (List ℕ) → List (List ℕ) → Type 0
HasInPlace zero line ps [] = ⊥
HasInPlace zero line ps (q ∷ []) = ⊥
HasInPlace zero line ps (q ∷ r ∷ qs) = q ++ codes "\n" ≡ line
HasInPlace (suc n) line [] qs = ⊥
HasInPlace (suc n) line (p ∷ ps) [] = ⊥
HasInPlace (suc n) line (p ∷ ps) (q ∷ qs) = (p ≡ q) × HasInPlace n line ps qs

-- no line of the text is refused up to that of this number
abbrev pub StandsTo : Boot → List ℕ → ℕ → Type 0
StandsTo b bytes number = (n : ℕ) (fault : TraceFault) → verdict b bytes ≡ Refused n fault → number < n

-- a text with the same lines before a line that is refused, and in its place the line that was due there, is refused later, if at
-- all; and where that was due in the line before it, a text with it in the place of that one
pub record DueLinesStand : Type 0 where
  pub line : (b : Boot) (bytes others : List ℕ) (before : ℕ) (l : Line) (g : Group) → due_by_rule b bytes (suc before) ≡ Some (was.Line l g) → LineFits l → HasInPlace before (text l) (pieces 10 bytes) (pieces 10 others) → StandsTo b others (suc before)
  pub in_place : (b : Boot) (bytes others : List ℕ) (before : ℕ) (l : Line) (g : Group) → due_by_rule b bytes (suc (suc before)) ≡ Some (was.Before l g) → LineFits l → HasInPlace before (text l) (pieces 10 bytes) (pieces 10 others) → StandsTo b others (suc before)
  pub end : (b : Boot) (bytes others : List ℕ) (before : ℕ) (e : EndLine) → due_by_rule b bytes (suc before) ≡ Some (was.End e) → EndFits e → IsFull e → HasInPlace before (end_text e) (pieces 10 bytes) (pieces 10 others) → StandsTo b others (suc before)
