-- What the parts of the checker say of the verdict on a text.
use Rattle.std.specs.Prelude.{◌≡◌, ⊤, ℕ, Bool, true, false, List, [], ◌∷◌, codes}
use Rattle.std.specs.Str.{bytes_eq}
use Rattle.std.specs.declared.option.Option.{Option}
use Rattle.std.specs.declared.option.Option.TheVariants.{None, Some}
use Rattle.dm_schedule.specs.declared.Step.{Step}
use Rattle.dm_text.specs.Reading.{pieces}
use Rattle.dm_shape.specs.Heads.{head_step}
use Rattle.dm_shape.specs.Shapes.{has_shape}
use Rattle.dm_check.specs.declared.fault.TraceFault.{TraceFault}
use Rattle.dm_check.specs.declared.fault.TraceFault.TheVariants.{NotALine}
use Rattle.dm_check.specs.declared.stop.CheckError.{CheckError}
use Rattle.dm_check.specs.declared.stop.CheckError.TheVariants as no
use Rattle.dm_check.specs.declared.told.Other.{Other}
use Rattle.dm_check.specs.declared.told.Other.TheVariants as other
use Rattle.dm_check.specs.declared.follow.Standing.{Standing}
use Rattle.dm_check.specs.declared.follow.Standing.TheVariants as standing
use Rattle.dm_check.specs.Judge.{Course, Verdict, Refused, Due, Nothing, Judgement, Stands, Falls, text_ended, judged_from, taken}

-- what the code says of a line
abbrev pub fault_of : TraceFault → Judgement
fault_of f = Falls f

abbrev pub taken_of : Other → Judgement
taken_of (other.Fewer p) = Stands (Nothing p)
taken_of (other.Falls f) = Falls f

-- the first of some pieces, if another one follows: a line feed stands behind it
abbrev pub first_line : List (List ℕ) → Option (List ℕ)
first_line [] = None
first_line (l ∷ []) = None
first_line (l ∷ m ∷ others) = Some l

abbrev pub head_of_line : Option (List ℕ) → Option Step
head_of_line None = None
head_of_line (Some l) = head_step l

abbrev pub is_final : Option (List ℕ) → Bool
is_final None = false
is_final (Some l) = bytes_eq l (codes "final")

-- what stands at the beginning of a text
abbrev pub StandsAs : List ℕ → Standing → Type 0
StandsAs text standing.Nothing = text ≡ []
StandsAs text (standing.Line l others) = (pieces 10 text ≡ l.now ∷ pieces 10 others.now) × (has_shape l.now ≡ true)
StandsAs text standing.NoLine = (c : Course) (due : Due) (number : ℕ) → judged_from c due number (pieces 10 text) ≡ Refused number NotALine

-- each line of the format falls by this fault where a text begins, and so does the end of the text
pub record FallsBy (c : Course) (due : Due) (number : ℕ) (text : List ℕ) (fault : TraceFault) : Type 0 where
  pub ends : text ≡ [] → text_ended due number ≡ Refused number fault
  pub lines : (l : List ℕ) → first_line (pieces 10 text) ≡ Some l → taken c due l ≡ Falls fault

-- a refusal is the verdict; want of memory says nothing
abbrev pub RefusedSo : Verdict → CheckError → Type 0
RefusedSo v (no.Refused line fault) = v ≡ Refused line fault
RefusedSo v (no.NoMemory lack) = ⊤
