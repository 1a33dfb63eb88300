-- A refused text is refused at its first bad line.
use Rattle.std.specs.Prelude.{◌≡◌, ℕ, zero, suc, ◌+◌, ◌≤◌, ◌==◌, false, List, [], ◌∷◌, length}
use Rattle.dm_onekernel.specs.declared.boot.Boot.{Boot}
use Rattle.dm_text.specs.Reading.{pieces}
use Rattle.dm_shape.specs.Shapes.{has_shape}
use Rattle.dm_check.specs.declared.fault.TraceFault.{TraceFault}
use Rattle.dm_check.specs.declared.fault.TraceFault.TheVariants.{NotALine}
use Rattle.dm_check.specs.Judge.{Refused}
use Rattle.dm_law_runs.specs.Traces.Verdict.{verdict}

-- two texts, in pieces between line feeds, begin with the same lines, so many, each with its line feed
abbrev pub AreSame : ℕ → List (List ℕ) → List (List ℕ) → Type 0
AreSame zero ps qs = (ps ≡ [] → ⊥) × (qs ≡ [] → ⊥)
AreSame (suc n) [] qs = ⊥
AreSame (suc n) (p ∷ ps) [] = ⊥
AreSame (suc n) (p ∷ ps) (q ∷ qs) = (p ≡ q) × AreSame n ps qs

-- behind so many lines stands one that has no shape, or bytes without a line feed
abbrev pub IsNoLine : ℕ → List (List ℕ) → Type 0
IsNoLine n [] = ⊥
IsNoLine zero (p ∷ []) = (length p == 0) ≡ false
IsNoLine zero (p ∷ q ∷ ps) = has_shape p ≡ false
IsNoLine (suc n) (p ∷ ps) = IsNoLine n ps

-- it is refused at this line, and nothing behind that one can help: so is each text that begins with the same lines up to it. It
-- isn't a line of the format exactly where it has no shape, or no line feed
pub record IsFirstBad (b : Boot) (bytes : List ℕ) (line : ℕ) (fault : TraceFault) : Type 0 where
  pub counted : 1 ≤ line
  pub same : (others : List ℕ) → AreSame line (pieces 10 bytes) (pieces 10 others) → verdict b others ≡ Refused line fault
  pub no_line : (before : ℕ) → before + 1 ≡ line → fault ≡ NotALine → IsNoLine before (pieces 10 bytes)
  pub only_so : (before : ℕ) → before + 1 ≡ line → IsNoLine before (pieces 10 bytes) → fault ≡ NotALine

abbrev pub RefusalsAreFirst : Type 0
RefusalsAreFirst = (b : Boot) (bytes : List ℕ) (line : ℕ) (fault : TraceFault) → verdict b bytes ≡ Refused line fault → IsFirstBad b bytes line fault
