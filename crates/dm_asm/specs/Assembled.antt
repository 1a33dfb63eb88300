-- The image of a text.
use Rattle.std.specs.Prelude.{ℕ, ◌≡◌, nat_le, ◌+◌, ◌-◌, if◌then◌else◌, Option, Some, Result, Ok, Err, List, [], ◌∷◌, ◌++◌, length, slice_get, take}
use Rattle.dm_reading.specs.Lines.{source_lines}
use Rattle.dm_asm.specs.declared.labels.Place.{Place}
use Rattle.dm_asm.specs.declared.refusals.Why.{Why}
use Rattle.dm_asm.specs.declared.refusals.Why.TheVariants.{TooLong}
use Rattle.dm_asm.specs.declared.refusals.AssembleError.{AssembleError}
use Rattle.dm_asm.specs.declared.refusals.AssembleError.TheVariants.{Fault, NoMemory}
use Rattle.dm_asm.specs.declared.refusals.Stop.{Stop}
use Rattle.dm_asm.specs.declared.refusals.Stop.TheVariants as stops
use Rattle.dm_asm.specs.Places.{line_value, place_from}
use Rattle.dm_asm.specs.Refusals.{◌>>=◌}
use Rattle.dm_asm.specs.Statements.{line_bytes}

-- an image with a line, by its number, if it isn't too long then
unfoldable pub with_line : (List ℕ → Option Place) → ℕ → List ℕ → List ℕ → Result (List ℕ) Why
with_line places number image line = do
  longer ← line_bytes places number (length image) line >>= λ more. Ok (image ++ more)
  if nat_le (length longer) 65536 then Ok longer else Err TooLong

-- what follows an image, or the line with its reason
abbrev pub from_line : ℕ → Result (List ℕ) Why → (List ℕ → Result (List ℕ) (ℕ × Why)) → Result (List ℕ) (ℕ × Why)
from_line number (Ok image) more = more image
from_line number (Err why) more = Err (number, why)

-- an image with lines, or the first line that is refused
abbrev pub with_lines : (List ℕ → Option Place) → ℕ → List ℕ → List (List ℕ) → Result (List ℕ) (ℕ × Why)
with_lines places number image [] = Ok image
with_lines places number image (l ∷ ls) =
    from_line number (with_line places number image l) (λ new. with_lines places (number + 1) new ls)

-- the first line of a text with a label, and its value
unfoldable pub places_of : List ℕ → List ℕ → Option Place
places_of text name = place_from 1 0 (source_lines text) name

-- the image that a text means, or the first line that is refused, with the reason
unfoldable pub assembled : List ℕ → Result (List ℕ) (ℕ × Why)
assembled text = with_lines (places_of text) 1 [] (source_lines text)

-- an answer, seen as an image, is what is meant, unless memory is wanting
abbrev pub Answers : {A : Type 0} → (A → List ℕ) → Result A AssembleError → Result (List ℕ) (ℕ × Why) → Type 0
Answers seen (Ok x) meant = meant ≡ Ok (seen x)
Answers seen (Err (Fault line why)) meant = meant ≡ Err (line, why)
Answers seen (Err (NoMemory _)) meant = Unit {0}

-- why a line stops all
abbrev pub at_line : ℕ → Stop → AssembleError
at_line line (stops.Fault why) = Fault line why
at_line line (stops.NoMemory none) = NoMemory none

-- a place of a text with this image: its value is how many bytes the lines before it make, or what .equ gives there; with these the image begins
pub record StandsBehind (text image : List ℕ) (place : Place) : Type 0 where
  pub before : List ℕ
  pub line : List ℕ
  pub is_line : slice_get (source_lines text) (place.line - 1) ≡ Some line
  pub of_lines : with_lines (places_of text) 1 [] (take (place.line - 1) (source_lines text)) ≡ Ok before
  pub value : place.address ≡ line_value (length before) line
  pub begins : take (length before) image ≡ before
