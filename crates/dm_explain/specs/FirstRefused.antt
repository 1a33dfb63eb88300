-- The first line of an image's text that is refused.
use Rattle.std.specs.Prelude.{ℕ, ◌+◌, List, [], ◌∷◌, Option, None, Some, Result, Ok, Err}
use Rattle.dm_asm.specs.declared.labels.Place.{Place}
use Rattle.dm_asm.specs.declared.refusals.Why.{Why}
use Rattle.dm_asm.specs.Places.{line_size}
use Rattle.dm_explain.specs.TextFaults.{line_why}

-- a line that is refused, by its number, or a later one
abbrev pub refused_or : Option Why → ℕ → Option (ℕ × Why) → Option (ℕ × Why)
refused_or None number later = later
refused_or (Some why) number later = Some (number, why)

-- the first of these lines that is refused, with the reason; they begin with this line at this address
abbrev pub first_refused : (List ℕ → Option Place) → ℕ → ℕ → List (List ℕ) → Option (ℕ × Why)
first_refused places number at [] = None
first_refused places number at (l ∷ ls) = refused_or (line_why places number at l) number (first_refused places (number + 1) (at + line_size at l) ls)

-- the line for which a text gives no image, with the reason
abbrev pub refusal_of : Result (List ℕ) (ℕ × Why) → Option (ℕ × Why)
refusal_of (Ok image) = None
refusal_of (Err refused) = Some refused
