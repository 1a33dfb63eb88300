-- The lines of a text.
use Rattle.std.specs.Prelude.{ℕ, Bool, false, ◌==◌, ◌&&◌, if◌then◌else◌, List, [], ◌∷◌}
use Rattle.dm_reading.specs.Cuts.{cut, onto_first}

-- a line feed
abbrev pub ends_line : ℕ → Bool
ends_line c = c == 10

-- a carriage return
abbrev pub is_return : ℕ → Bool
is_return c = c == 13

-- whether a line feed comes next
abbrev pub line_ends : List ℕ → Bool
line_ends [] = false
line_ends (c ∷ cs) = ends_line c

-- the lines of a text; a carriage return directly before a line feed belongs to none
unfoldable pub lines : List ℕ → List (List ℕ)
lines [] = []
lines (c ∷ cs) =
    if ends_line c then [] ∷ lines cs
    else (if is_return c && line_ends cs then lines cs else onto_first c (lines cs))

-- the lines of a text, with all that stands before their line feeds
unfoldable pub source_lines : List ℕ → List (List ℕ)
source_lines text = cut ends_line text
