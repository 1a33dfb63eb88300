-- A line of some lines.
use Rattle.std.specs.Prelude.{ℕ, ◌-◌, List, [], slice_get, Option, None, Some}

abbrev pub line_or_nothing : Option (List ℕ) → List ℕ
line_or_nothing None = []
line_or_nothing (Some line) = line

-- line n, from 1; nothing where there is none
abbrev pub line_at : ℕ → List (List ℕ) → List ℕ
line_at n lines = line_or_nothing (slice_get lines (n - 1))
