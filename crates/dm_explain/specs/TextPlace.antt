-- Where an image's text stands in the boot file.
use Rattle.std.specs.Prelude.{ℕ, ◌+◌, ◌==◌, ◌&&◌, ◌||◌, nat_le, Bool, if◌then◌else◌, codes, List, [], ◌∷◌, length, take, drop, Option, None, Some}
use Rattle.std.specs.Str.{bytes_eq}

-- bytes begin with others
unfoldable pub begins_with : List ℕ → List ℕ → Bool
begins_with xs ys = nat_le (length ys) (length xs) && bytes_eq (take (length ys) xs) ys

-- they begin with an opening, a text behind it, and behind that a closing
unfoldable pub stands : List ℕ → List ℕ → List ℕ → List ℕ → Bool
stands opening text closing xs =
    begins_with xs opening && (begins_with (drop (length opening) xs) text && begins_with (drop (length text) (drop (length opening) xs)) closing)

-- a text of several lines stands there as it is
unfoldable pub opens : List ℕ → List ℕ → Bool
opens text xs = stands (codes "\"\"\"\n") text (codes "\"\"\"") xs || stands (codes "'''\n") text (codes "'''") xs

-- the line behind a byte of line n
abbrev pub next_line : ℕ → ℕ → ℕ
next_line n c = if c == 10 then n + 1 else n

-- the line, from n on, behind which the text begins
unfoldable pub line_before : List ℕ → ℕ → List ℕ → Option ℕ
line_before text n [] = None
line_before text n (c ∷ cs) = if opens text (c ∷ cs) then Some n else line_before text (next_line n c) cs
