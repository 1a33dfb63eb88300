-- The words of a line.
use Rattle.std.specs.Prelude.{ℕ, Bool, ◌==◌, ◌||◌, not, List, [], ◌∷◌, length, filter}
use Rattle.dm_reading.specs.Cuts.{cut}

-- a space or a tab
abbrev pub is_blank : ℕ → Bool
is_blank c = (c == 32) || (c == 9)

-- a space, a tab, a carriage return or a comma
abbrev pub separates : ℕ → Bool
separates c = (c == 32) || (c == 9) || (c == 13) || (c == 44)

-- the pieces of a line between bytes that pass a test, without the empty ones
unfoldable pub words_between : (ℕ → Bool) → List ℕ → List (List ℕ)
words_between test line = filter (λ word. not (length word == 0)) (cut test line)

-- the words of a line between blanks
abbrev pub words : List ℕ → List (List ℕ)
words line = words_between is_blank line

-- the words of a line between separators
abbrev pub source_words : List ℕ → List (List ℕ)
source_words line = words_between separates line
