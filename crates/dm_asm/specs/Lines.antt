-- A line up to its comment.
use Rattle.std.specs.Prelude.{ℕ, Bool, ◌==◌, if◌then◌else◌, List, [], ◌∷◌}

-- a semicolon
abbrev pub is_semicolon : ℕ → Bool
is_semicolon c = c == 59

-- a line up to its comment, which begins at a semicolon
abbrev pub without_comment : List ℕ → List ℕ
without_comment [] = []
without_comment (c ∷ cs) = if c == 59 then [] else c ∷ without_comment cs
