-- So many words, and no more.
use Rattle.std.specs.Prelude.{ℕ, List, [], ◌∷◌}
use Rattle.std.specs.declared.option.Option.{Option}
use Rattle.std.specs.declared.option.Option.TheVariants.{None, Some}

abbrev pub alone : List (List ℕ) → Option (List ℕ)
alone [] = None
alone (a ∷ []) = Some a
alone (a ∷ b ∷ others) = None

abbrev pub before_one : List ℕ → Option (List ℕ) → Option (List ℕ × List ℕ)
before_one a None = None
before_one a (Some b) = Some (a, b)

abbrev pub pair : List (List ℕ) → Option (List ℕ × List ℕ)
pair [] = None
pair (a ∷ others) = before_one a (alone others)

abbrev pub before_two : List ℕ → Option (List ℕ × List ℕ) → Option (List ℕ × List ℕ × List ℕ)
before_two a None = None
before_two a (Some p) = Some (a, p.0, p.1)

abbrev pub triple : List (List ℕ) → Option (List ℕ × List ℕ × List ℕ)
triple [] = None
triple (a ∷ others) = before_two a (pair others)
