-- A text cut into pieces.
use Rattle.std.specs.Prelude.{ℕ, Bool, ◌==◌, if◌then◌else◌, Option, Some, None, List, [], ◌∷◌}

-- a byte before the first of some pieces
abbrev pub onto_first : ℕ → List (List ℕ) → List (List ℕ)
onto_first c [] = (c ∷ []) ∷ []
onto_first c (w ∷ ws) = (c ∷ w) ∷ ws

-- a text cut behind each byte that passes a test, without these; nothing behind the last is no piece
abbrev pub cut : (ℕ → Bool) → List ℕ → List (List ℕ)
cut test [] = []
cut test (c ∷ cs) = if test c then [] ∷ cut test cs else onto_first c (cut test cs)

-- the pieces of a text before, between and after its bytes sep: one more than it has of them
unfoldable pub pieces : ℕ → List ℕ → List (List ℕ)
pieces sep [] = [] ∷ []
pieces sep (b ∷ bs) = if b == sep then [] ∷ pieces sep bs else onto_first b (pieces sep bs)

-- the pieces of the text behind the first piece, if there is one
abbrev pub behind : ℕ → Option (List ℕ) → List (List ℕ)
behind sep None = []
behind sep (Some text) = pieces sep text
