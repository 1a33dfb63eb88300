-- Which texts begin a line of a group, word by word.
use Rattle.std.specs.Prelude.{ℕ, suc, nat_lt, if◌then◌else◌, List, [], ◌∷◌, slice_get}
use Rattle.std.specs.Str.{bytes_eq}
use Rattle.std.specs.declared.option.Option.{Option}
use Rattle.dm_reading.specs.Cuts.{pieces}
use Rattle.dm_shape.specs.declared.sort.Sort.{Sort}
use Rattle.dm_shape.specs.declared.shape.Shape.{Shape}
use Rattle.dm_shape.specs.declared.shape.Shape.TheVariants as shape
use Rattle.dm_shape.specs.Shapes.{ShapeRow, all_shapes, group_row, head_row, kernel_row}
use Rattle.dm_shape.specs.Sorts.{is_of}

-- how many of the first words are of these sorts, one by one
abbrev pub fitting : List Sort → List (List ℕ) → ℕ
fitting [] ws = 0
fitting (s ∷ ss) [] = 0
fitting (s ∷ ss) (w ∷ ws) = if is_of s w then suc (fitting ss ws) else 0

-- how many are those of a row
abbrev pub fitting_row : ShapeRow → List (List ℕ) → ℕ
fitting_row r [] = 0
fitting_row r (w ∷ ws) = if bytes_eq w r.name then suc (fitting r.sorts ws) else 0

-- of a shape that a line of a group may have
unfoldable pub fitting_shape : Shape → List ℕ → ℕ
fitting_shape (shape.Head s) text = fitting_row (head_row s) (pieces 32 text)
fitting_shape (shape.Kernel s) text = fitting_row (kernel_row s) (pieces 32 text)
fitting_shape (shape.Group s) text = fitting_row (group_row s) (pieces 32 text)
fitting_shape (shape.End s) text = 0

abbrev pub greater : ℕ → ℕ → ℕ
greater m n = if nat_lt m n then n else m

-- of some shapes the most, and no fewer than so many
abbrev pub most_fitting : ℕ → List Shape → List ℕ → ℕ
most_fitting most [] text = most
most_fitting most (s ∷ ss) text = most_fitting (greater most (fitting_shape s text)) ss text

-- with how many of a text's first words a line of a group may begin
unfoldable pub words_that_begin : List ℕ → ℕ
words_that_begin text = most_fitting 0 all_shapes text

-- the first word with which none begins any more; none where one begins with all of them
unfoldable pub wrong_word : List ℕ → Option (List ℕ)
wrong_word text = slice_get (pieces 32 text) (words_that_begin text)
