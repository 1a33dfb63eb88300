-- What holds of the shapes of lines.
use Rattle.std.specs.Prelude.{◌≡◌, ◌⊎◌, ℕ, true, List, ◌∷◌, ◌++◌, codes}
use Rattle.std.specs.declared.option.Option.TheVariants.{None, Some}
use Rattle.dm_schedule.specs.declared.Step.{Step}
use Rattle.dm_line.specs.declared.line.Line.{Line}
use Rattle.dm_line.specs.declared.line.Line.TheVariants as line
use Rattle.dm_line.specs.declared.end_line.EndLine.{EndLine}
use Rattle.dm_text.specs.Fits.{LineFits, EndFits}
use Rattle.dm_text.specs.Text.{text, end_text}
use Rattle.dm_shape.specs.Begins.{wrong_word}
use Rattle.dm_shape.specs.Full.{IsFull}
use Rattle.dm_shape.specs.Heads.{head_step}
use Rattle.dm_shape.specs.Shapes.{has_shape}

-- a text is that of a line, which has its line feed behind it
abbrev pub IsLine : List ℕ → List ℕ → Type 0
IsLine bytes printed = bytes ++ codes "\n" ≡ printed

-- each line of a group that is printed has a shape
abbrev pub LinesHaveShapes : Type 0
LinesHaveShapes = (l : Line) (bytes : List ℕ) → LineFits l → IsLine bytes (text l) → has_shape bytes ≡ true

-- so has each line at the end of a run
abbrev pub EndsHaveShapes : Type 0
EndsHaveShapes = (e : EndLine) (bytes : List ℕ) → EndFits e → IsFull e → IsLine bytes (end_text e) → has_shape bytes ≡ true

-- whatever is read as the head of a group has a shape
abbrev pub HeadsHaveShapes : Type 0
HeadsHaveShapes = (bytes : List ℕ) (e : Step) → head_step bytes ≡ Some e → has_shape bytes ≡ true

-- the head of a group is read as what it is
abbrev pub HeadsAreRead : Type 0
HeadsAreRead = (e : Step) (bytes : List ℕ) → LineFits (line.Head e) → IsLine bytes (text (line.Head e)) → head_step bytes ≡ Some e

-- a text begins with these words, whole words: a blank stands behind them, or nothing
abbrev pub Begins : List ℕ → List ℕ → Type 0
Begins words bytes = (words ≡ bytes) ⊎ ((rest : List ℕ) × (words ++ 32 ∷ rest ≡ bytes))

-- words with which a line of a group that is printed begins have no wrong one among them
abbrev pub WordsBegin : Type 0
WordsBegin = (l : Line) (bytes words : List ℕ) → LineFits l → IsLine bytes (text l) → Begins words bytes → wrong_word words ≡ None
