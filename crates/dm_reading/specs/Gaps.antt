-- What stands between words.
use Rattle.std.specs.Prelude.{ℕ, Bool}
use Rattle.dm_reading.specs.Words.{is_blank, separates}
use Rattle.dm_reading.specs.declared.words.Gap.{Gap}
use Rattle.dm_reading.specs.declared.words.Gap.TheVariants.{Blanks, Separators}

-- a byte stands between words
abbrev pub stands_in : Gap → ℕ → Bool
stands_in Blanks = is_blank
stands_in Separators = separates
