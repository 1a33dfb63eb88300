-- What is read from a line, seen as words.
use Rattle.std.specs.Prelude.{ℕ, List, Result, Ok, Err}
use Rattle.std.specs.Borrow.{Bor}
use Rattle.dm_reading.specs.Words.{source_words}
use Rattle.dm_asm.specs.declared.refusals.Why.{Why}

-- a value and the words behind it
abbrev pub seen : Result (ℕ × Bor (List ℕ)) Why → Result (ℕ × List (List ℕ)) Why
seen (Ok read) = Ok (read.0, source_words read.1.now)
seen (Err why) = Err why
