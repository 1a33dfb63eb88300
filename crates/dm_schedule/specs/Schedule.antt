-- The directives of a schedule's text.
use Rattle.std.specs.Prelude.{◌≡◌, ℕ, Bool, false, ◌+◌, ◌==◌, Option, Some, None, Result, Ok, Err, List, [], ◌∷◌, length, ⊤, if◌then◌else◌}
use Rattle.dm_reading.specs.Lines.{lines}
use Rattle.dm_reading.specs.Words.{words}
use Rattle.dm_schedule.specs.declared.Step.TheVariants as step
use Rattle.dm_schedule.specs.declared.Directive.{Directive}
use Rattle.dm_schedule.specs.declared.Directive.TheVariants as directive
use Rattle.dm_schedule.specs.declared.LineFault.{LineFault}
use Rattle.dm_schedule.specs.declared.LineFault.TheVariants.{UnknownWord, WrongCount, NotANumber, OutOfRange, SameMachine}
use Rattle.dm_schedule.specs.declared.ScheduleError.{ScheduleError}
use Rattle.dm_schedule.specs.declared.ScheduleError.TheVariants as no
use Rattle.dm_schedule.specs.declared.keywords.Keyword.{Keyword}
use Rattle.dm_schedule.specs.declared.keywords.Keyword.TheVariants.{Turn, Tick, Deliver, Migrate, CallOff, Round, Spin, Settle, Rest}
use Rattle.dm_schedule.specs.Keywords.{keyword_of, operands}
use Rattle.dm_schedule.specs.Operands.{Values, values_of, ◌>>=◌}

-- what a text says: its directives, or its first bad line, counted from 1, and what is wrong there
pub data Schedule : Type 0 where
  Accepted : List Directive → Schedule
  Refused : ℕ → LineFault → Schedule

-- the numbers of the faults
abbrev pub number_of_fault : LineFault → ℕ
number_of_fault UnknownWord = 1
number_of_fault WrongCount = 2
number_of_fault NotANumber = 3
number_of_fault OutOfRange = 4
number_of_fault SameMachine = 5

-- the directive of a keyword and its operands; packets go from one machine to another
abbrev pub directive_made : (k : Keyword) → Values (operands k) → Result Directive LineFault
directive_made Turn v = Ok (directive.One (step.Turn v.0))
directive_made Tick v = Ok (directive.One (step.Tick v.0))
directive_made Deliver v = if v.0 == v.1.0 then Err SameMachine else Ok (directive.One (step.Deliver v.0 v.1.0 v.1.1.0))
directive_made Migrate v = Ok (directive.One (step.Migrate v.0 v.1.0))
directive_made CallOff v = Ok (directive.One (step.CallOff v.0 v.1.0))
directive_made Round v = Ok directive.Round
directive_made Spin v = Ok (directive.Spin v.0)
directive_made Settle v = Ok directive.Settle
directive_made Rest v = Ok (directive.Rest v.0)

-- the directive of a keyword, if there is one, and the words behind it
unfoldable pub directive_of : ℕ → Option Keyword → List (List ℕ) → Result Directive LineFault
directive_of machines None ws = Err UnknownWord
directive_of machines (Some k) ws =
    if length ws == length (operands k) then values_of machines (operands k) ws >>= directive_made k else Err WrongCount

-- a number sign stands first
abbrev pub begins_comment : List ℕ → Bool
begins_comment [] = false
begins_comment (c ∷ cs) = c == 35

-- the directive of a line's words; a line without a word and a comment have none
unfoldable pub line_directive : ℕ → List (List ℕ) → Result (Option Directive) LineFault
line_directive machines [] = Ok None
line_directive machines (w ∷ ws) =
    if begins_comment w then Ok None else directive_of machines (keyword_of w) ws >>= λ d. Ok (Some d)

-- a directive, and then those that follow
abbrev pub also : Directive → Schedule → Schedule
also d (Accepted ds) = Accepted (d ∷ ds)
also d (Refused line fault) = Refused line fault

-- what a line with this number says, and then what the lines behind it say
abbrev pub line_and_rest : ℕ → Result (Option Directive) LineFault → Schedule → Schedule
line_and_rest line (Ok None) rest = rest
line_and_rest line (Ok (Some d)) rest = also d rest
line_and_rest line (Err fault) rest = Refused line fault

-- what lines say that are numbered from a number on
unfoldable pub lines_from : ℕ → ℕ → List (List ℕ) → Schedule
lines_from machines line [] = Accepted []
lines_from machines line (l ∷ ls) =
    line_and_rest line (line_directive machines (words l)) (lines_from machines (line + 1) ls)

-- the directives of a text, with so many machines
unfoldable pub directives_of : List ℕ → ℕ → Schedule
directives_of text machines = lines_from machines 1 (lines text)

-- a text is refused so; want of memory says nothing of it
abbrev pub RefusedSo : List ℕ → ℕ → ScheduleError → Type 0
RefusedSo text machines (no.Refused line fault) = directives_of text machines ≡ Refused line fault
RefusedSo text machines (no.NoMemory _) = ⊤
