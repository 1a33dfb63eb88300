-- What is said of a schedule.
use Rattle.std.specs.Prelude.{ℕ, Bool, true, false, codes, List, [], ◌∷◌, ◌++◌, length, count_by, Option, None, Some}
use Rattle.std.specs.List.{concat}
use Rattle.std.specs.Fmt.{decimal}
use Rattle.dm_schedule.specs.declared.Directive.{Directive}
use Rattle.dm_schedule.specs.declared.Directive.TheVariants as directive
use Rattle.dm_schedule.specs.declared.Step.TheVariants as step
use Rattle.dm_schedule.specs.declared.LineFault.{LineFault}
use Rattle.dm_schedule.specs.declared.LineFault.TheVariants.{UnknownWord, WrongCount, NotANumber, OutOfRange, SameMachine}
use Rattle.dm_reading.specs.Lines.{lines}
use Rattle.dm_reading.specs.Words.{words}
use Rattle.dm_schedule.specs.declared.keywords.Keyword.{Keyword}
use Rattle.dm_schedule.specs.declared.keywords.Keyword.TheVariants.{Turn, Tick, Deliver, Migrate, CallOff, Round, Spin, Settle, Rest}
use Rattle.dm_schedule.specs.Schedule.{Schedule, Accepted, Refused, number_of_fault}
use Rattle.dm_explain.specs.BadOperands.{BadOperand, bad_operand, missing_words, operand_count_told, operand_told, range_words}
use Rattle.dm_explain.specs.LineAt.{line_at}
use Rattle.dm_explain.specs.Parts.{quoted}

-- a directive is of a word
abbrev pub is_turn : Directive → Bool
is_turn (directive.One (step.Turn m)) = true
is_turn _ = false

abbrev pub is_tick : Directive → Bool
is_tick (directive.One (step.Tick m)) = true
is_tick _ = false

abbrev pub is_deliver : Directive → Bool
is_deliver (directive.One (step.Deliver a b k)) = true
is_deliver _ = false

abbrev pub is_migrate : Directive → Bool
is_migrate (directive.One (step.Migrate p m)) = true
is_migrate _ = false

abbrev pub is_calloff : Directive → Bool
is_calloff (directive.One (step.CallOff p m)) = true
is_calloff _ = false

abbrev pub is_round : Directive → Bool
is_round directive.Round = true
is_round _ = false

abbrev pub is_spin : Directive → Bool
is_spin (directive.Spin n) = true
is_spin _ = false

abbrev pub is_settle : Directive → Bool
is_settle directive.Settle = true
is_settle _ = false

abbrev pub is_rest : Directive → Bool
is_rest (directive.Rest n) = true
is_rest _ = false

abbrev pub is_of : Keyword → Directive → Bool
is_of Turn d = is_turn d
is_of Tick d = is_tick d
is_of Deliver d = is_deliver d
is_of Migrate d = is_migrate d
is_of CallOff d = is_calloff d
is_of Round d = is_round d
is_of Spin d = is_spin d
is_of Settle d = is_settle d
is_of Rest d = is_rest d

abbrev pub many : Keyword → List Directive → List ℕ
many k ds = decimal (count_by (is_of k) ds)

abbrev pub directives_told : List Directive → List ℕ
directives_told ds =
    concat (codes "schedule: " ∷ decimal (length ds) ∷ codes " directives: turn " ∷ many Turn ds ∷ codes ", tick " ∷ many Tick ds ∷ codes ", deliver " ∷ many Deliver ds
    ∷ codes ", migrate " ∷ many Migrate ds ∷ codes ", calloff " ∷ many CallOff ds ∷ codes ", round " ∷ many Round ds ∷ codes ", spin " ∷ many Spin ds ∷ codes ", settle " ∷ many Settle ds
    ∷ codes ", rest " ∷ many Rest ds ∷ codes "\n" ∷ [])

-- words, and the line
unfoldable pub said : List ℕ → List ℕ → List ℕ
said text line = concat (text ∷ codes ": " ∷ quoted line ∷ [])

-- that an operand isn't there
abbrev pub missing_told : Option BadOperand → List ℕ → List ℕ
missing_told None line = []
missing_told (Some b) line = said (missing_words b.operand) line ++ operand_told b

-- in which range an operand must lie
abbrev pub range_told : ℕ → Option BadOperand → List ℕ
range_told machines None = []
range_told machines (Some b) = operand_told b ++ range_words machines b.operand

-- that there are more operands, or fewer
abbrev pub wrong_count_told : List ℕ → List ℕ
wrong_count_told line = said (codes "more or fewer operands than the word has") line ++ operand_count_told (words line)

-- that an operand is out of its range
abbrev pub outside_told : ℕ → List ℕ → List ℕ
outside_told machines line = said (codes "a number is out of range, or no machine's") line ++ range_told machines (bad_operand machines (words line))

-- what is wrong with a line, for so many machines
abbrev pub fault_told : ℕ → LineFault → List ℕ → List ℕ
fault_told machines UnknownWord line = said (codes "no such word") line
fault_told machines WrongCount line = wrong_count_told line
fault_told machines NotANumber line = missing_told (bad_operand machines (words line)) line
fault_told machines OutOfRange line = outside_told machines line
fault_told machines SameMachine line = said (codes "the two machines are one") line

-- what a number is, behind a line in which none stands where one must
abbrev pub number_note : LineFault → List ℕ
number_note NotANumber = codes "    a number has 1 to 10 digits alone\n"
number_note UnknownWord = []
number_note WrongCount = []
number_note OutOfRange = []
number_note SameMachine = []

abbrev pub line_told : List ℕ → ℕ → ℕ → LineFault → List ℕ
line_told bytes machines line fault =
    concat (codes "schedule, line " ∷ decimal line ∷ codes ": why " ∷ decimal (number_of_fault fault) ∷ codes ": " ∷ []) ++ fault_told machines fault (line_at line (lines bytes)) ++ concat (codes "\n" ∷ number_note fault ∷ [])

-- a schedule, or its first bad line
abbrev pub schedule_told : List ℕ → ℕ → Schedule → List ℕ
schedule_told bytes machines (Accepted ds) = directives_told ds
schedule_told bytes machines (Refused line fault) = line_told bytes machines line fault
