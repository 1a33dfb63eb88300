-- Which operand of a schedule's line is refused, and what it must be.
use Rattle.std.specs.Prelude.{ℕ, ◌+◌, ◌-◌, Bool, true, false, if◌then◌else◌, codes, List, [], ◌∷◌, Option, None, Some, Result, Ok, Err, length}
use Rattle.std.specs.List.{concat}
use Rattle.std.specs.Fmt.{decimal}
use Rattle.dm_schedule.specs.declared.LineFault.{LineFault}
use Rattle.dm_schedule.specs.declared.keywords.Keyword.{Keyword}
use Rattle.dm_schedule.specs.Keywords.{Machine, Operand, Packet, Process, Rounds, keyword_of, operands}
use Rattle.dm_schedule.specs.Operands.{value_of}
use Rattle.dm_explain.specs.declared.wrong.Role.{Role}
use Rattle.dm_explain.specs.declared.wrong.Role.TheVariants as role
use Rattle.dm_explain.specs.declared.wrong.Bad.{Bad}
use Rattle.dm_explain.specs.Parts.{quoted}

-- an operand that is refused: its place, from 1, what it is, and its word
pub record BadOperand : Type 0 where
  pub place : ℕ
  pub operand : Operand
  pub word : List ℕ

abbrev pub operand_of : Role → Operand
operand_of role.Machine = Machine
operand_of role.Process = Process
operand_of role.Packet = Packet
operand_of role.Rounds = Rounds

abbrev pub bad_of : Bad → BadOperand
bad_of b = record { place = b.place; operand = operand_of b.role; word = b.word.now }

-- there is a value
abbrev pub passes : {A : Type 0} → Result A LineFault → Bool
passes (Ok v) = true
passes (Err fault) = false

-- a word is a value of an operand
abbrev pub is_value : ℕ → Operand → List ℕ → Bool
is_value machines Machine word = passes (value_of machines Machine word)
is_value machines Process word = passes (value_of machines Process word)
is_value machines Packet word = passes (value_of machines Packet word)
is_value machines Rounds word = passes (value_of machines Rounds word)

-- the first of these operands, from a place on, that is refused
unfoldable pub bad_from : ℕ → ℕ → List Operand → List (List ℕ) → Option BadOperand
bad_from machines i [] ws = None
bad_from machines i (o ∷ os) [] = None
bad_from machines i (o ∷ os) (w ∷ ws) = if is_value machines o w then bad_from machines (i + 1) os ws else Some (record { place = i; operand = o; word = w })

-- the same of the operands of a keyword, where there is one
abbrev pub bad_behind : ℕ → Option Keyword → List (List ℕ) → Option BadOperand
bad_behind machines None ws = None
bad_behind machines (Some k) ws = bad_from machines 1 (operands k) ws

-- and of the words of a line
unfoldable pub bad_operand : ℕ → List (List ℕ) → Option BadOperand
bad_operand machines [] = None
bad_operand machines (w ∷ ws) = bad_behind machines (keyword_of w) ws

-- what must stand there
abbrev pub missing_words : Operand → List ℕ
missing_words Machine = codes "a machine's number must stand where none stands"
missing_words Process = codes "a process's number, as 0.3, must stand where none stands"
missing_words Packet = codes "a number must stand where none stands"
missing_words Rounds = codes "a number must stand where none stands"

-- which operand it is
unfoldable pub operand_told : BadOperand → List ℕ
operand_told b = concat (codes ": operand " ∷ decimal b.place ∷ codes ", " ∷ quoted b.word ∷ [])

-- the range in which it must lie
abbrev pub range_words : ℕ → Operand → List ℕ
range_words machines Machine = concat (codes ", must be 0 to " ∷ decimal (machines - 1) ∷ [])
range_words machines Process = concat (codes ", must be H.N with H 0 to " ∷ decimal (machines - 1) ∷ codes " and N 0 to 4294967295" ∷ [])
range_words machines Packet = codes ", must be 0 to 4294967295"
range_words machines Rounds = codes ", must be 1 to 65536"

-- how many operands a word has, and how many stand there
unfoldable pub count_words_told : ℕ → ℕ → List ℕ
count_words_told due there = concat (codes ": the word has " ∷ decimal due ∷ codes ", not " ∷ decimal there ∷ [])

abbrev pub count_behind : Option Keyword → List (List ℕ) → List ℕ
count_behind None ws = []
count_behind (Some k) ws = count_words_told (length (operands k)) (length ws)

-- the same of the words of a line
unfoldable pub operand_count_told : List (List ℕ) → List ℕ
operand_count_told [] = []
operand_count_told (w ∷ ws) = count_behind (keyword_of w) ws
