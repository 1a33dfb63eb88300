-- Which operand of a line of an image's text is refused, and what it must be.
use Rattle.std.specs.Prelude.{ℕ, ◌+◌, ◌-◌, ◌==◌, ◌&&◌, not, nat_le, take, slice_index, Bool, true, false, if◌then◌else◌, codes, List, [], ◌∷◌, ◌++◌, Option, None, Some, is_ok, length}
use Rattle.std.specs.Option.{is_some, option_map}
use Rattle.std.specs.List.{concat}
use Rattle.std.specs.Fmt.{decimal}
use Rattle.dm_reading.specs.Words.{source_words}
use Rattle.dm_asm.specs.Calls.{argument_of}
use Rattle.dm_asm.specs.declared.calls.CallWord.{CallWord}
use Rattle.dm_asm.specs.declared.calls.CallWord.TheVariants as call
use Rattle.dm_asm.specs.declared.forms.Form.{Form}
use Rattle.dm_asm.specs.declared.forms.Form.TheVariants.{Instruction, Calling, Word, Byte, Zero, Align, Ascii, Equ}
use Rattle.dm_asm.specs.declared.forms.Shape.{Shape}
use Rattle.dm_asm.specs.declared.forms.Shape.TheVariants.{RegisterValue, TwoRegisters, ThreeRegisters, Access, Jump, Branch, Call}
use Rattle.dm_asm.specs.declared.labels.Place.{Place}
use Rattle.dm_asm.specs.declared.refusals.Why.{Why}
use Rattle.dm_asm.specs.declared.refusals.Why.TheVariants.{UnknownWord, BadRegister, BadNumber, OutOfRange, UnknownLabel, LabelTwice, OperandCount, TooLong}
use Rattle.dm_asm.specs.Forms.{form_of, shape_of}
use Rattle.dm_asm.specs.Lines.{without_comment}
use Rattle.dm_asm.specs.Numbers.{is_label_name, literal_value, register_of}
use Rattle.dm_asm.specs.Operands.{wanted_number}
use Rattle.dm_asm.specs.Places.{behind_label, is_misplaced}
use Rattle.dm_explain.specs.declared.source.Last.{Last}
use Rattle.dm_explain.specs.declared.source.Last.TheVariants as last
use Rattle.dm_explain.specs.declared.source.Takes.{Takes}
use Rattle.dm_explain.specs.declared.source.Statement.{Statement}
use Rattle.dm_explain.specs.declared.source.Wrong.{Wrong}
use Rattle.dm_explain.specs.BadOperands.{count_words_told}
use Rattle.dm_explain.specs.Parts.{quoted}
use Rattle.dm_explain.specs.Schedules.{said}

-- so many registers, and what stands behind them
abbrev pub takes : ℕ → Last → Takes
takes n l = record { registers = n; last = l }

-- the operands of an instruction
abbrev pub shape_takes : Shape → Takes
shape_takes RegisterValue = takes 1 (last.Value 65535)
shape_takes TwoRegisters = takes 2 last.Nothing
shape_takes ThreeRegisters = takes 3 last.Nothing
shape_takes Access = takes 2 (last.Number 255)
shape_takes Jump = takes 0 (last.Value 65535)
shape_takes Branch = takes 2 last.Label
shape_takes Call = takes 0 last.Call

-- the operands of an instruction, call or directive
abbrev pub takes_of : Form → Takes
takes_of (Instruction op) = shape_takes (shape_of op)
takes_of (Calling c) = takes 0 (last.Arguments c)
takes_of Word = takes 0 (last.Value 4294967295)
takes_of Byte = takes 0 last.Bytes
takes_of Zero = takes 0 (last.Number 65536)
takes_of Align = takes 0 last.Multiple
takes_of Ascii = takes 0 last.Text
takes_of Equ = takes 0 last.GivenLabel

-- the same of a word, where it is one
unfoldable pub takes_named : List ℕ → Option Takes
takes_named w = option_map takes_of (form_of w)

-- an instruction or directive: what it takes, and the words behind it; it stands first, or behind a label
pub record Source : Type 0 where
  pub takes : Takes
  pub operands : List (List ℕ)

abbrev pub source : List (List ℕ) → Takes → Source
source ws t = record { takes = t; operands = ws }

abbrev pub source_behind : List (List ℕ) → Option Source
source_behind [] = None
source_behind (w ∷ ws) = option_map (source ws) (takes_named w)

abbrev pub source_or_behind : List (List ℕ) → Option Takes → Option Source
source_or_behind ws (Some t) = Some (source ws t)
source_or_behind ws None = source_behind ws

abbrev pub source_in : List (List ℕ) → Option Source
source_in [] = None
source_in (w ∷ ws) = source_or_behind ws (takes_named w)

unfoldable pub source_of : List ℕ → Option Source
source_of line = source_in (source_words (without_comment line))

abbrev pub seen : Statement → Source
seen s = source (source_words s.operands.now) s.takes

-- an operand that is refused: its place, from 1, and its word
pub record BadWord : Type 0 where
  pub place : ℕ
  pub word : List ℕ

abbrev pub bad_word_of : Wrong → BadWord
bad_word_of b = record { place = b.place; word = b.word.now }

-- an operand at a place behind the registers can't be the one that is refused: only one of several bytes can, one of a call, or the
-- label of .equ
abbrev pub is_fine_last : (List ℕ → Option Place) → Last → ℕ → List ℕ → Bool
is_fine_last places last.Bytes i w = is_ok (wanted_number 255 (literal_value w))
is_fine_last places (last.Arguments c) i w = is_ok (argument_of places c i w)
is_fine_last places last.GivenLabel i w = (i == 1) && is_label_name w
is_fine_last places last.Nothing i w = false
is_fine_last places (last.Number n) i w = false
is_fine_last places (last.Value n) i w = false
is_fine_last places last.Label i w = false
is_fine_last places last.Call i w = false
is_fine_last places last.Multiple i w = false
is_fine_last places last.Text i w = false

-- the operand at a place isn't the one that is refused
unfoldable pub is_fine : (List ℕ → Option Place) → Takes → ℕ → List ℕ → Bool
is_fine places t i w = if nat_le i t.registers then is_some (register_of w) else is_fine_last places t.last i w

-- the first, from a place on, that is
unfoldable pub bad_word : (List ℕ → Option Place) → Takes → ℕ → List (List ℕ) → Option BadWord
bad_word places t i [] = None
bad_word places t i (w ∷ ws) = if is_fine places t i w then bad_word places t (i + 1) ws else Some (record { place = i; word = w })

-- the same of a line
abbrev pub bad_word_in : (List ℕ → Option Place) → Option Source → Option BadWord
bad_word_in places None = None
bad_word_in places (Some s) = bad_word places s.takes 1 s.operands

-- what must stand where a word of .equ is refused
abbrev pub given_label_words : Option BadWord → List ℕ
given_label_words None = codes "a number must stand where none stands"
given_label_words (Some b) = if b.place == 1 then codes "a label must stand where none stands" else codes "a number must stand where none stands"

-- what must stand where a number or a label is refused
abbrev pub missing_value_words : Last → Option BadWord → List ℕ
missing_value_words last.Label b = codes "a label must stand where none stands"
missing_value_words last.Text b = codes "a text in quotation marks must stand where none stands"
missing_value_words last.Multiple b = codes "a number must stand where none stands"
missing_value_words last.Call b = codes "a number or call must stand where none stands"
missing_value_words (last.Number n) b = codes "a number must stand where none stands"
missing_value_words last.Bytes b = codes "a number must stand where none stands"
missing_value_words (last.Value n) b = codes "a number or label must stand where none stands"
missing_value_words (last.Arguments c) b = codes "a number, label or register must stand where none stands"
missing_value_words last.GivenLabel b = given_label_words b
missing_value_words last.Nothing b = codes "a number or label must stand where none stands"

-- an operand that must be a register, or another one than it is, since an operand before it sets that
abbrev pub register_words : Option BadWord → List ℕ
register_words None = []
register_words (Some b) =
    if is_some (register_of b.word) then concat (codes "operand " ∷ decimal b.place ∷ codes " must not be " ∷ quoted b.word ∷ codes ", which an operand before it sets" ∷ [])
    else concat (codes "operand " ∷ decimal b.place ∷ codes " must be a register, not " ∷ quoted b.word ∷ [])

-- which operand it is
abbrev pub bad_word_told : Option BadWord → List ℕ
bad_word_told None = []
bad_word_told (Some b) = concat (codes ": operand " ∷ decimal b.place ∷ codes ", " ∷ quoted b.word ∷ [])

-- an operand that is no register
abbrev pub no_register_told : Option BadWord → List ℕ
no_register_told None = []
no_register_told (Some b) = if is_some (register_of b.word) then [] else codes ": a register is r0 to r15"

-- an operand that is no label but a register
abbrev pub is_register_told : Option BadWord → List ℕ
is_register_told None = []
is_register_told (Some b) = if is_some (register_of b.word) then codes ", is a register" else []

-- the most that a number may be
abbrev pub most_told : ℕ → List ℕ
most_told n = concat (codes ", must be 0 to " ∷ decimal n ∷ [])

-- the range in which it must lie
abbrev pub last_range : Last → List ℕ
last_range last.Nothing = []
last_range (last.Number n) = most_told n
last_range (last.Value n) = most_told n
last_range last.Text = []
last_range last.Multiple = codes ", must be 1 to 65536"
last_range last.Call = codes ", must be 0 to 255"
last_range last.Bytes = codes ", must be 0 to 255"
last_range (last.Arguments c) = most_told 65535
last_range last.GivenLabel = most_told 4294967295
last_range last.Label = codes ", must be -128 to 127 whole words from the next instruction"

-- bytes must be listed
abbrev pub bytes_due : ℕ → List ℕ
bytes_due there = concat (codes ": the word has 1 or more, not " ∷ decimal there ∷ [])

-- how many operands a call has
abbrev pub counts_of : CallWord → List ℕ
counts_of call.Exit = codes "0"
counts_of call.Out = codes "1"
counts_of call.Make = codes "3 or 5"
counts_of call.Copy = codes "1"
counts_of call.Drop = codes "1"
counts_of call.Send = codes "1, 3 or 5"
counts_of call.Receive = codes "1 or 3"
counts_of call.Move = codes "5"

abbrev pub arguments_due : CallWord → ℕ → List ℕ
arguments_due c there = concat (codes ": the word has " ∷ counts_of c ∷ codes ", not " ∷ decimal there ∷ [])

-- how many operands there must be, and how many there are
abbrev pub due_behind : ℕ → Last → ℕ → List ℕ
due_behind n last.Nothing there = count_words_told n there
due_behind n last.Bytes there = bytes_due there
due_behind n (last.Number most) there = count_words_told (n + 1) there
due_behind n (last.Value most) there = count_words_told (n + 1) there
due_behind n last.Label there = count_words_told (n + 1) there
due_behind n last.Call there = count_words_told (n + 1) there
due_behind n last.Multiple there = count_words_told (n + 1) there
due_behind n last.Text there = count_words_told (n + 1) there
due_behind n (last.Arguments c) there = arguments_due c there
due_behind n last.GivenLabel there = count_words_told (n + 2) there

abbrev pub due_told : Takes → ℕ → List ℕ
due_told t there = due_behind t.registers t.last there

-- what is said behind a line of its operand that is refused
abbrev pub detail_told : Why → Option BadWord → Source → List ℕ
detail_told BadRegister b s = no_register_told b
detail_told BadNumber b s = bad_word_told b
detail_told OutOfRange b s = bad_word_told b ++ last_range s.takes.last
detail_told UnknownLabel b s = bad_word_told b ++ is_register_told b
detail_told OperandCount b s = due_told s.takes (length s.operands)
detail_told UnknownWord b s = []
detail_told LabelTwice b s = []
detail_told TooLong b s = []

abbrev pub detail : Why → Option BadWord → Option Source → List ℕ
detail why b None = []
detail why b (Some s) = detail_told why b s

abbrev pub last_of : Option Source → Last
last_of None = last.Nothing
last_of (Some s) = s.takes.last

-- why a line of an image's text is refused
abbrev pub why_words : Why → Option BadWord → Option Source → List ℕ
why_words UnknownWord b s = codes "no such word"
why_words BadRegister b s = register_words b
why_words BadNumber b s = missing_value_words (last_of s) b
why_words OutOfRange b s = codes "a number is out of range"
why_words UnknownLabel b s = codes "no line has this label"
why_words LabelTwice b s = codes "an earlier line has this label"
why_words OperandCount b s = codes "more or fewer operands than the word has"
why_words TooLong b s = codes "the image has more than 65536 bytes with this line"

-- a word that ends as a label does, and is none
abbrev pub is_no_label : List ℕ → Bool
is_no_label w = (slice_index w (length w - 1) == 58) && not (is_label_name (take (length w - 1) w))

-- a register can't be one
abbrev pub no_label_words : List ℕ → List ℕ
no_label_words name =
    if is_some (register_of name) then codes " is no label, since a register is named so"
    else codes " is no label, which has 1 to 16 of a to z, 0 to 9 and _, the first no digit"

abbrev pub no_label_told : List ℕ → List ℕ
no_label_told w = concat (codes ": " ∷ quoted w ∷ no_label_words (take (length w - 1) w) ∷ [])

-- the first of some words, where it is such a word
abbrev pub no_label_in : List (List ℕ) → Option (List ℕ)
no_label_in [] = None
no_label_in (w ∷ ws) = if is_no_label w then Some w else None

unfoldable pub no_label : List ℕ → Option (List ℕ)
no_label line = no_label_in (source_words (without_comment line))

-- the first of some words is none that there is
abbrev pub no_word_told : List (List ℕ) → List ℕ
no_word_told [] = []
no_word_told (w ∷ ws) = concat (codes ": " ∷ quoted w ∷ codes " is no instruction and no directive" ∷ [])

-- a word that ends as a label does and is none, a label before .equ, or what stands where an instruction or directive must
abbrev pub label_or_word_told : Option (List ℕ) → List (List ℕ) → List ℕ
label_or_word_told None ws = if is_misplaced ws then codes ": no label stands before \".equ\", which has one behind it" else no_word_told (behind_label ws)
label_or_word_told (Some w) ws = no_label_told w

-- a line without a word that there is
abbrev pub unknown_told : List ℕ → List ℕ
unknown_told line = said (codes "no such word") line ++ label_or_word_told (no_label line) (source_words (without_comment line))

-- a line with a word that there is, and its operand that is refused
abbrev pub known_told : Why → Option BadWord → Option Source → List ℕ → List ℕ
known_told why b s line = said (why_words why b s) line ++ detail why b s

-- a line that is refused, and what is wrong there
abbrev pub refused_told : (List ℕ → Option Place) → Why → Option Source → List ℕ → List ℕ
refused_told places UnknownWord s line = unknown_told line
refused_told places BadRegister s line = known_told BadRegister (bad_word_in places s) s line
refused_told places BadNumber s line = known_told BadNumber (bad_word_in places s) s line
refused_told places OutOfRange s line = known_told OutOfRange (bad_word_in places s) s line
refused_told places UnknownLabel s line = known_told UnknownLabel (bad_word_in places s) s line
refused_told places LabelTwice s line = known_told LabelTwice (bad_word_in places s) s line
refused_told places OperandCount s line = known_told OperandCount (bad_word_in places s) s line
refused_told places TooLong s line = known_told TooLong (bad_word_in places s) s line
