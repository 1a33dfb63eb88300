-- The bytes of a line.
use Rattle.std.specs.Prelude.{ℕ, Bool, false, ◌==◌, not, nat_lt, ◌^◌, ◌-◌, if◌then◌else◌, Option, unwrap_or, option_map, option_and_then, ok_or, Result, Ok, Err, List, [], ◌∷◌, length, replicate}
use Rattle.dm_reading.specs.Words.{source_words}
use Rattle.dm_processor.specs.declared.opcodes.Opcode.{Opcode}
use Rattle.dm_processor.specs.Opcodes.{opcode_number}
use Rattle.dm_processor.specs.Instructions.{word_bytes}
use Rattle.dm_asm.specs.Calls.{call_bytes, takes_arguments}
use Rattle.dm_asm.specs.declared.forms.Form.{Form}
use Rattle.dm_asm.specs.declared.forms.Form.TheVariants.{Instruction, Calling, Word, Byte, Zero, Align, Ascii, Equ}
use Rattle.dm_asm.specs.declared.labels.Place.{Place}
use Rattle.dm_asm.specs.declared.refusals.Why.{Why}
use Rattle.dm_asm.specs.declared.refusals.Why.TheVariants.{UnknownWord, BadNumber, LabelTwice, OperandCount}
use Rattle.dm_asm.specs.Forms.{form_of, operand_count, shape_of}
use Rattle.dm_asm.specs.Lines.{without_comment}
use Rattle.dm_asm.specs.Numbers.{literal_value}
use Rattle.dm_asm.specs.Operands.{fields, multiple, name_operand, number_operand, value, wanted_number}
use Rattle.dm_asm.specs.Places.{behind_label, is_misplaced, label_of_words, padding}
use Rattle.dm_asm.specs.Refusals.{◌>>=◌}
use Rattle.dm_asm.specs.Texts.{text_in, text_operand}

-- the four bytes of an instruction
abbrev pub instruction_bytes : (List ℕ → Option Place) → ℕ → Opcode → List (List ℕ) → Result (List ℕ) Why
instruction_bytes places at op ws = do
  last ← fields places at (shape_of op) ws
  Ok (opcode_number op ∷ last)

-- the bytes that .byte lists
unfoldable pub listed_bytes : List (List ℕ) → Result (List ℕ) Why
listed_bytes [] = Ok []
listed_bytes (w ∷ ws) = do
  first ← wanted_number 255 (literal_value w)
  others ← listed_bytes ws
  Ok (first ∷ others)

-- the bytes of an instruction, call or directive, in a line with this text
abbrev pub form_bytes : (List ℕ → Option Place) → ℕ → Option (List ℕ) → Form → List (List ℕ) → Result (List ℕ) Why
form_bytes places at text (Instruction op) ws = instruction_bytes places at op ws
form_bytes places at text (Calling c) ws = call_bytes places c ws
form_bytes places at text Word ws = do
  w ← value places (2 ^ 32 - 1) ws
  Ok (word_bytes w.0)
form_bytes places at text Byte ws = listed_bytes ws
form_bytes places at text Zero ws = do
  n ← number_operand 65536 ws
  Ok (replicate n.0 0)
form_bytes places at text Align ws = do
  n ← multiple ws
  Ok (replicate (padding at n.0) 0)
form_bytes places at text Ascii ws = ok_or (text_operand text ws) BadNumber
form_bytes places at text Equ ws = do
  name ← name_operand ws
  n ← number_operand (2 ^ 32 - 1) name.1
  Ok []

-- whether an instruction, call or directive can have so many operands
abbrev pub takes_operands : Form → ℕ → Bool
takes_operands (Instruction op) n = n == operand_count (shape_of op)
takes_operands (Calling c) n = takes_arguments c n
takes_operands Word n = n == 1
takes_operands Byte n = nat_lt 0 n
takes_operands Zero n = n == 1
takes_operands Align n = n == 1
takes_operands Ascii n = nat_lt 0 n
takes_operands Equ n = n == 2

-- the bytes of what stands behind a label, if any, in a line with this text; the label may be defined before
unfoldable pub statement_bytes : (List ℕ → Option Place) → ℕ → Bool → Option (List ℕ) → List (List ℕ) → Result (List ℕ) Why
statement_bytes places at twice text [] = if twice then Err LabelTwice else Ok []
statement_bytes places at twice text (w ∷ ws) =
    ok_or (form_of w) UnknownWord >>= λ form.
    if twice then Err LabelTwice
    else (if takes_operands form (length ws) then form_bytes places at text form ws else Err OperandCount)

-- whether a line's label, if any, is defined before
abbrev pub is_twice : (List ℕ → Option Place) → ℕ → Option (List ℕ) → Bool
is_twice places line label = unwrap_or (option_map (λ p. not (p.line == line)) (option_and_then places label)) false

-- the bytes of a line at an address
unfoldable pub line_bytes : (List ℕ → Option Place) → ℕ → ℕ → List ℕ → Result (List ℕ) Why
line_bytes places line at bytes =
    let ws = source_words (without_comment bytes) in
    if is_misplaced ws then Err UnknownWord
    else statement_bytes places at (is_twice places line (label_of_words ws)) (text_in (without_comment bytes)) (behind_label ws)
