-- Which lines of an image's text are refused, and why.
use Rattle.std.specs.Prelude.{ℕ, ◌+◌, ◌==◌, ◌&&◌, nat_le, nat_lt, Bool, true, false, if◌then◌else◌, List, [], ◌∷◌, length, Option, None, Some, ok_or}
use Rattle.std.specs.Result.{result_err}
use Rattle.dm_reading.specs.Words.{source_words}
use Rattle.dm_asm.specs.declared.labels.Place.{Place}
use Rattle.dm_asm.specs.declared.refusals.Why.{Why}
use Rattle.dm_asm.specs.declared.refusals.Why.TheVariants.{UnknownWord, BadRegister, BadNumber, LabelTwice, OperandCount, TooLong}
use Rattle.dm_asm.specs.Calls.{argument_of, takes_arguments}
use Rattle.dm_asm.specs.Lines.{without_comment}
use Rattle.dm_asm.specs.Numbers.{literal_value, register_of}
use Rattle.dm_asm.specs.Operands.{call_value, distance_of, operand_value, wanted_multiple, wanted_name, wanted_number}
use Rattle.dm_asm.specs.Places.{behind_label, is_misplaced, label_of_words, line_size}
use Rattle.dm_asm.specs.Statements.{is_twice}
use Rattle.dm_asm.specs.Texts.{text_in, text_operand}
use Rattle.dm_explain.specs.declared.source.Last.{Last}
use Rattle.dm_explain.specs.declared.source.Last.TheVariants as last
use Rattle.dm_explain.specs.declared.source.Takes.{Takes}
use Rattle.dm_explain.specs.BadSources.{takes_named}

-- the first of two reasons, if there is one
abbrev pub or_why : Option Why → Option Why → Option Why
or_why None other = other
or_why (Some why) other = Some why

-- why a word of .equ is refused at a place: a label, then a number
abbrev pub given_label_why : ℕ → List ℕ → Option Why
given_label_why i w = if i == 1 then result_err (wanted_name w) else result_err (wanted_number 4294967295 (literal_value w))

-- why a word at a place is refused behind the registers of an instruction or directive at an address
abbrev pub last_why : (List ℕ → Option Place) → ℕ → Last → ℕ → List ℕ → Option Why
last_why places at last.Nothing i w = None
last_why places at (last.Number most) i w = result_err (wanted_number most (literal_value w))
last_why places at (last.Value most) i w = result_err (operand_value places most w)
last_why places at last.Label i w = result_err (distance_of places at w)
last_why places at last.Multiple i w = result_err (wanted_multiple (literal_value w))
last_why places at last.Text i w = None
last_why places at last.Call i w = result_err (call_value w)
last_why places at last.Bytes i w = result_err (wanted_number 255 (literal_value w))
last_why places at (last.Arguments c) i w = result_err (argument_of places c i w)
last_why places at last.GivenLabel i w = given_label_why i w

-- why the operand at a place is
unfoldable pub operand_why : (List ℕ → Option Place) → ℕ → Takes → ℕ → List ℕ → Option Why
operand_why places at t i w = if nat_le i t.registers then result_err (ok_or (register_of w) BadRegister) else last_why places at t.last i w

-- and the first of the operands from a place on that is
unfoldable pub operands_why : (List ℕ → Option Place) → ℕ → Takes → ℕ → List (List ℕ) → Option Why
operands_why places at t i [] = None
operands_why places at t i (w ∷ ws) = or_why (operand_why places at t i w) (operands_why places at t (i + 1) ws)

-- so many operands may stand behind so many registers and what stands behind these
abbrev pub is_due : ℕ → Last → ℕ → Bool
is_due n last.Nothing there = there == n
is_due n last.Bytes there = nat_lt 0 there
is_due n (last.Number most) there = there == n + 1
is_due n (last.Value most) there = there == n + 1
is_due n last.Label there = there == n + 1
is_due n last.Call there = there == n + 1
is_due n last.Multiple there = there == n + 1
is_due n last.Text there = nat_lt 0 there
is_due n (last.Arguments c) there = takes_arguments c there
is_due n last.GivenLabel there = there == n + 2

-- a text stands behind the registers
abbrev pub is_text : Last → Bool
is_text last.Nothing = false
is_text (last.Number most) = false
is_text (last.Value most) = false
is_text last.Label = false
is_text last.Call = false
is_text last.Multiple = false
is_text last.Bytes = false
is_text (last.Arguments c) = false
is_text last.GivenLabel = false
is_text last.Text = true

-- why a text is refused as operand
abbrev pub text_why : Option (List ℕ) → List (List ℕ) → Option Why
text_why text ws = result_err (ok_or (text_operand text ws) BadNumber)

-- why as many operands as there must be are refused, in a line with this text
abbrev pub given_why : (List ℕ → Option Place) → ℕ → Option (List ℕ) → Takes → List (List ℕ) → Option Why
given_why places at text t ws = if is_text t.last then text_why text ws else operands_why places at t 1 ws

-- why an instruction or directive is refused with its operands, in a line with this text; the label before it may be defined before
abbrev pub takes_why : (List ℕ → Option Place) → ℕ → Bool → Option (List ℕ) → Takes → List (List ℕ) → Option Why
takes_why places at twice text t ws =
    if twice then Some LabelTwice else (if is_due t.registers t.last (length ws) then given_why places at text t ws else Some OperandCount)

abbrev pub named_why : (List ℕ → Option Place) → ℕ → Bool → Option (List ℕ) → Option Takes → List (List ℕ) → Option Why
named_why places at twice text None ws = Some UnknownWord
named_why places at twice text (Some t) ws = takes_why places at twice text t ws

-- why what stands behind a label is
unfoldable pub statement_why : (List ℕ → Option Place) → ℕ → Bool → Option (List ℕ) → List (List ℕ) → Option Why
statement_why places at twice text [] = if twice then Some LabelTwice else None
statement_why places at twice text (w ∷ ws) = named_why places at twice text (takes_named w) ws

-- why the words of a line are, by its number and address
abbrev pub words_why : (List ℕ → Option Place) → ℕ → ℕ → Option (List ℕ) → List (List ℕ) → Option Why
words_why places number at text ws = if is_misplaced ws then Some UnknownWord else statement_why places at (is_twice places number (label_of_words ws)) text (behind_label ws)

-- the image has more bytes than it may have with these, and hadn't before
abbrev pub long_why : ℕ → ℕ → Option Why
long_why at size = if nat_le at 65536 && nat_lt 65536 (at + size) then Some TooLong else None

-- why a line is
unfoldable pub line_why : (List ℕ → Option Place) → ℕ → ℕ → List ℕ → Option Why
line_why places number at line = or_why (words_why places number at (text_in (without_comment line)) (source_words (without_comment line))) (long_why at (line_size at line))
