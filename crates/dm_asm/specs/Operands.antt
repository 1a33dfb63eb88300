-- The values of operands, one after the other.
use Rattle.std.specs.Prelude.{ℕ, Bool, ◌==◌, ◌&&◌, nat_lt, nat_le, ◌+◌, ◌-◌, ◌/◌, ◌%◌, if◌then◌else◌, Option, None, Some, ok_or, Result, Ok, Err, List, [], ◌∷◌, take, drop}
use Rattle.std.specs.List.{position}
use Rattle.dm_asm.specs.declared.forms.Shape.{Shape}
use Rattle.dm_asm.specs.declared.forms.Shape.TheVariants.{RegisterValue, TwoRegisters, ThreeRegisters, Access, Jump, Branch, Call}
use Rattle.dm_asm.specs.declared.labels.Place.{Place}
use Rattle.dm_asm.specs.declared.refusals.Why.{Why}
use Rattle.dm_asm.specs.declared.refusals.Why.TheVariants.{BadRegister, BadNumber, OutOfRange, UnknownLabel, OperandCount}
use Rattle.dm_asm.specs.Numbers.{begins_name, call_named, is_label_name, is_multiple, literal_value, register_of}
use Rattle.dm_asm.specs.Refusals.{◌>>=◌}

-- a number that is at most so large
abbrev pub within_range : ℕ → ℕ → Result ℕ Why
within_range most n = if nat_le n most then Ok n else Err OutOfRange

-- a number that must be there, and at most so large
abbrev pub wanted_number : ℕ → Option ℕ → Result ℕ Why
wanted_number most n = ok_or n BadNumber >>= within_range most

-- a number of which an address is to be a multiple
abbrev pub wanted_multiple : Option ℕ → Result ℕ Why
wanted_multiple n = ok_or n BadNumber >>= λ m. if is_multiple m then Ok m else Err OutOfRange

-- a plus sign
abbrev pub is_plus : ℕ → Bool
is_plus c = c == 43

-- a label's value and a number more
abbrev pub value_behind : (List ℕ → Option Place) → ℕ → List ℕ → ℕ → Result ℕ Why
value_behind places most name more = ok_or (places name) UnknownLabel >>= λ place. within_range most (place.address + more)

-- a label's value, or that and the number behind a plus sign at a place of the word
abbrev pub named_value : (List ℕ → Option Place) → ℕ → List ℕ → Option ℕ → Result ℕ Why
named_value places most word None = value_behind places most word 0
named_value places most word (Some i) = ok_or (literal_value (drop (i + 1) word)) BadNumber >>= value_behind places most (take i word)

-- a number, a label, or a label and a number more
unfoldable pub operand_value : (List ℕ → Option Place) → ℕ → List ℕ → Result ℕ Why
operand_value places most word = if begins_name word then named_value places most word (position is_plus word) else wanted_number most (literal_value word)

-- the number of a call that is named, or else what follows
abbrev pub named_or : Option ℕ → Result ℕ Why → Result ℕ Why
named_or None other = other
named_or (Some n) other = Ok n

-- the number of a call, or the name of one
unfoldable pub call_value : List ℕ → Result ℕ Why
call_value word = named_or (call_named word) (wanted_number 255 (literal_value word))

-- how many words it is from behind an instruction to a target, as a byte: -128 to 127
abbrev pub distance : ℕ → ℕ → Result ℕ Why
distance at target =
    if nat_le (at + 4) target
    then (if ((target - (at + 4)) % 4 == 0) && nat_lt (target - (at + 4)) 512 then Ok ((target - (at + 4)) / 4) else Err OutOfRange)
    else (if ((at + 4 - target) % 4 == 0) && nat_le (at + 4 - target) 512 then Ok (256 - (at + 4 - target) / 4) else Err OutOfRange)

-- the distance to a label
unfoldable pub distance_of : (List ℕ → Option Place) → ℕ → List ℕ → Result ℕ Why
distance_of places at word = if begins_name word then ok_or (places word) UnknownLabel >>= (λ place. distance at place.address) else Err BadNumber

-- the value of the next word, and the words behind it
abbrev pub next_operand : (List ℕ → Result ℕ Why) → List (List ℕ) → Result (ℕ × List (List ℕ)) Why
next_operand value [] = Err OperandCount
next_operand value (w ∷ ws) = do
  v ← value w
  Ok (v, ws)

-- a register
unfoldable pub register : List (List ℕ) → Result (ℕ × List (List ℕ)) Why
register ws = next_operand (λ w. ok_or (register_of w) BadRegister) ws

-- a number that is at most so large
unfoldable pub number_operand : ℕ → List (List ℕ) → Result (ℕ × List (List ℕ)) Why
number_operand most ws = next_operand (λ w. wanted_number most (literal_value w)) ws

-- a label to which .equ may give a value; it counts 0
abbrev pub wanted_name : List ℕ → Result ℕ Why
wanted_name word = if is_label_name word then Ok 0 else Err BadNumber

-- such a label
unfoldable pub name_operand : List (List ℕ) → Result (ℕ × List (List ℕ)) Why
name_operand ws = next_operand wanted_name ws

-- a number of which an address is to be a multiple
unfoldable pub multiple : List (List ℕ) → Result (ℕ × List (List ℕ)) Why
multiple ws = next_operand (λ w. wanted_multiple (literal_value w)) ws

-- a number or a label that is at most so large
unfoldable pub value : (List ℕ → Option Place) → ℕ → List (List ℕ) → Result (ℕ × List (List ℕ)) Why
value places most ws = next_operand (operand_value places most) ws

-- the distance to a label
unfoldable pub target : (List ℕ → Option Place) → ℕ → List (List ℕ) → Result (ℕ × List (List ℕ)) Why
target places at ws = next_operand (distance_of places at) ws

-- a call
unfoldable pub call_operand : List (List ℕ) → Result (ℕ × List (List ℕ)) Why
call_operand ws = next_operand call_value ws

-- the three last bytes of an instruction at an address
unfoldable pub fields : (List ℕ → Option Place) → ℕ → Shape → List (List ℕ) → Result (List ℕ) Why
fields places at RegisterValue ws = do
  a ← register ws
  v ← value places 65535 a.1
  Ok (a.0 ∷ v.0 / 256 ∷ v.0 % 256 ∷ [])
fields places at TwoRegisters ws = do
  a ← register ws
  b ← register a.1
  Ok (a.0 ∷ b.0 ∷ 0 ∷ [])
fields places at ThreeRegisters ws = do
  a ← register ws
  b ← register a.1
  c ← register b.1
  Ok (a.0 ∷ b.0 ∷ c.0 ∷ [])
fields places at Access ws = do
  a ← register ws
  b ← register a.1
  c ← number_operand 255 b.1
  Ok (a.0 ∷ b.0 ∷ c.0 ∷ [])
fields places at Jump ws = do
  v ← value places 65535 ws
  Ok (0 ∷ v.0 / 256 ∷ v.0 % 256 ∷ [])
fields places at Branch ws = do
  a ← register ws
  b ← register a.1
  d ← target places at b.1
  Ok (a.0 ∷ b.0 ∷ d.0 ∷ [])
fields places at Call ws = do
  n ← call_operand ws
  Ok (0 ∷ 0 ∷ n.0 ∷ [])
