-- Calls with operands: a line that stands for the instructions which set a call's registers and make it.
use Rattle.std.specs.Prelude.{ℕ, zero, suc, Bool, true, false, ◌==◌, ◌&&◌, ◌||◌, nat_lt, ◌+◌, ◌-◌, ◌*◌, ◌/◌, ◌%◌, if◌then◌else◌, Option, None, Some, Result, Ok, Err, List, [], ◌∷◌, ◌++◌, codes, length}
use Rattle.dm_processor.specs.Opcodes.{opcode_number}
use Rattle.dm_processor.specs.declared.opcodes.Opcode.TheVariants.{Li, Mov, Sys}
use Rattle.dm_asm.specs.declared.calls.Argument.{Argument}
use Rattle.dm_asm.specs.declared.calls.Argument.TheVariants.{Register, Value}
use Rattle.dm_asm.specs.declared.calls.CallWord.{CallWord}
use Rattle.dm_asm.specs.declared.calls.CallWord.TheVariants as call
use Rattle.dm_asm.specs.declared.labels.Place.{Place}
use Rattle.dm_asm.specs.declared.refusals.Why.{Why}
use Rattle.dm_asm.specs.declared.refusals.Why.TheVariants.{BadRegister}
use Rattle.dm_asm.specs.Numbers.{register_of}
use Rattle.dm_asm.specs.Operands.{operand_value}
use Rattle.dm_asm.specs.Refusals.{◌>>=◌}

-- each call: its word, its number, and how many registers it reads, from r1 on
abbrev pub call_row : CallWord → List ℕ × ℕ × ℕ
call_row call.Exit = (codes "exit", 1, 0)
call_row call.Out = (codes "out", 2, 1)
call_row call.Make = (codes "make", 3, 5)
call_row call.Copy = (codes "copy", 4, 1)
call_row call.Drop = (codes "drop", 5, 1)
call_row call.Send = (codes "send", 6, 5)
call_row call.Receive = (codes "receive", 7, 3)
call_row call.Move = (codes "move", 8, 5)

abbrev pub call_word : CallWord → List ℕ
call_word c = (call_row c).0

abbrev pub call_code : CallWord → ℕ
call_code c = (call_row c).1

abbrev pub call_registers : CallWord → ℕ
call_registers c = (call_row c).2

-- every call, in order of the numbers
abbrev pub call_words : List CallWord
call_words = call.Exit ∷ call.Out ∷ call.Make ∷ call.Copy ∷ call.Drop ∷ call.Send ∷ call.Receive ∷ call.Move ∷ []

-- whether a call can have so many operands
abbrev pub takes_arguments : CallWord → ℕ → Bool
takes_arguments call.Exit n = n == 0
takes_arguments call.Out n = n == 1
takes_arguments call.Make n = (n == 3) || (n == 5)
takes_arguments call.Copy n = n == 1
takes_arguments call.Drop n = n == 1
takes_arguments call.Send n = (n == 1) || (n == 3) || (n == 5)
takes_arguments call.Receive n = (n == 1) || (n == 3)
takes_arguments call.Move n = n == 5

-- whether an operand may be a value: OUT's is a register
abbrev pub takes_values : CallWord → Bool
takes_values call.Out = false
takes_values call.Exit = true
takes_values call.Make = true
takes_values call.Copy = true
takes_values call.Drop = true
takes_values call.Send = true
takes_values call.Receive = true
takes_values call.Move = true

-- the operand for a register comes behind those which set r1 to the one before it, and this is one of them
abbrev pub is_set : ℕ → ℕ → Bool
is_set r q = nat_lt 0 q && nat_lt q r

-- the operand for a register, where it is this register or none
abbrev pub argument_by : (List ℕ → Option Place) → CallWord → ℕ → List ℕ → Option ℕ → Result Argument Why
argument_by places c r word (Some q) = if is_set r q then Err BadRegister else Ok (Register q)
argument_by places c r word None = if takes_values c then (operand_value places 65535 word >>= λ v. Ok (Value v)) else Err BadRegister

-- the operand for a register: another register, which no operand before it has set, or a value
unfoldable pub argument_of : (List ℕ → Option Place) → CallWord → ℕ → List ℕ → Result Argument Why
argument_of places c r word = argument_by places c r word (register_of word)

-- the instruction that sets a register: mov from another, or li
abbrev pub setting : ℕ → Argument → List ℕ
setting r (Register q) = opcode_number Mov ∷ r ∷ q ∷ 0 ∷ []
setting r (Value v) = opcode_number Li ∷ r ∷ v / 256 ∷ v % 256 ∷ []

-- the instructions that set the registers from one on, each to its operand
unfoldable pub settings : (List ℕ → Option Place) → CallWord → ℕ → List (List ℕ) → Result (List ℕ) Why
settings places c r [] = Ok []
settings places c r (w ∷ ws) = do
  a ← argument_of places c r w
  others ← settings places c (r + 1) ws
  Ok (setting r a ++ others)

-- the instructions that set so many registers from one on to 0
unfoldable pub cleared : ℕ → ℕ → List ℕ
cleared r zero = []
cleared r (suc n) = setting r (Value 0) ++ cleared (r + 1) n

-- the instruction that makes the call
abbrev pub making : CallWord → List ℕ
making c = opcode_number Sys ∷ 0 ∷ 0 ∷ call_code c ∷ []

-- the registers that have no operand are set to 0, and the call is made
abbrev pub call_rest : CallWord → ℕ → List ℕ
call_rest c operands = cleared (1 + operands) (call_registers c - operands) ++ making c

-- the bytes of a call with its operands
unfoldable pub call_bytes : (List ℕ → Option Place) → CallWord → List (List ℕ) → Result (List ℕ) Why
call_bytes places c ws = do
  set ← settings places c 1 ws
  Ok (set ++ call_rest c (length ws))

-- how many bytes a call with its operands makes, whatever these are
abbrev pub call_size : CallWord → ℕ
call_size c = 4 * call_registers c + 4
