-- The lines that a call with its operands stands for, instruction by instruction.
use Rattle.std.specs.Prelude.{ℕ, ◌+◌, ◌-◌, if◌then◌else◌, Option, Result, Ok, List, [], ◌∷◌, ◌++◌, codes, length, replicate}
use Rattle.std.specs.Option.{is_some}
use Rattle.dm_processor.specs.declared.opcodes.Opcode.{Opcode}
use Rattle.dm_processor.specs.declared.opcodes.Opcode.TheVariants.{Li, Mov, Sys}
use Rattle.dm_asm.specs.Calls.{call_code, call_registers}
use Rattle.dm_asm.specs.Numbers.{register_of}
use Rattle.dm_asm.specs.Refusals.{◌>>=◌}
use Rattle.dm_asm.specs.Statements.{instruction_bytes}
use Rattle.dm_asm.specs.declared.calls.CallWord.{CallWord}
use Rattle.dm_asm.specs.declared.labels.Place.{Place}
use Rattle.dm_asm.specs.declared.refusals.Why.{Why}

-- the word of a register below 10
abbrev pub register_word : ℕ → List ℕ
register_word r = 114 ∷ (48 + r) ∷ []

-- the instruction that sets a register to an operand, and its operands: mov from a register, or li
abbrev pub setting_line : ℕ → List ℕ → Opcode × List (List ℕ)
setting_line r w = (if is_some (register_of w) then Mov else Li, register_word r ∷ w ∷ [])

-- those that set the registers from one on, each to its operand
unfoldable pub setting_lines : ℕ → List (List ℕ) → List (Opcode × List (List ℕ))
setting_lines r [] = []
setting_lines r (w ∷ ws) = setting_line r w ∷ setting_lines (r + 1) ws

-- the instruction that makes a call
abbrev pub making_line : CallWord → Opcode × List (List ℕ)
making_line c = (Sys, ((48 + call_code c) ∷ []) ∷ [])

-- the instructions of a call: each register is set, to 0 where it has no operand, and the call is made
abbrev pub call_lines : CallWord → List (List ℕ) → List (Opcode × List (List ℕ))
call_lines c ws = setting_lines 1 ws ++ (setting_lines (1 + length ws) (replicate (call_registers c - length ws) (codes "0")) ++ making_line c ∷ [])

-- the bytes of instructions, one after the other
unfoldable pub lines_bytes : (List ℕ → Option Place) → ℕ → List (Opcode × List (List ℕ)) → Result (List ℕ) Why
lines_bytes places at [] = Ok []
lines_bytes places at (l ∷ ls) = do
  first ← instruction_bytes places at l.0 l.1
  others ← lines_bytes places (at + 4) ls
  Ok (first ++ others)
