-- The instruction table: what one instruction does to the registers and the memory.
use Rattle.std.specs.Prelude.{ℕ, Bool, ◌≡◌, ◌==◌, ◌&&◌, ◌||◌, not, nat_lt, nat_le, ◌+◌, ◌-◌, ◌*◌, ◌/◌, ◌%◌, ◌^◌, if◌then◌else◌, Option, Some, None, List, [], ◌∷◌, ◌++◌, length, take, drop, slice_index, slice_set, bit_and, bit_or, bit_xor}
use Rattle.dm_processor.specs.declared.registers.Regs.{Regs}
use Rattle.dm_processor.specs.declared.registers.Fault.{Fault}
use Rattle.dm_processor.specs.declared.registers.Fault.TheVariants.{OutOfRange, UnknownOpcode, Unaligned}
use Rattle.dm_processor.specs.declared.registers.Stepped.{Stepped}
use Rattle.dm_processor.specs.declared.registers.Stepped.TheVariants as stepped
use Rattle.dm_processor.specs.declared.opcodes.Opcode.{Opcode}
use Rattle.dm_processor.specs.declared.opcodes.Opcode.TheVariants.{Li, Lih, Mov, Add, Sub, Mul, And, Or, Xor, Shl, Shr, Lw, Sw, Lb, Sb, Jmp, Beq, Bne, Bltu, Sys}
use Rattle.dm_processor.specs.Opcodes.{opcode_of}
pub use Rattle.dm_processor.specs.Opcodes.{register_fields}

-- what an instruction comes to: new registers and memory, a call of the kernel, or a fault that changes nothing
pub data Row : Type 0 where
  Plain : (regs : Regs) → (bytes : List ℕ) → Row
  Calls : (number : ℕ) → (regs : Regs) → Row
  Faults : (fault : Fault) → Row

-- a register
abbrev pub register_at : Regs → ℕ → ℕ
register_at regs k = slice_index regs.r k

-- the registers when the instruction is over and none has changed
abbrev pub past : Regs → Regs
past regs = record { r = regs.r; pc = (regs.pc + 4) % 2 ^ 32 }

-- the registers when the instruction is over and one has a new value
abbrev pub with_reg : Regs → ℕ → ℕ → Regs
with_reg regs k value = record { r = slice_set regs.r k value; pc = (regs.pc + 4) % 2 ^ 32 }

-- the registers after a jump
abbrev pub at_pc : Regs → ℕ → Regs
at_pc regs pc = record { r = regs.r; pc = pc }

-- the number in the two last bytes of an instruction
abbrev pub immediate : ℕ → ℕ → ℕ
immediate b c = 256 * b + c

-- where a branch goes: 4 + 4d on, modulo 2^32, where d is c below 128, and c - 256 from there on
abbrev pub branch_target : ℕ → ℕ → ℕ
branch_target pc c =
    if nat_lt c 128 then (pc + 4 + 4 * c) % 2 ^ 32 else (pc + 4 + 2 ^ 32 - 4 * (256 - c)) % 2 ^ 32

-- the word at an address, its highest byte first
abbrev pub word_at : List ℕ → ℕ → ℕ
word_at bytes at =
    2 ^ 24 * slice_index bytes at + 2 ^ 16 * slice_index bytes (at + 1) + 2 ^ 8 * slice_index bytes (at + 2) + slice_index bytes (at + 3)

-- the four bytes of a word, its highest byte first
abbrev pub word_bytes : ℕ → List ℕ
word_bytes w = w / 2 ^ 24 % 256 ∷ w / 2 ^ 16 % 256 ∷ w / 2 ^ 8 % 256 ∷ w % 256 ∷ []

-- the memory with a word at an address
abbrev pub with_word : List ℕ → ℕ → ℕ → List ℕ
with_word bytes at w = take at bytes ++ word_bytes w ++ drop (at + 4) bytes

-- what stands where a word has its place: range first, then alignment
abbrev pub word_row : List ℕ → ℕ → Row → Row
word_row bytes at row =
    if nat_le (at + 4) (length bytes) then (if at % 4 == 0 then row else Faults Unaligned) else Faults OutOfRange

-- what stands where a byte has its place
abbrev pub byte_row : List ℕ → ℕ → Row → Row
byte_row bytes at row = if nat_lt at (length bytes) then row else Faults OutOfRange

-- the program counter after a branch, taken or not
abbrev pub branch_pc : Bool → ℕ → ℕ → ℕ
branch_pc taken pc c = if taken then branch_target pc c else (pc + 4) % 2 ^ 32

-- a branch
abbrev pub branch_row : Bool → Regs → List ℕ → ℕ → Row
branch_row taken regs bytes c = Plain (at_pc regs (branch_pc taken regs.pc c)) bytes

-- the table, with an instruction's last three bytes
abbrev pub effect : Opcode → Regs → List ℕ → ℕ → ℕ → ℕ → Row
effect Li regs m a b c = Plain (with_reg regs a (immediate b c)) m
effect Lih regs m a b c = Plain (with_reg regs a (register_at regs a % 65536 + 65536 * immediate b c)) m
effect Mov regs m a b c = Plain (with_reg regs a (register_at regs b)) m
effect Add regs m a b c = Plain (with_reg regs a ((register_at regs b + register_at regs c) % 2 ^ 32)) m
effect Sub regs m a b c = Plain (with_reg regs a ((register_at regs b + 2 ^ 32 - register_at regs c) % 2 ^ 32)) m
effect Mul regs m a b c = Plain (with_reg regs a ((register_at regs b * register_at regs c) % 2 ^ 32)) m
effect And regs m a b c = Plain (with_reg regs a (bit_and (register_at regs b) (register_at regs c))) m
effect Or regs m a b c = Plain (with_reg regs a (bit_or (register_at regs b) (register_at regs c))) m
effect Xor regs m a b c = Plain (with_reg regs a (bit_xor (register_at regs b) (register_at regs c))) m
effect Shl regs m a b c = Plain (with_reg regs a ((register_at regs b * 2 ^ (register_at regs c % 32)) % 2 ^ 32)) m
effect Shr regs m a b c = Plain (with_reg regs a (register_at regs b / 2 ^ (register_at regs c % 32))) m
effect Lw regs m a b c = word_row m (register_at regs b + c) (Plain (with_reg regs a (word_at m (register_at regs b + c))) m)
effect Sw regs m a b c = word_row m (register_at regs b + c) (Plain (past regs) (with_word m (register_at regs b + c) (register_at regs a)))
effect Lb regs m a b c = byte_row m (register_at regs b + c) (Plain (with_reg regs a (slice_index m (register_at regs b + c))) m)
effect Sb regs m a b c = byte_row m (register_at regs b + c) (Plain (past regs) (slice_set m (register_at regs b + c) (register_at regs a % 256)))
effect Jmp regs m a b c = Plain (at_pc regs (immediate b c)) m
effect Beq regs m a b c = branch_row (register_at regs a == register_at regs b) regs m c
effect Bne regs m a b c = branch_row (not (register_at regs a == register_at regs b)) regs m c
effect Bltu regs m a b c = branch_row (nat_lt (register_at regs a) (register_at regs b)) regs m c
effect Sys regs m a b c = Calls c (past regs)

-- whether the bytes that name registers name some
abbrev pub names_registers : ℕ → ℕ → ℕ → ℕ → Bool
names_registers n a b c = (nat_le n 0 || nat_lt a 16) && (nat_le n 1 || nat_lt b 16) && (nat_le n 2 || nat_lt c 16)

-- an instruction of an operation
abbrev pub operation_row : Option Opcode → Regs → List ℕ → ℕ → ℕ → ℕ → Row
operation_row None regs m a b c = Faults UnknownOpcode
operation_row (Some op) regs m a b c =
    if names_registers (register_fields op) a b c then effect op regs m a b c else Faults UnknownOpcode

-- what the instruction at the program counter comes to
unfoldable pub instruction : Regs → List ℕ → Row
instruction regs m =
    word_row m regs.pc
    (operation_row (opcode_of (slice_index m regs.pc)) regs m (slice_index m (regs.pc + 1)) (slice_index m (regs.pc + 2)) (slice_index m (regs.pc + 3)))

-- a result, with new registers and memory, is what a row says of the old ones
abbrev pub DoesRow : Stepped → Regs → List ℕ → Row → Regs → List ℕ → Type 0
DoesRow result regs bytes (Plain r m) old_regs old_bytes = (result ≡ stepped.Plain) × (regs ≡ r) × (bytes ≡ m)
DoesRow result regs bytes (Calls n r) old_regs old_bytes = (result ≡ stepped.Call n) × (regs ≡ r) × (bytes ≡ old_bytes)
DoesRow result regs bytes (Faults fault) old_regs old_bytes =
    (result ≡ stepped.Fault fault) × (regs ≡ old_regs) × (bytes ≡ old_bytes)
