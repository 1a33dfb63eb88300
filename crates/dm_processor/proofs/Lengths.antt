-- Every instruction keeps the number of the registers and the length of the memory.
use Rattle.dm_processor.proofs.Names.{ℕ, Bool, true, false, cond, ◌≡◌, ◌+◌, ◌≤◌, List, length, slice_index, Option, Some, None, refl, arith, length-set, common_steps, nat_tests, Regs, UnknownOpcode, Opcode, Li, Lih, Mov, Add, Sub, Mul, And}
use Rattle.dm_processor.proofs.Names.{Or, Xor, Shl, Shr, Lw, Sw, Lb, Sb, Jmp, Beq, Bne, Bltu, Sys, opcode_of, Row, Faults, effect, instruction, operation_row, word_row, byte_row, with_word, register_at, KeepsLengths}

-- a word that is written
length-with_word : (m : List ℕ) (at w : ℕ) → at + 4 ≤ length m → length (with_word m at w) ≡ length m
length-with_word m at w h = grind (arith, common_steps)

-- where a word has its place
lengths_word : (regs : Regs) (m : List ℕ) (at : ℕ) (row : Row) → (at + 4 ≤ length m → KeepsLengths row regs m) → KeepsLengths (word_row m at row) regs m
lengths_word regs m at row h = grind (arith, nat_tests)

-- where a byte has its place
lengths_byte : (regs : Regs) (m : List ℕ) (at : ℕ) (row : Row) → KeepsLengths row regs m → KeepsLengths (byte_row m at row) regs m
lengths_byte regs m at row h = grind (arith, nat_tests)

-- the table
pub effect-lengths : (op : Opcode) (regs : Regs) (m : List ℕ) (a b c : ℕ) → KeepsLengths (effect op regs m a b c) regs m
effect-lengths Li regs m a b c = (length-set regs.r a _, refl)
effect-lengths Lih regs m a b c = (length-set regs.r a _, refl)
effect-lengths Mov regs m a b c = (length-set regs.r a _, refl)
effect-lengths Add regs m a b c = (length-set regs.r a _, refl)
effect-lengths Sub regs m a b c = (length-set regs.r a _, refl)
effect-lengths Mul regs m a b c = (length-set regs.r a _, refl)
effect-lengths And regs m a b c = (length-set regs.r a _, refl)
effect-lengths Or regs m a b c = (length-set regs.r a _, refl)
effect-lengths Xor regs m a b c = (length-set regs.r a _, refl)
effect-lengths Shl regs m a b c = (length-set regs.r a _, refl)
effect-lengths Shr regs m a b c = (length-set regs.r a _, refl)
effect-lengths Lw regs m a b c = lengths_word regs m (register_at regs b + c) _ (λ h. (length-set regs.r a _, refl))
effect-lengths Sw regs m a b c =
    lengths_word regs m (register_at regs b + c) _ (λ h. (refl, length-with_word m (register_at regs b + c) (register_at regs a) h))
effect-lengths Lb regs m a b c = lengths_byte regs m (register_at regs b + c) _ (length-set regs.r a _, refl)
effect-lengths Sb regs m a b c = lengths_byte regs m (register_at regs b + c) _ (refl, length-set m (register_at regs b + c) _)
effect-lengths Jmp regs m a b c = (refl, refl)
effect-lengths Beq regs m a b c = (refl, refl)
effect-lengths Bne regs m a b c = (refl, refl)
effect-lengths Bltu regs m a b c = (refl, refl)
effect-lengths Sys regs m a b c = refl

-- an instruction, if it is one
tested : (t : Bool) (row : Row) (regs : Regs) (m : List ℕ) → KeepsLengths row regs m → KeepsLengths (cond t row (Faults UnknownOpcode)) regs m
tested true row regs m h = h
tested false row regs m h = tt

operation-lengths : (op : Option Opcode) (regs : Regs) (m : List ℕ) (a b c : ℕ) → KeepsLengths (operation_row op regs m a b c) regs m
operation-lengths None regs m a b c = tt
operation-lengths (Some op) regs m a b c = tested _ _ regs m (effect-lengths op regs m a b c)

-- every instruction
pub instruction-lengths : (regs : Regs) (m : List ℕ) → KeepsLengths (instruction regs m) regs m
unfolding instruction
instruction-lengths regs m = lengths_word regs m regs.pc _ (λ h. operation-lengths (opcode_of (slice_index m regs.pc)) regs m (slice_index m (regs.pc + 1)) (slice_index m (regs.pc + 2)) (slice_index m (regs.pc + 3)))
