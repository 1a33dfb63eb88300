-- Every instruction keeps registers of 32 bits and bytes of 8.
use Rattle.dm_processor.proofs.Names.{ℕ, zero, suc, Bool, true, false, cond, ◌+◌, ◌/◌, ◌%◌, ◌^◌, ◌<◌, List, [], ◌∷◌, ◌++◌, take, drop, get_or, slice_index, Option, Some, None, arith, set, div-le_self, nat_tests, and_le_l, or_of_32}
use Rattle.dm_processor.proofs.Names.{xor_of_32, bit_and, Regs, UnknownOpcode, Opcode, Li, Lih, Mov, Add, Sub, Mul, And, Or, Xor, Shl, Shr, Lw, Sw, Lb, Sb, Jmp, Beq, Bne, Bltu, Sys, opcode_of, Row, Faults, effect, instruction}
use Rattle.dm_processor.proofs.Names.{operation_row, word_row, byte_row, branch_pc, with_reg, with_word, word_at, word_bytes, past, register_at, AreBytes, AreWords, KeepsRanges}

-- a list with another item
set-range : (xs : List ℕ) (n i v : ℕ) → ((k : ℕ) → get_or xs k 0 < n) → v < n → (k : ℕ) → get_or (set xs i v) k 0 < n
set-range [] n i v h j k = h k
set-range (x ∷ xs) n zero v h j zero = j
set-range (x ∷ xs) n zero v h j (suc k) = h (suc k)
set-range (x ∷ xs) n (suc i) v h j zero = h zero
set-range (x ∷ xs) n (suc i) v h j (suc k) = set-range xs n i v (λ q. h (suc q)) j k

-- two lists
append-range : (xs ys : List ℕ) (n : ℕ) → ((k : ℕ) → get_or xs k 0 < n) → ((k : ℕ) → get_or ys k 0 < n) → (k : ℕ) → get_or (xs ++ ys) k 0 < n
append-range [] ys n h j k = j k
append-range (x ∷ xs) ys n h j zero = h zero
append-range (x ∷ xs) ys n h j (suc k) = append-range xs ys n (λ q. h (suc q)) j k

-- the first items
take-range : (xs : List ℕ) (i n : ℕ) → ((k : ℕ) → get_or xs k 0 < n) → (k : ℕ) → get_or (take i xs) k 0 < n
take-range [] zero n h k = h k
take-range [] (suc i) n h k = h k
take-range (x ∷ xs) zero n h k = omega (arith, h zero)
take-range (x ∷ xs) (suc i) n h zero = h zero
take-range (x ∷ xs) (suc i) n h (suc k) = take-range xs i n (λ q. h (suc q)) k

-- all but the first items
drop-range : (xs : List ℕ) (i n : ℕ) → ((k : ℕ) → get_or xs k 0 < n) → (k : ℕ) → get_or (drop i xs) k 0 < n
drop-range xs zero n h k = h k
drop-range [] (suc i) n h k = h k
drop-range (x ∷ xs) (suc i) n h k = drop-range xs i n (λ q. h (suc q)) k

-- the bytes of a word
word_bytes-range : (w k : ℕ) → get_or (word_bytes w) k 0 < 2 ^ 8
word_bytes-range w zero = omega arith
word_bytes-range w (suc zero) = omega arith
word_bytes-range w (suc (suc zero)) = omega arith
word_bytes-range w (suc (suc (suc zero))) = omega arith
word_bytes-range w (suc (suc (suc (suc k)))) = omega arith

-- a memory with a word that was written
with_word-range : (m : List ℕ) (at w : ℕ) → AreBytes m → AreBytes (with_word m at w)
with_word-range m at w h =
    append-range (take at m ++ word_bytes w) (drop (at + 4) m) (2 ^ 8) (append-range (take at m) (word_bytes w) (2 ^ 8) (take-range m at (2 ^ 8) h) (word_bytes-range w)) (drop-range m (at + 4) (2 ^ 8) h)

-- a word that is read
word_at-range : (m : List ℕ) (at : ℕ) → AreBytes m → word_at m at < 2 ^ 32
word_at-range m at h = omega (arith, h at, h (at + 1), h (at + 2), h (at + 3))

-- a register with another value
with_reg-range : (regs : Regs) (k v : ℕ) → AreWords regs → v < 2 ^ 32 → AreWords (with_reg regs k v)
with_reg-range regs k v h j = (set-range regs.r (2 ^ 32) k v h.0 j, omega arith)

-- the next instruction
past-range : (regs : Regs) → AreWords regs → AreWords (past regs)
past-range regs h = (h.0, omega arith)

-- after a branch
branch_pc-range : (taken : Bool) (pc c : ℕ) → branch_pc taken pc c < 2 ^ 32
branch_pc-range true pc c = grind (arith, nat_tests)
branch_pc-range false pc c = omega arith

-- the bits of two numbers
bit_and-range : (a b : ℕ) → a < 2 ^ 32 → bit_and a b < 2 ^ 32
bit_and-range a b h = omega (arith, and_le_l a b)

-- a number shifted down
div-range : (a b : ℕ) → a < 2 ^ 32 → a / b < 2 ^ 32
div-range a b h = omega (arith, div-le_self a b)

-- where a word has its place
ranges_word : (m : List ℕ) (at : ℕ) (row : Row) → KeepsRanges row → KeepsRanges (word_row m at row)
ranges_word m at row h = grind (arith, nat_tests)

-- where a byte has its place
ranges_byte : (m : List ℕ) (at : ℕ) (row : Row) → KeepsRanges row → KeepsRanges (byte_row m at row)
ranges_byte m at row h = grind (arith, nat_tests)

-- the table
effect-ranges : (op : Opcode) (regs : Regs) (m : List ℕ) (a b c : ℕ) → AreWords regs → AreBytes m → b < 2 ^ 8 → c < 2 ^ 8 → KeepsRanges (effect op regs m a b c)
effect-ranges Li regs m a b c w y i j = (with_reg-range regs a _ w (omega arith), y)
effect-ranges Lih regs m a b c w y i j = (with_reg-range regs a _ w (omega arith), y)
effect-ranges Mov regs m a b c w y i j = (with_reg-range regs a _ w (w.0 b), y)
effect-ranges Add regs m a b c w y i j = (with_reg-range regs a _ w (omega arith), y)
effect-ranges Sub regs m a b c w y i j = (with_reg-range regs a _ w (omega arith), y)
effect-ranges Mul regs m a b c w y i j = (with_reg-range regs a _ w (omega arith), y)
effect-ranges And regs m a b c w y i j = (with_reg-range regs a _ w (bit_and-range _ _ (w.0 b)), y)
effect-ranges Or regs m a b c w y i j = (with_reg-range regs a _ w (or_of_32 _ _ (w.0 b) (w.0 c)), y)
effect-ranges Xor regs m a b c w y i j = (with_reg-range regs a _ w (xor_of_32 _ _ (w.0 b) (w.0 c)), y)
effect-ranges Shl regs m a b c w y i j = (with_reg-range regs a _ w (omega arith), y)
effect-ranges Shr regs m a b c w y i j = (with_reg-range regs a _ w (div-range _ _ (w.0 b)), y)
effect-ranges Lw regs m a b c w y i j =
    ranges_word m (register_at regs b + c) _ (with_reg-range regs a _ w (word_at-range m (register_at regs b + c) y), y)
effect-ranges Sw regs m a b c w y i j =
    ranges_word m (register_at regs b + c) _ (past-range regs w, with_word-range m (register_at regs b + c) (register_at regs a) y)
effect-ranges Lb regs m a b c w y i j =
    ranges_byte m (register_at regs b + c) _ (with_reg-range regs a _ w (omega (arith, y (register_at regs b + c))), y)
effect-ranges Sb regs m a b c w y i j =
    ranges_byte m (register_at regs b + c) _ (past-range regs w, set-range m (2 ^ 8) (register_at regs b + c) (register_at regs a % 256) y (omega arith))
effect-ranges Jmp regs m a b c w y i j = ((w.0, omega arith), y)
effect-ranges Beq regs m a b c w y i j = ((w.0, branch_pc-range _ regs.pc c), y)
effect-ranges Bne regs m a b c w y i j = ((w.0, branch_pc-range _ regs.pc c), y)
effect-ranges Bltu regs m a b c w y i j = ((w.0, branch_pc-range _ regs.pc c), y)
effect-ranges Sys regs m a b c w y i j = (j, past-range regs w)

-- an instruction, if it is one
tested : (t : Bool) (row : Row) → KeepsRanges row → KeepsRanges (cond t row (Faults UnknownOpcode))
tested true row h = h
tested false row h = tt

operation-ranges : (op : Option Opcode) (regs : Regs) (m : List ℕ) (a b c : ℕ) → AreWords regs → AreBytes m → b < 2 ^ 8 → c < 2 ^ 8 → KeepsRanges (operation_row op regs m a b c)
operation-ranges None regs m a b c w y i j = tt
operation-ranges (Some op) regs m a b c w y i j = tested _ _ (effect-ranges op regs m a b c w y i j)

-- every instruction
pub instruction-ranges : (regs : Regs) (m : List ℕ) → AreWords regs → AreBytes m → KeepsRanges (instruction regs m)
unfolding instruction
instruction-ranges regs m w y =
    ranges_word m regs.pc _ (operation-ranges (opcode_of (slice_index m regs.pc)) regs m (slice_index m (regs.pc + 1)) (slice_index m (regs.pc + 2)) (slice_index m (regs.pc + 3)) w y (y (regs.pc + 2)) (y (regs.pc + 3)))
