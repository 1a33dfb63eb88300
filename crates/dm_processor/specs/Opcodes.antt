-- The operations: the number, the word and the registers of each.
use Rattle.std.specs.Prelude.{ℕ, ◌==◌, Option, List, [], ◌∷◌, codes}
use Rattle.std.specs.List.{find}
use Rattle.dm_processor.specs.declared.opcodes.Opcode.{Opcode}
use Rattle.dm_processor.specs.declared.opcodes.Opcode.TheVariants.{Li, Lih, Mov, Add, Sub, Mul, And, Or, Xor, Shl, Shr, Lw, Sw, Lb, Sb, Jmp, Beq, Bne, Bltu, Sys}

-- each operation: the first byte of its instructions, its word, and how many of an instruction's last three bytes name registers,
-- from the first on
abbrev pub opcode_row : Opcode → ℕ × List ℕ × ℕ
opcode_row Li = (1, codes "li", 1)
opcode_row Lih = (2, codes "lih", 1)
opcode_row Mov = (3, codes "mov", 2)
opcode_row Add = (4, codes "add", 3)
opcode_row Sub = (5, codes "sub", 3)
opcode_row Mul = (6, codes "mul", 3)
opcode_row And = (7, codes "and", 3)
opcode_row Or = (8, codes "or", 3)
opcode_row Xor = (9, codes "xor", 3)
opcode_row Shl = (10, codes "shl", 3)
opcode_row Shr = (11, codes "shr", 3)
opcode_row Lw = (12, codes "lw", 2)
opcode_row Sw = (13, codes "sw", 2)
opcode_row Lb = (14, codes "lb", 2)
opcode_row Sb = (15, codes "sb", 2)
opcode_row Jmp = (16, codes "jmp", 0)
opcode_row Beq = (17, codes "beq", 2)
opcode_row Bne = (18, codes "bne", 2)
opcode_row Bltu = (19, codes "bltu", 2)
opcode_row Sys = (20, codes "sys", 0)

abbrev pub opcode_number : Opcode → ℕ
opcode_number op = (opcode_row op).0

abbrev pub opcode_word : Opcode → List ℕ
opcode_word op = (opcode_row op).1

abbrev pub register_fields : Opcode → ℕ
register_fields op = (opcode_row op).2

-- every operation, in order of the numbers
abbrev pub opcodes : List Opcode
opcodes =
    Li ∷ Lih ∷ Mov ∷ Add ∷ Sub ∷ Mul ∷ And ∷ Or ∷ Xor ∷ Shl ∷ Shr ∷ Lw ∷ Sw ∷ Lb ∷ Sb ∷ Jmp ∷ Beq ∷ Bne ∷ Bltu ∷ Sys ∷ []

-- the operation that a first byte names
abbrev pub opcode_of : ℕ → Option Opcode
opcode_of n = find (λ op. n == opcode_number op) opcodes
