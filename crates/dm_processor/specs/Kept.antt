-- What every instruction keeps.
use Rattle.std.specs.Prelude.{ℕ, ◌≡◌, ◌<◌, ◌^◌, List, length, slice_index}
use Rattle.dm_processor.specs.declared.registers.Regs.{Regs}
use Rattle.dm_processor.specs.Instructions.{Row, Plain, Calls, Faults}

-- a row leaves as many registers, and as many bytes of memory, as there were
abbrev pub KeepsLengths : Row → Regs → List ℕ → Type 0
KeepsLengths (Plain r m) regs bytes = (length r.r ≡ length regs.r) × (length m ≡ length bytes)
KeepsLengths (Calls n r) regs bytes = length r.r ≡ length regs.r
KeepsLengths (Faults fault) regs bytes = Unit {0}

-- each item of a list is a byte
abbrev pub AreBytes : List ℕ → Type 0
AreBytes bytes = (k : ℕ) → slice_index bytes k < 2 ^ 8

-- each register and the program counter has 32 bits
abbrev pub AreWords : Regs → Type 0
AreWords regs = ((k : ℕ) → slice_index regs.r k < 2 ^ 32) × (regs.pc < 2 ^ 32)

-- a row leaves words in the registers and bytes in the memory, and calls by a byte
abbrev pub KeepsRanges : Row → Type 0
KeepsRanges (Plain r m) = AreWords r × AreBytes m
KeepsRanges (Calls n r) = (n < 2 ^ 8) × AreWords r
KeepsRanges (Faults fault) = Unit {0}
