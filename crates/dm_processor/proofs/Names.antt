-- What the proofs of this crate name of what lies below it.
pub use Rattle.byteorder.specs.Endian.{big_bytes, big_number}
pub use Rattle.std.proofs.Common.{Bool, List, None, Option, Some, [], ap, arith, cond, drop, drop-cons, false, get_or, length, length-append, length-drop, refl, replicate, slice_index, suc, sym, take, true, zero, zero-add, ℕ, ◌%◌, ◌*◌}
pub use Rattle.std.proofs.Common.{◌++◌, ◌+◌, ◌-◌, ◌/◌, ◌<◌, ◌^◌, ◌∙◌, ◌∷◌, ◌≡◌, ◌≤◌}
pub use Rattle.std.proofs.Math.ListN.{length-set, set}
pub use Rattle.std.proofs.Math.Nat.{div-le_self}
pub use Rattle.std.proofs.Math.Seq.{drop-append-add, take-add, take-append-add, take-append_seam}
pub use Rattle.std.proofs.lemmas.Bool.Decides.{nat_tests}
pub use Rattle.std.proofs.lemmas.Grind.{common_steps}
pub use Rattle.std.proofs.lemmas.List.{drop-append-le, get_or-append-add, get_or_append_left, length-take-le, replicate-append-replicate, set-append_left, set-append_right, take-append-le, take_all}
pub use Rattle.std.proofs.lemmas.Nat.{and_le_l, or_of_32, xor_of_32}
pub use Rattle.std.specs.List.{concat}
pub use Rattle.std.specs.Prelude.{bit_and}
pub use Rattle.dm_processor.specs.Instructions.{Faults, Row, branch_pc, byte_row, effect, operation_row, past, register_at, with_reg, with_word, word_at, word_bytes, word_row}
unfoldable pub use Rattle.dm_processor.specs.Instructions.{instruction}
pub use Rattle.dm_processor.specs.Kept.{AreBytes, AreWords, KeepsLengths, KeepsRanges}
pub use Rattle.dm_processor.specs.Opcodes.{opcode_of}
pub use Rattle.dm_processor.specs.WholeBlocks.{AreWhole}
pub use Rattle.dm_processor.specs.declared.opcodes.Opcode.{Opcode}
pub use Rattle.dm_processor.specs.declared.opcodes.Opcode.TheVariants.{Add, And, Beq, Bltu, Bne, Jmp, Lb, Li, Lih, Lw, Mov, Mul, Or, Sb, Shl, Shr, Sub, Sw, Sys, Xor}
pub use Rattle.dm_processor.specs.declared.registers.Fault.TheVariants.{UnknownOpcode}
pub use Rattle.dm_processor.specs.declared.registers.Regs.{Regs}
