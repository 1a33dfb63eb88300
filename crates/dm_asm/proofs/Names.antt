-- What the proofs of this crate name of what lies below it.
pub use Rattle.std.proofs.Common.{Global, Vec, add-one, add-zero, append_assoc, codes, map, min, nat_le, not, subst, ◌==◌}
pub use Rattle.std.proofs.Math.Seq.{drop-length}
pub use Rattle.std.proofs.lemmas.List.{append-nil, get_or-drop, length-append, length-replicate}
pub use Rattle.std.proofs.lemmas.List.Quantifiers.{position-Some}
pub use Rattle.std.proofs.lemmas.Map.Text.{btree_map_updates_str}
pub use Rattle.std.proofs.lemmas.Slice.Eq.{bytes_eq-Decides}
pub use Rattle.std.specs.BTreeMap.{BTreeMap, get_by}
pub use Rattle.std.specs.Borrow.{Bor}
pub use Rattle.std.specs.Cmp.Lexicographic.{slice_cmp}
pub use Rattle.std.specs.List.{position, position_or_len}
pub use Rattle.std.specs.Option.{option_and_then}
pub use Rattle.std.specs.Ordering.{nat_cmp}
pub use Rattle.std.specs.Prelude.{Err, Ok, Result, if◌then◌else◌, is_some, ok_or, option_map, slice_get, unwrap_or}
pub use Rattle.std.specs.Str.{bytes_eq}
unfoldable pub use Rattle.dm_reading.specs.Lines.{source_lines}
pub use Rattle.dm_reading.specs.Words.{source_words}
unfoldable pub use Rattle.dm_reading.specs.Words.{words_between}
pub use Rattle.dm_processor.proofs.Names.{Bool, List, None, Option, Some, [], ap, arith, common_steps, cond, drop, drop-cons, false, get_or, length, length-drop, length-take-le, nat_tests, refl, replicate, suc, sym, take, take-append_seam}
pub use Rattle.dm_processor.proofs.Names.{take_all, true, zero, ℕ, ◌*◌, ◌++◌, ◌+◌, ◌-◌, ◌<◌, ◌^◌, ◌∙◌, ◌∷◌, ◌≡◌, ◌≤◌}
pub use Rattle.dm_processor.specs.declared.opcodes.Opcode.{Opcode}
pub use Rattle.dm_asm.specs.Assembled.{Answers, StandsBehind, from_line, with_lines}
unfoldable pub use Rattle.dm_asm.specs.Assembled.{assembled, places_of, with_line}
pub use Rattle.dm_asm.specs.Calls.{call_registers, call_rest, call_size, call_word, making, setting, takes_arguments}
unfoldable pub use Rattle.dm_asm.specs.Calls.{argument_of, call_bytes, cleared, settings}
pub use Rattle.dm_asm.specs.Forms.{shape_of}
unfoldable pub use Rattle.dm_asm.specs.Forms.{form_of}
unfoldable pub use Rattle.dm_asm.specs.Labels.{place_in}
pub use Rattle.dm_asm.specs.Lines.{is_semicolon, without_comment}
unfoldable pub use Rattle.dm_asm.specs.Numbers.{call_named, literal_value}
pub use Rattle.dm_asm.specs.Numbers.{is_multiple}
pub use Rattle.dm_asm.specs.Operands.{wanted_multiple, wanted_number}
unfoldable pub use Rattle.dm_asm.specs.Operands.{call_operand, call_value, distance_of, fields, multiple, name_operand, number_operand, operand_value, register, target, value}
pub use Rattle.dm_asm.specs.Places.{behind_label, first_of, form_size, is_misplaced, label_of_words, padding_size, place_from, statement_size, text_size}
unfoldable pub use Rattle.dm_asm.specs.Places.{has_label, line_size, line_value, padding}
pub use Rattle.dm_asm.specs.Refusals.{bytes_behind, why_code, ◌>>=◌}
pub use Rattle.dm_asm.specs.Statements.{form_bytes, instruction_bytes, is_twice, takes_operands}
unfoldable pub use Rattle.dm_asm.specs.Statements.{line_bytes, listed_bytes, statement_bytes}
pub use Rattle.dm_asm.specs.Texts.{text_operand}
unfoldable pub use Rattle.dm_asm.specs.Texts.{text_behind, text_in}
pub use Rattle.dm_asm.specs.declared.forms.Form.{Form}
pub use Rattle.dm_asm.specs.declared.forms.Form.TheVariants.{Align, Ascii, Byte, Calling, Equ, Instruction, Word, Zero}
pub use Rattle.dm_asm.specs.declared.forms.Shape.{Shape}
pub use Rattle.dm_asm.specs.declared.forms.Shape.TheVariants.{Access, Branch, Call, Jump, RegisterValue, ThreeRegisters, TwoRegisters}
pub use Rattle.dm_asm.specs.declared.labels.Labels.{Labels}
pub use Rattle.dm_asm.specs.declared.labels.Place.{Place}
pub use Rattle.dm_asm.specs.declared.refusals.AssembleError.{AssembleError}
pub use Rattle.dm_asm.specs.declared.refusals.AssembleError.TheVariants.{Fault, NoMemory}
pub use Rattle.dm_asm.specs.declared.refusals.Why.{Why}
pub use Rattle.dm_asm.specs.declared.refusals.Why.TheVariants.{BadNumber, LabelTwice, OperandCount, OutOfRange, TooLong, UnknownWord}
