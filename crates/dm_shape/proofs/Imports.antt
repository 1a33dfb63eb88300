-- What the proofs of this crate name of what lies below it.
pub use Rattle.std.proofs.Common.{Bor, nat_eq}
pub use Rattle.std.proofs.lemmas.List.{append_cancel_right, take_rest}
pub use Rattle.std.proofs.lemmas.Slice.Eq.{bytes_eq-Decides}
pub use Rattle.std.specs.List.{ends_with, list_all, slice_get}
pub use Rattle.std.specs.Option.{option_and_then, option_map}
pub use Rattle.std.specs.Prelude.{is_some}
pub use Rattle.std.specs.Str.{bytes_eq}
pub use Rattle.dm_reading.specs.Cuts.{behind, onto_first}
unfoldable pub use Rattle.dm_reading.specs.Cuts.{pieces}
pub use Rattle.dm_reading.specs.Numbers.{if_below, is_padded, number_after}
unfoldable pub use Rattle.dm_reading.specs.Numbers.{read_number}
pub use Rattle.dm_processor.proofs.Names.{Bool, List, None, Some, [], ap, arith, drop, drop-cons, false, get_or, length, nat_tests, refl, suc, sym, take, true, zero, ℕ, ◌%◌, ◌*◌, ◌++◌, ◌+◌, ◌-◌, ◌/◌, ◌<◌, ◌^◌, ◌∙◌, ◌∷◌, ◌≡◌, ◌≤◌}
pub use Rattle.dm_linktable.proofs.Names.{Link, Pid, list_any, map, position-Some, subst, ◌&&◌, ◌==◌, ◌≢◌}
pub use Rattle.dm_schedule.proofs.Names.{codes, drop-length, if◌then◌else◌, nat_lt, not, position, position_or_len}
pub use Rattle.dm_onekernel.specs.declared.label.Reply.{Reply}
pub use Rattle.dm_line.specs.declared.line.Load.{Load}
pub use Rattle.dm_text.proofs.EndsBack.{end_words_are, left_out, registers_row}
pub use Rattle.dm_text.proofs.LineBack.{line_words-are}
pub use Rattle.dm_text.proofs.LinesBack.{line_bytes, pieces_of_words, spelled_bytes}
pub use Rattle.dm_text.proofs.Names.{All, AllFit, Direction, EndFits, EndLine, FromArea, IdFits, IntoArea, IsByte, IsWord, Kind, Line, LineFits, MessageKind, MsgId, Option, Outcome, PidFits, Stage, Standing, Step, Why}
pub use Rattle.dm_text.proofs.Names.{code_of_outcome, decimal, direction_word, end_text, end_words, go_word, hex, hex_digit, id_word, kind_word, line_words, link_words, message_named, message_numbered, nat_le}
pub use Rattle.dm_text.proofs.Names.{link_row, message_word, pid_of, pid_word, read_u32, reply_code, rights_word, spaced, spelled_line, spellings, stage_word, standing_word, text, why_code, word_of, ◌||◌}
pub use Rattle.dm_text.proofs.Pieces.{AreWords, free, free-append, pieces-free}
pub use Rattle.dm_text.proofs.WordsBack.{outcome_small, read_id_back, read_pid_back, read_u128_back, read_u32_back, read_u64_back, read_u8_back}
pub use Rattle.dm_text.specs.Reading.{id_in, pid_in, read_u64, read_u8, ◌<*>◌}
unfoldable pub use Rattle.dm_text.specs.Reading.{read_id, read_pid}
pub use Rattle.dm_text.specs.Rows.{is, of1, of2, of3}
pub use Rattle.dm_shape.specs.Full.{IsFull}
pub use Rattle.dm_shape.specs.Heads.{head_in, head_named}
unfoldable pub use Rattle.dm_shape.specs.Heads.{head_step}
pub use Rattle.dm_shape.specs.Laws.{EndsHaveShapes, HeadsAreRead, HeadsHaveShapes, IsLine, LinesHaveShapes}
pub use Rattle.dm_shape.specs.Shapes.{all_shapes, choose, ends_so, fit, is_row, link_sorts, numbers, row_of}
unfoldable pub use Rattle.dm_shape.specs.Shapes.{has_shape, is_of_shape}
pub use Rattle.dm_shape.specs.Sorts.{is_block, is_hex_digit, spells}
unfoldable pub use Rattle.dm_shape.specs.Sorts.{is_of}
pub use Rattle.dm_shape.specs.Words.{alone}
pub use Rattle.dm_shape.specs.declared.shape.Shape.{Shape}
pub use Rattle.dm_shape.specs.declared.sort.Sort.{Sort}
