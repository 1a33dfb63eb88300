-- What the proofs of this crate name of what lies below it.
pub use Rattle.std.proofs.Common.{nat_le, vec_capacity, vec_len, ◌||◌}
pub use Rattle.std.proofs.Math.Bool.{and-false}
pub use Rattle.std.proofs.lemmas.Bool.{eq-eqb, le-ltb, lt-ltb, ltb-true, ne_eqb}
pub use Rattle.std.proofs.lemmas.Fmt.{decimal_by_steps_wide, decimal_digit, decimal_step}
pub use Rattle.std.proofs.lemmas.List.{get_or_push, length_push, take_more}
pub use Rattle.std.specs.Fmt.{decimal}
unfoldable pub use Rattle.std.specs.Fmt.{digits}
pub use Rattle.std.specs.List.{All}
pub use Rattle.std.specs.Prelude.{OnErr}
pub use Rattle.std.specs.declared.option.Option.{Option}
pub use Rattle.std.specs.declared.result.Result.{Result}
pub use Rattle.std.specs.declared.result.Result.TheVariants.{Err, Ok}
unfoldable pub use Rattle.dm_reading.specs.Cuts.{pieces}
pub use Rattle.dm_reading.specs.Digits.{digit}
pub use Rattle.dm_reading.specs.Numbers.{is_padded, number_after}
unfoldable pub use Rattle.dm_reading.specs.Numbers.{read_number}
pub use Rattle.dm_reading.specs.declared.numbers.Base.TheVariants.{Ten}
pub use Rattle.std.specs.Option.{option_and_then}
pub use Rattle.dm_link.specs.Names.{pid_of}
pub use Rattle.dm_link.specs.declared.Kind.{Kind}
pub use Rattle.dm_link.specs.declared.Kind.TheVariants.{General, Reply}
pub use Rattle.dm_processor.proofs.Names.{Bool, List, None, Some, [], ap, arith, false, get_or, get_or_append_left, length, length-append, nat_tests, refl, suc, sym, take, take-append_seam, true, zero, ℕ, ◌%◌, ◌*◌, ◌++◌, ◌+◌, ◌-◌, ◌/◌, ◌<◌}
pub use Rattle.dm_processor.proofs.Names.{◌^◌, ◌∙◌, ◌∷◌, ◌≡◌, ◌≤◌}
pub use Rattle.dm_message.specs.Ids.{id_of}
pub use Rattle.dm_message.specs.Kinds.{word_of}
pub use Rattle.dm_message.specs.Outcomes.{code_of_outcome}
pub use Rattle.dm_message.specs.declared.MsgId.{MsgId}
pub use Rattle.dm_message.specs.declared.Outcome.{Outcome}
pub use Rattle.dm_message.specs.declared.kind.MessageKind.{MessageKind}
pub use Rattle.dm_linktable.proofs.Names.{Link, Pid, map, subst, ◌&&◌, ◌==◌}
pub use Rattle.dm_schedule.proofs.Names.{append-nil, append_assoc, codes, if◌then◌else◌, nat_lt}
pub use Rattle.dm_schedule.specs.declared.Step.{Step}
pub use Rattle.dm_process.specs.declared.process.Direction.{Direction}
pub use Rattle.dm_process.specs.declared.process.Direction.TheVariants.{FromArea, IntoArea}
pub use Rattle.dm_onekernel.specs.Codes.{reply_code, why_code}
pub use Rattle.dm_onekernel.specs.declared.label.Label.{Label}
pub use Rattle.dm_onekernel.specs.declared.label.Why.{Why}
pub use Rattle.dm_line.specs.declared.end_line.EndLine.{EndLine}
pub use Rattle.dm_line.specs.declared.end_line.Standing.{Standing}
pub use Rattle.dm_line.specs.declared.line.Line.{Line}
pub use Rattle.dm_line.specs.declared.line.Stage.{Stage}
pub use Rattle.dm_text.specs.Ends.{direction_word, doing_row, go_word, kind_word, link_row, rights_word, standing_word}
pub use Rattle.dm_text.specs.EndsOf.{hex_value, link_from, registers_from}
unfoldable pub use Rattle.dm_text.specs.EndsOf.{read_direction, read_go, read_hex, read_link, read_link_kind, read_rights, read_standing}
pub use Rattle.dm_text.specs.Fits.{EndFits, IdFits, IsByte, IsWord, LineFits}
unfoldable pub use Rattle.dm_text.specs.GroupsOf.{read_stage}
pub use Rattle.dm_text.specs.LinesOf.{Trace, at_end, end_of_words, ends_from, line_of_words, lines_from, lines_in, trace_from, trace_in}
unfoldable pub use Rattle.dm_text.specs.LinesOf.{end_of, line_of, lines_of, trace_of}
pub use Rattle.dm_text.specs.Reading.{message_named, message_numbered, outcome_with, read_u32, reply_with, why_with}
unfoldable pub use Rattle.dm_text.specs.Reading.{read_id, read_kind, read_outcome, read_pid, read_reply, read_why}
pub use Rattle.dm_text.specs.Rows.{all_read}
pub use Rattle.dm_text.specs.Text.{end_text, spaced, spelled_line, stage_word, text}
unfoldable pub use Rattle.dm_text.specs.Text.{text_of_ends, text_of_lines}
pub use Rattle.dm_text.specs.Words.{AllFit, LineWord, PidFits, only_if, hex, hex_digit, id_word, mark, message_word, pid_word, sized}
pub use Rattle.dm_text.specs.Written.{Keeps, doing_words, end_words, line_words, link_words, load_words, spellings, word_text}
