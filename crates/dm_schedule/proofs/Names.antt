-- What the proofs of this crate name of what lies below it.
pub use Rattle.std.proofs.Common.{Bool, List, [], add-zero, ap, append_assoc, arith, codes, drop, false, get_or, length, length-drop, map, nat_lt, not, refl, suc, sym, take, true, zero, ℕ, ◌&&◌, ◌++◌, ◌+◌, ◌-◌, ◌<◌, ◌==◌, ◌^◌, ◌∙◌, ◌∷◌}
pub use Rattle.std.proofs.Common.{◌≡◌, ◌≤◌}
pub use Rattle.std.proofs.Math.Seq.{drop-length}
pub use Rattle.std.proofs.lemmas.Bool.Decides.{nat_tests}
pub use Rattle.std.proofs.lemmas.List.{append-nil, get_or-drop, length-take-le, take_all}
pub use Rattle.std.proofs.lemmas.List.Quantifiers.{position-Some}
pub use Rattle.std.specs.List.{position, position_or_len}
pub use Rattle.std.specs.Prelude.{Err, None, Ok, Option, Some, if◌then◌else◌, option_to_list}
pub use Rattle.dm_reading.specs.Cuts.{cut, onto_first}
pub use Rattle.dm_reading.specs.Lines.{ends_line, is_return, line_ends}
unfoldable pub use Rattle.dm_reading.specs.Lines.{lines}
pub use Rattle.dm_reading.specs.Words.{is_blank, words}
unfoldable pub use Rattle.dm_reading.specs.Words.{words_between}
unfoldable pub use Rattle.dm_schedule.specs.Keywords.{keyword_of}
unfoldable pub use Rattle.dm_schedule.specs.Numbers.{number_of_word, process_of}
pub use Rattle.dm_schedule.specs.Schedule.{Accepted, Refused, Schedule, also, number_of_fault}
unfoldable pub use Rattle.dm_schedule.specs.Schedule.{directive_of, directives_of, line_directive, lines_from}
pub use Rattle.dm_schedule.specs.declared.Directive.{Directive}
pub use Rattle.dm_schedule.specs.declared.LineFault.{LineFault}
