-- What the proofs of this crate name of what lies below it.
pub use Rattle.std.proofs.Common.{Bool, List, [], add-one, add-zero, ap, arith, drop, false, get_or, length, length-drop, min, nat_le, nat_lt, not, refl, suc, sym, take, true, zero, ℕ, ◌&&◌, ◌*◌, ◌+◌, ◌-◌, ◌<◌, ◌==◌, ◌^◌, ◌∙◌, ◌∷◌}
pub use Rattle.std.proofs.Common.{◌||◌, ◌≡◌, ◌≤◌}
pub use Rattle.std.proofs.Math.Nat.{pow-le-pow_right}
pub use Rattle.std.proofs.Math.Seq.{drop-cons, drop-length}
pub use Rattle.std.proofs.lemmas.Bool.Decides.{nat_tests}
pub use Rattle.std.proofs.lemmas.Grind.{common_steps}
pub use Rattle.std.proofs.lemmas.List.{get_or-drop, length-take-le, take_all}
pub use Rattle.std.proofs.lemmas.List.Quantifiers.{position-Some}
pub use Rattle.std.specs.List.{position, position_or_len}
pub use Rattle.std.specs.Option.{option_and_then, option_map}
pub use Rattle.std.specs.Prelude.{None, Option, Some, if◌then◌else◌}
pub use Rattle.dm_reading.specs.Cuts.{behind, cut, onto_first}
unfoldable pub use Rattle.dm_reading.specs.Cuts.{pieces}
pub use Rattle.dm_reading.specs.Digits.{base_of, digit, digits_after}
pub use Rattle.dm_reading.specs.Gaps.{stands_in}
pub use Rattle.dm_reading.specs.Lines.{ends_line, is_return, line_ends}
unfoldable pub use Rattle.dm_reading.specs.Lines.{lines, source_lines}
pub use Rattle.dm_reading.specs.Numbers.{if_below, is_padded, number_after}
unfoldable pub use Rattle.dm_reading.specs.Numbers.{read_number}
unfoldable pub use Rattle.dm_reading.specs.Words.{words_between}
pub use Rattle.dm_reading.specs.declared.numbers.Base.{Base}
pub use Rattle.dm_reading.specs.declared.numbers.Base.TheVariants.{Sixteen, Ten}
