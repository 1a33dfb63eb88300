-- What the proofs of this crate name of what lies below it.
pub use Rattle.std.proofs.Common.{◌≡◌, ◌≤◌, ◌<◌, ℕ, zero, suc, ◌+◌, ◌-◌, ◌==◌, Bool, true, false, if◌then◌else◌, List, [], ◌∷◌, ◌++◌, length, take, drop, get_or, refl, ap, ◌∙◌, sym, subst, arith, rules, Option, None, Some, append_assoc, append-nil, codes, drop_of_length-le}
pub use Rattle.std.specs.Prelude.{map, option_map}
pub use Rattle.std.proofs.Math.Seq.{drop-cons}
pub use Rattle.std.proofs.lemmas.Bool.Decides.{nat_tests}
pub use Rattle.dm_reading.specs.Cuts.{behind}
unfoldable pub use Rattle.dm_text.specs.Reading.{pieces}
pub use Rattle.dm_shape.proofs.Fitting.{behind_none, split_some}
pub use Rattle.dm_shape.proofs.NamesRead.{one_piece, some_piece}
pub use Rattle.dm_judge.specs.Refusals.{pieces_of, shown_byte, standing_told}
unfoldable pub use Rattle.dm_judge.specs.Refusals.{line_told, pair_told, worn_told}
