-- What the proofs of this crate name of what lies below it.
pub use Rattle.std.specs.List.{flat_map}
pub use Rattle.std.specs.Prelude.{OnOk, ◌||◌}
unfoldable pub use Rattle.dm_reading.specs.Lines.{lines, source_lines}
pub use Rattle.dm_processor.proofs.Names.{Bool, List, None, [], ap, arith, concat, drop, false, get_or, length, refl, suc, sym, take, true, zero, ℕ, ◌++◌, ◌+◌, ◌-◌, ◌<◌, ◌∙◌, ◌∷◌, ◌≡◌, ◌≤◌}
pub use Rattle.dm_linktable.proofs.Names.{count_by, map, rules, subst, ◌==◌}
pub use Rattle.dm_schedule.proofs.Names.{append-nil, append_assoc, codes, if◌then◌else◌}
pub use Rattle.dm_process.proofs.Names.{slice_get}
pub use Rattle.dm_boot.proofs.Imports.{Data, Value, drop_more, drop_of_length-le, first_failing, get_item, items_view, view}
pub use Rattle.dm_boot.specs.Tables.{has_only}
pub use Rattle.dm_reading.specs.Words.{source_words}
unfoldable pub use Rattle.dm_explain.specs.BadSources.{bad_word, is_fine}
pub use Rattle.dm_asm.specs.Labels.{place_in}
pub use Rattle.dm_asm.specs.declared.labels.Place.{Place}
pub use Rattle.dm_asm.specs.declared.refusals.Why.{Why}
pub use Rattle.dm_explain.specs.declared.source.Takes.{Takes}
pub use Rattle.dm_explain.specs.TextFaults.{or_why}
unfoldable pub use Rattle.dm_explain.specs.TextFaults.{operand_why, operands_why}
pub use Rattle.dm_explain.specs.TextPlace.{next_line, opens}
unfoldable pub use Rattle.dm_explain.specs.TextPlace.{line_before}
unfoldable pub use Rattle.dm_explain.specs.Told.{later_images, later_lines}
pub use Rattle.dm_explain.specs.BadSources.{BadWord}
pub use Rattle.dm_explain.specs.Faults.{is_met, is_within, keys_text, other_keys_told}
unfoldable pub use Rattle.dm_explain.specs.Faults.{first_unknown}
unfoldable pub use Rattle.dm_explain.specs.Faults.{first_bad, key_fault, limit_told, number_fault, wish_fault, wish_told}
pub use Rattle.dm_explain.specs.LineAt.{line_at, line_or_nothing}
pub use Rattle.dm_explain.specs.Parts.{part_text, shown_byte}
pub use Rattle.dm_explain.specs.Schedules.{is_of}
pub use Rattle.dm_explain.specs.System.{boot_process_told, image_told, link_told, machine_told}
unfoldable pub use Rattle.dm_explain.specs.System.{each}
pub use Rattle.dm_explain.specs.SystemParts.{is_later}
unfoldable pub use Rattle.dm_explain.specs.SystemParts.{has_another}
pub use Rattle.dm_explain.specs.Told.{link_keeps}
pub use Rattle.dm_explain.specs.Wanted.{Limit, Wish, limit_of, wish_of}
