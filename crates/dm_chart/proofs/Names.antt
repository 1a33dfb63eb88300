-- What the proofs of this crate name of what lies below it.
pub use Rattle.std.proofs.Common.{Bor, OnOk}
pub use Rattle.std.proofs.Math.ListN.{drop_of_length-le}
pub use Rattle.std.proofs.lemmas.Grind.{flat_map-append}
pub use Rattle.std.proofs.lemmas.List.{drop_more, flat_map_more, take_rest}
pub use Rattle.std.specs.List.{flat_map}
pub use Rattle.dm_processor.proofs.Names.{concat}
pub use Rattle.dm_linktable.proofs.Names.{count_by}
pub use Rattle.dm_schedule.proofs.Names.{drop, not}
pub use Rattle.dm_process.proofs.Names.{add-one}
pub use Rattle.dm_text.proofs.Names.{Bool, Label, Line, List, MsgId, None, Option, Pid, Some, [], ap, append-nil, append_assoc, arith, codes, decimal, false, get_or, id_word, if◌then◌else◌, length, map, ne_eqb, pid_word, refl, subst, suc}
pub use Rattle.dm_text.proofs.Names.{sym, take, take_more, true, word_text, zero, ℕ, ◌&&◌, ◌++◌, ◌+◌, ◌-◌, ◌<◌, ◌∙◌, ◌∷◌, ◌≡◌, ◌≤◌}
pub use Rattle.dm_chart.specs.Ahead.{is_delivery, is_wanted}
unfoldable pub use Rattle.dm_chart.specs.Ahead.{first_ahead}
pub use Rattle.dm_chart.specs.Behind.{kill_in, letter_last, news_here, puts_it, waits_behind, waits_on}
unfoldable pub use Rattle.dm_chart.specs.Behind.{news_from}
pub use Rattle.dm_chart.specs.Drawn.{all_drawn, draw_beside, draw_note, drawn_shape, heading_again, name_again}
unfoldable pub use Rattle.dm_chart.specs.Drawn.{each_below}
pub use Rattle.dm_chart.specs.Kept.{is_put_line}
pub use Rattle.dm_chart.specs.Laws.{letter_of_role, letter_of_shape, letters_of}
pub use Rattle.dm_chart.specs.Notes.{Note, call_note, follow_note, label_note, no_note, note, note_of}
pub use Rattle.dm_chart.specs.Picture.{made_in, name_drawn, way_down}
unfoldable pub use Rattle.dm_chart.specs.Picture.{foot, names_from}
pub use Rattle.dm_chart.specs.Roles.{role_of}
pub use Rattle.dm_chart.specs.Shapes.{Column, Group, Shape, fate, fate_here, first_bar, group_shapes, life_shapes, line_shapes, lost_unless, moves_shown, own_shapes, sending_shapes, shapes, wait_if}
unfoldable pub use Rattle.dm_chart.specs.Shapes.{columns, deliveries, shapes_from}
pub use Rattle.dm_chart.specs.Spots.{first_spot, next_spot, shown_spot, spot_behind}
pub use Rattle.dm_chart.specs.Written.{seen}
pub use Rattle.dm_chart.specs.Xml.{attribute}
unfoldable pub use Rattle.dm_chart.specs.Xml.{opening_tag}
pub use Rattle.dm_onekernel.specs.declared.boot.BootProcess.{BootProcess}
pub use Rattle.dm_chart.specs.declared.frame.Frame.{Frame}
pub use Rattle.dm_chart.specs.declared.role.Letter.{Letter}
pub use Rattle.dm_chart.specs.declared.role.Life.{Life}
pub use Rattle.dm_chart.specs.declared.role.Role.{Role}
pub use Rattle.dm_chart.specs.declared.scan.News.{News}
pub use Rattle.dm_chart.specs.declared.spot.Spot.{Spot}
