-- What the proofs of this crate name of what lies below it.
pub use Rattle.std.proofs.Common.{◌≢◌, Bor, String, nat_lt, negsuc, pos, slice_get, string_bytes, ℤ, ◌&&◌, ◌||◌}
pub use Rattle.std.proofs.Math.ListN.{drop_of_length-le}
pub use Rattle.std.proofs.lemmas.Bool.{and_parts}
pub use Rattle.std.proofs.lemmas.List.{drop_more}
pub use Rattle.std.proofs.lemmas.Str.{IsUtf8-from_is_utf8, is_utf8-from_IsUtf8}
pub use Rattle.std.specs.List.{list_all, list_any}
pub use Rattle.std.specs.Map.{keys_of}
pub use Rattle.std.specs.Option.{is_some, option_map, option_or, unwrap_or}
pub use Rattle.std.specs.Result.{IfOk}
pub use Rattle.toml.proofs.Views.{items_view-drop, view-Table}
pub use Rattle.std.proofs.lemmas.Map.Text.{hash_map_updates_str}
pub use Rattle.toml.specs.Data.{Data, Items, Members, array, as_integer, as_str, as_table, boolean, datetime, float, get, get_item, integer, item, member, no_items, no_members, string, table}
pub use Rattle.toml.specs.View.{items_view, members_view, view}
pub use Rattle.toml.specs.declared.value.Value.{Value}
pub use Rattle.dm_link.specs.Names.{pid_eq, pid_of}
pub use Rattle.dm_link.specs.declared.Link.{Link}
pub use Rattle.dm_link.specs.declared.Pid.{Pid}
pub use Rattle.dm_processor.proofs.Names.{Bool, List, None, Option, Some, [], ap, arith, common_steps, cond, drop, false, get_or, length, nat_tests, refl, suc, sym, take, take-append_seam, true, zero, ℕ, ◌*◌, ◌++◌, ◌+◌, ◌<◌, ◌∙◌, ◌∷◌, ◌≡◌}
pub use Rattle.dm_processor.proofs.Names.{◌≤◌}
pub use Rattle.dm_asm.proofs.Names.{Err, Global, Ok, Result, append-nil, append_assoc, bytes_eq, bytes_eq-Decides, codes, if◌then◌else◌, length-append, map, nat_le, not, subst, ◌==◌}
pub use Rattle.dm_onekernel.specs.Boot.{IsValid, area_is_within, blocks_at, blocks_of_image, controls_child, first_number, image_is_valid, images_are_valid, leads_to_process, leads_to_server, link_is_valid, links_are_valid}
pub use Rattle.dm_onekernel.specs.Boot.{machine_is_valid, machines_are_valid, manager, memory_size, process_is_valid, process_named, processes_are_valid, slots_of, starting_at, switchboard}
pub use Rattle.dm_onekernel.specs.declared.boot.Boot.{Boot}
pub use Rattle.dm_onekernel.specs.declared.boot.BootImage.{BootImage}
pub use Rattle.dm_onekernel.specs.declared.boot.BootMachine.{BootMachine}
pub use Rattle.dm_onekernel.specs.declared.boot.BootProcess.{BootProcess}
pub use Rattle.dm_boot.proofs.Said.{broken_or, integer_in, is_below, linked, links_of, name_in, number_or, pid_of_start, system_of}
pub use Rattle.dm_boot.specs.Before.{before_images}
pub use Rattle.dm_boot.specs.Boot.{Answers, document_of, unless}
unfoldable pub use Rattle.dm_boot.specs.Boot.{boot_of, boot_of_table, unless_at}
pub use Rattle.dm_boot.specs.Build.{base_in, base_of, len_of, blocks_in, channel_in, code_in, format_number, format_of, home_of, image_blocks, image_place, image_tables, images_of, is_control, len_in, link_tables, machine_number}
pub use Rattle.dm_boot.specs.Build.{machine_tables, machines_of, numbers_of, process_tables, processes_of, quantum_of, slots_in}
unfoldable pub use Rattle.dm_boot.specs.Build.{label_behind, place_at, program_of, boot_machine, image_of, link_of, link_of_control, link_to, linked_all, pid_named, start_of, starts_from, starts_of, system_with}
pub use Rattle.dm_boot.specs.Named.{place_in}
pub use Rattle.dm_boot.specs.Rules.{assembles, fits_machine, image_rules, link_rules, process_rules, rules}
unfoldable pub use Rattle.dm_boot.specs.Rules.{broken_at, first_broken, first_long, first_unassembled, fits_after, has_area, has_good_image_count, has_good_machine_count, has_good_room, has_good_settings, has_link_count, has_machine}
unfoldable pub use Rattle.dm_boot.specs.Rules.{is_link}
unfoldable pub use Rattle.dm_boot.specs.Rules.{has_place, has_target, image_fits, is_limited, is_plain, keeps, memory_size_of, rule_of, subjects}
pub use Rattle.dm_boot.specs.Tables.{all_items, all_known, count, element_place_from, in_range, is_known, is_named, lone_member, or_zero, text_at, truth_at}
pub use Rattle.dm_boot.specs.Sound.{all_sound, general_link, has_sound_links}
unfoldable pub use Rattle.dm_boot.specs.Sound.{is_sound}
unfoldable pub use Rattle.dm_boot.specs.Tables.{element_place, first_failing, map_items, named, number_at}
pub use Rattle.dm_boot.specs.Text.{is_manager, is_switchboard}
unfoldable pub use Rattle.dm_boot.specs.Text.{is_server_name}
pub use Rattle.dm_boot.specs.declared.rules.BootError.{BootError}
pub use Rattle.dm_boot.specs.declared.rules.BootError.TheVariants.{NoMemory, Refused}
pub use Rattle.dm_boot.specs.declared.rules.BootRule.{BootRule}
pub use Rattle.dm_boot.specs.declared.rules.BootRule.TheVariants.{Document, ImageBlocks, ImageBytes, ImageCount, ImageKeys, ImageName, ImageText, LinkCount, LinkLimits, LinkTarget, MachineCount, MachineKeys, MachineRoom}
pub use Rattle.dm_boot.specs.declared.rules.BootRule.TheVariants.{ProcessImage, ProcessKeys}
pub use Rattle.dm_boot.specs.declared.rules.BootRule.TheVariants.{ProcessMachine, ProcessName, ProcessRoom, Settings, TopKeys}
pub use Rattle.dm_boot.specs.declared.rules.TableRule.{TableRule}
