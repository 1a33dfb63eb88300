-- What the proofs of this crate name of what lies below it.
unfoldable pub use Rattle.clap.proofs.OnLiterals.{clap_on_literals}
pub use Rattle.clap.proofs.WalkLemmas.{first_value-rows, raw_values-rows}
pub use Rattle.clap.specs.Built.{AddsArg}
pub use Rattle.clap.specs.Facts.{explicit_source, unwrap_or_range}
pub use Rattle.clap.specs.Faults.{action_fault, bundle_step_fault, check_fault, defaults_fault, entered_fault, flag_word_fault, is_free_app, level_fault, long_fault, option_fault, other_fault, positional_fault, react_fault, settle_fault}
pub use Rattle.clap.specs.Faults.{short_fault, step_fault, stray_fault, use_fault, word_fault}
unfoldable pub use Rattle.clap.specs.Faults.{flags_fault, walk_fault}
pub use Rattle.clap.specs.Kinds.{check_kinds, or_else, range_kinds}
pub use Rattle.clap.specs.Lexer.{long_of, short_of}
pub use Rattle.clap.specs.Simple.{Shape, app_of_fields, argument_words, built, entered, label_of, names_of as labels_of, new_shape, on_top, rows_at, subcommand_of}
pub use Rattle.clap.specs.Takes.{is_given}
pub use Rattle.clap.specs.Walk.{Held, Names, Outcome, Row, Rule, Step, Waiting, Walk, action_of, after_flag, after_step, answers_to, arg_by_id, arg_by_index, arg_by_long, arg_by_short, at_row, attached_value, bundle_step, default_rows}
pub use Rattle.clap.specs.Walk.{done, finished, first_of, flag_met, has_row, idle, is_empty, is_pending, long_met, long_or_other, more_values, most_values, next, nothing_held, option, option_met, option_word, plain, plain_word, positional}
pub use Rattle.clap.specs.Walk.{positional_held, pushed, reacted, reading_by, refused, settled, settled_rows, short_met, short_or_plain, stop_after, subcommand, subcommand_met, subcommand_or_other, takes_several, takes_values}
pub use Rattle.clap.specs.Walk.{to_positional, trailing, used, used_as, used_by_id, value, values_or_missing, waits, walk_from, walked_from, with_default, with_values, without, word_met}
unfoldable pub use Rattle.clap.specs.Walk.{bundle_met, walked}
pub use Rattle.clap.specs.Words.{App, HasMatchesOf, Kinds, Text, app_of, fault_of, found_of, is_simple, is_simple_and_free, new_app, rows_of, subcommand_rows_of, with_rule, with_subcommand}
pub use Rattle.clap.specs.declared.builder.arg.Arg.{Arg as TheArg}
pub use Rattle.clap.specs.declared.builder.command.Command.{Command as TheCommand}
pub use Rattle.clap.specs.declared.builder.value_parser.Reading.{Reading}
pub use Rattle.clap.specs.declared.parser.matches.ArgMatches.{ArgMatches}
pub use Rattle.clap.specs.declared.parser.matches.ValueSource.{ValueSource}
pub use Rattle.clap.specs.declared.parser.matches.ValueSource.TheVariants.{CommandLine, DefaultValue}
pub use Rattle.std.proofs.Common.{ap₂, tests}
pub use Rattle.std.proofs.lemmas.Iterator.{YieldsList-from_slice}
pub use Rattle.std.proofs.lemmas.Iterator.Search.{any_from_yields_List}
pub use Rattle.std.proofs.lemmas.List.{at_drop_all, at_drop_more, drop_all, drop_more, map_more}
pub use Rattle.std.proofs.lemmas.List.Sums.{sum_by-cons}
pub use Rattle.std.proofs.lemmas.Result.{IfOk-weaker}
pub use Rattle.std.specs.List.{count_by}
pub use Rattle.std.specs.Option.{option_map_or}
pub use Rattle.std.specs.Prelude.{encode_utf8, find, fold, option_and_then, string_bytes, ⊤}
pub use Rattle.std.specs.Str.{chars}
pub use Rattle.dm_memory.specs.Clap.{FailsBy}
pub use Rattle.dm_memory.specs.declared.of_clap.MatchesError.{MatchesError}
pub use Rattle.dm_processor.proofs.Names.{replicate}
pub use Rattle.dm_linktable.proofs.Names.{cond, set}
pub use Rattle.dm_schedule.proofs.Names.{take_all}
pub use Rattle.dm_draw.proofs.Names.{inl, inr, rules, ◌⊎◌}
pub use Rattle.dm_draw.specs.declared.drill.Shows.{Shows}
pub use Rattle.dm_process.proofs.Names.{slice_get}
pub use Rattle.dm_text.proofs.Names.{Err, length-append, ne_eqb}
pub use Rattle.dm_shape.proofs.Imports.{Bool, List, None, Option, Some, [], ap, arith, behind, bytes_eq, codes, drop, false, get_or, if◌then◌else◌, is_some, length, list_all, list_any, map, nat_le, nat_tests, not, option_map, read_u32}
pub use Rattle.dm_shape.proofs.Imports.{read_u8, refl, subst, suc, sym, take, true, zero, ℕ, ◌&&◌, ◌++◌, ◌+◌, ◌-◌, ◌<◌, ◌||◌, ◌∙◌, ◌∷◌, ◌≡◌, ◌≤◌}
pub use Rattle.dm_words.specs.Arguments.{HasOptions, IsOption, form_shape, option_rule, with_options, with_shapes}
pub use Rattle.dm_words.specs.ChartWords.{chart_request, charting, group_in, takes_chart}
pub use Rattle.dm_words.specs.CheckWords.{check_request, checking, is_just_one}
pub use Rattle.dm_words.specs.CountWords.{count_request}
pub use Rattle.dm_words.specs.DrillWords.{IsWithin, OwnIsWithin, drawn_by, drill_by, drill_request, has_system, if_within, lines_asked, machines_asked, own_by, run_by, schedule_of, seed_of, shows_by, trace_of}
pub use Rattle.dm_words.specs.ExplainWords.{explaining}
pub use Rattle.dm_words.specs.ExploreWords.{ExploreIsWithin, acks_of, all_read, depth_of, exploration_of, explore_request, exploring, few_of, filling, listed, looking_for, most_in, most_of, with_names, with_numbers}
pub use Rattle.dm_words.specs.FileWords.{both_files}
pub use Rattle.dm_words.specs.LookWords.{groups_of, look_request, looking, names_of}
pub use Rattle.dm_words.specs.Request.{Chart, Check, CheckLabels, Count, Drill, Explain, Explore, Judge, Look, OwnDrill, Request, Run}
pub use Rattle.dm_words.specs.RunWords.{run_command, run_request}
pub use Rattle.dm_words.specs.Usage.{On, Wrong, at_end, behind_name, command_told, form_word, forms, is_bad_value, names, on, step, value_among, value_here}
unfoldable pub use Rattle.dm_words.specs.Usage.{bad_value_of, form_named, is_named, usage_pieces, value_of, walk}
pub use Rattle.dm_words.specs.Words.{AreTaken, Command, HasShape, IsTaken, bare, command_of, commands, demosmp, request_at, request_in, request_of}
pub use Rattle.dm_words.specs.Written.{is_text, stuck_name, written_move}
pub use Rattle.dm_words.specs.declared.argument.CommandForm.{CommandForm}
pub use Rattle.dm_words.specs.declared.argument.CommandOption.{CommandOption}
pub use Rattle.dm_words.specs.declared.explore.Exploration.{Exploration}
pub use Rattle.dm_words.specs.declared.explore.WrittenMove.{WrittenMove}
pub use Rattle.dm_words.specs.declared.explore.WrittenName.{WrittenName}
pub use Rattle.dm_words.specs.declared.form.Form.{Form}
pub use Rattle.dm_words.specs.declared.option.OptionName.{OptionName}
