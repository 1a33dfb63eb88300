-- What the proofs of this crate name of what lies below it.
pub use Rattle.std.proofs.Math.Seq.{take-length}
pub use Rattle.std.proofs.lemmas.List.{drop-take, take-take}
pub use Rattle.std.proofs.lemmas.List.Elements.{All-more}
pub use Rattle.std.specs.Result.{IfErr, IsErr}
pub use Rattle.dm_records.proofs.Names.{Bool, Option, Pid, Some, ap, arith, false, if◌then◌else◌, refl, sym, true, ◌∙◌, ◌≡◌}
pub use Rattle.dm_processor.proofs.Names.{List, [], drop, get_or, length, nat_tests, suc, take, zero, ℕ, ◌%◌, ◌*◌, ◌++◌, ◌+◌, ◌-◌, ◌/◌, ◌<◌, ◌^◌, ◌∷◌, ◌≤◌}
pub use Rattle.dm_wire.proofs.Names.{inl, inr}
pub use Rattle.dm_stream.proofs.Names.{Ack, Data, subst, ◌≢◌, ◌⊎◌}
pub use Rattle.dm_linktable.proofs.Names.{Link, ◌==◌}
pub use Rattle.dm_packet.proofs.Field.{ok_is}
pub use Rattle.dm_packet.proofs.Names.{Addr, All, Field, IfSome, MessageKind, MsgId, OnOk, addr, append-nil, append_assoc, both, channel, flags, len_from, length-append, link, link_of_parts, nat_le, number, held_if, packet_of}
pub use Rattle.dm_packet.proofs.Names.{take-append-drop, ◌>>=◌}
pub use Rattle.dm_packet.specs.Fields.{LinkParts}
pub use Rattle.dm_process.proofs.Names.{add-one}
pub use Rattle.dm_linkupdate.proofs.Names.{None, Process, SlotIsLawful}
pub use Rattle.dm_statebytes.proofs.Names.{Front, PacketError, Regs, bind_ok, by_rule, front, length-drop, mask, only_shell, read_slots, shell, shell_with, slots, table}
pub use Rattle.dm_statebytes.specs.Shell.{read_shell}
unfoldable pub use Rattle.dm_statebytes.specs.Shell.{shell_of_bytes}
pub use Rattle.dm_migrate.proofs.Names.{All-append, All-cons, Arrival, Err, Ok, Result, Shell, StateBytesError, restarted, revived, revived_from, take_rest}
pub use Rattle.dm_switchboard.proofs.Imports.{IsLawfulNamed, Named, switchboard}
pub use Rattle.dm_procman.proofs.Names.{Boot, IsValid, manager}
pub use Rattle.dm_law_one.proofs.Names.{OneKernel, false≢true, first_number, pid_of, ⊤}
pub use Rattle.dm_datamove.proofs.Names.{All-nil}
pub use Rattle.dm_syscall.proofs.Names.{drop-cons}
pub use Rattle.dm_law_rule.proofs.Names.{Directive, IsStep, Leads, Line, Next, Point, Spelled, Step, Todo, View, after, after_line, all_of, bind-is, first_point, group_of, kernel_after, label_of, moved, next_step, seen, view_after}
pub use Rattle.dm_law_rule.specs.Worn.{IsWorn}
pub use Rattle.dm_law_places.proofs.Names.{Pending}
pub use Rattle.dm_kernel.proofs.Names.{All-head, All-tail, Block, Chunk, Forward, Frozen, Global, Here, Incoming, IsLawfulKnown, IsLawfulState, KernelKnown, Nothing, Vec, Wanted}
pub use Rattle.dm_law_always.proofs.Decided.{shorter_begins}
pub use Rattle.dm_law_always.proofs.Names.{IsRun}
pub use Rattle.dm_law_moves.proofs.Names.{EndLine, Standing, act_of, block_line, joined_below, home_with, list_line, memory_lines, or, trimmed}
pub use Rattle.dm_law_moves.proofs.Settles.Falls.TurnsFall.{turns_fall}
pub use Rattle.dm_law_moves.proofs.Settles.FewSteps.Few.{turns_left_few}
pub use Rattle.dm_law_moves.proofs.Names.{IsKept, IsSettleStep, Settle, Two, ends_settled, is_at_rest, stands_once_always, sum_below, turns_left}
pub use Rattle.dm_law_moves.proofs.At.Always.{at_rest_always}
pub use Rattle.dm_law_moves.proofs.After.{group_after}
pub use Rattle.dm_law_moves.proofs.Settles.Rests.EndsAtRest.{ends_at_rest}
pub use Rattle.dm_law_moves.proofs.Settles.Rests.EndsQuiet.{ends_quiet}
pub use Rattle.dm_law_moves.specs.Settles.Passes.{turns_in}
pub use Rattle.dm_text.proofs.Names.{EndFits, LineFits, text}
pub use Rattle.dm_text.specs.Fits.{HidesNothing}
unfoldable pub use Rattle.dm_text.specs.Text.{text_of_ends, text_of_lines}
pub use Rattle.dm_node.proofs.Names.{Acts, Goes, IsErrAnd, OrNoMemory, Packet}
pub use Rattle.dm_world.proofs.Names.{Answers, AreReadBack, Falls, Happened, IsWorld, IsWornOut, MayStep, MeetsSome, NextIs, Round, Said, Says, SettleGoes, WorldState, WornOut, acted, after_mark, bytes_at, delivers, drop_all, reads}
pub use Rattle.dm_world.proofs.Names.{room_of, turned, turns_at, turns_of, world_has_mail, world_is_quiet, world_next_step, world_state, world_step, world_undelivered}
pub use Rattle.dm_world.specs.Cursor.{IsSettling, left, todo_of}
unfoldable pub use Rattle.dm_world.specs.Cursor.{room}
pub use Rattle.dm_world.specs.Ends.{MayEnd}
pub use Rattle.dm_world.specs.declared.cursor.Cursor.{Cursor}
pub use Rattle.dm_world.specs.declared.cursor.Cursor.TheVariants.{One, Passing}
pub use Rattle.dm_world.specs.declared.cursor.Place.{Place}
pub use Rattle.dm_world.specs.declared.cursor.Place.TheVariants.{End, Packets, Turns}
pub use Rattle.dm_world.specs.declared.world.World.{World}
pub use Rattle.dm_law_mirror.proofs.Names.{AreWhole, EndIsSaid, EndMay, GoesOn, IsDirective, NextIsSaid, Ran, RanBegins, RanGoesOn, RunBegins, RunGoesOn, RunIsRan, RunStands, Stands, first_world, full_route, gave, is_full, joined, of_known}
pub use Rattle.dm_law_mirror.proofs.Names.{worn_in}
pub use Rattle.dm_law_mirror.proofs.Next.{machines_stay, next_fits, undelivered_said}
pub use Rattle.dm_law_mirror.proofs.QuietSaid.{mail_is_said}
pub use Rattle.dm_law_mirror.proofs.Routing.{worn_alike}
pub use Rattle.dm_law_mirror.proofs.Totals.{Grows, grows_on, grows_same, ids_of, put_adds, seen_grows}
pub use Rattle.dm_law_mirror.specs.Laws.{RunGoes}
pub use Rattle.dm_law_mirror.specs.Ran.{RanGoes}
pub use Rattle.dm_law_mirror.proofs.Going.{run_begins}
pub use Rattle.dm_law_mirror.proofs.Given.{end_is_said, end_may, ran_goes_on, run_goes_on}
pub use Rattle.dm_law_mirror.proofs.Next.{next_is_said}
pub use Rattle.dm_law_mirror.proofs.QuietSaid.{quiet_is_said}
pub use Rattle.dm_law_mirror.proofs.Single.{ran_begins}
pub use Rattle.dm_law_mirror.specs.Run.{IsGood}
pub use Rattle.dm_run.proofs.Carried.{Carried, Carries}
pub use Rattle.dm_run.proofs.Counted.{counts}
pub use Rattle.dm_run.proofs.Going.{went}
pub use Rattle.dm_run.specs.Notion.{Notion, WorldPlace, WorldWears, by_world}
pub use Rattle.dm_run.specs.Runs.{IsFor, cursor_of}
pub use Rattle.dm_run.specs.Way.{IsDone}
pub use Rattle.dm_run.specs.Went.{ComesNext, Does, EndsMay, Led, NoneLeft, RunsGo, WearsBy, Went, begins, does, first_way, goes, starts, turns}
pub use Rattle.dm_run.specs.declared.way.Way.{Way}
pub use Rattle.dm_program.specs.Printed.{EndsWell, Lasts, RulePlace, RuleWears, Wears, WearsAfter}
pub use Rattle.std.proofs.lemmas.Option.{get_or_from_slice_get, slice_get_within}
pub use Rattle.std.proofs.lemmas.List.Elements.{All-get_or}
pub use Rattle.std.specs.Prelude.{slice_get}
