-- What the proofs of this crate name of what lies below it.
pub use Rattle.std.proofs.Common.{◌≡◌, ◌≢◌, ◌⊎◌, ◌≤◌, ◌<◌, ℕ, zero, suc, ◌+◌, ◌-◌, ◌*◌, ◌^◌, Bool, true, false, List, [], ◌∷◌, ◌++◌, length, take, drop, get_or, refl, ap, ◌∙◌, sym, subst, inl, inr, arith, Option, None, Some, Result, Ok, Err, append_assoc}
pub use Rattle.std.proofs.Math.Seq.{take-length}
pub use Rattle.std.proofs.lemmas.List.{drop-take, take-take}
pub use Rattle.std.proofs.lemmas.List.Elements.{All-more}
pub use Rattle.std.proofs.lemmas.List.Sums.{fold-append}
pub use Rattle.std.specs.Prelude.{◌↔◌, Vec, OnOk, slice_get}
pub use Rattle.std.specs.List.{All}
pub use Rattle.std.specs.Result.{IfErr, IsErr, IsErrAnd}
pub use Rattle.std.specs.declared.alloc.Global.{Global}
pub use Rattle.std.proofs.lemmas.List.{append-nil, length-append, length-drop, take-append-drop, take_rest}
pub use Rattle.std.proofs.lemmas.List.Elements.{All-append, All-cons, All-nil}
pub use Rattle.dm_link.specs.declared.Pid.{Pid}
pub use Rattle.dm_onekernel.specs.declared.boot.Boot.{Boot}
pub use Rattle.dm_onekernel.specs.Boot.{IsValid}
pub use Rattle.dm_schedule.specs.declared.Directive.{Directive}
pub use Rattle.dm_schedule.specs.declared.Step.{Step}
pub use Rattle.dm_packet.specs.declared.Packet.{Packet}
pub use Rattle.dm_packet.specs.declared.PacketError.{PacketError}
pub use Rattle.dm_packet.specs.Packets.{packet_of}
pub use Rattle.dm_wire.specs.Sent.{bytes_at}
pub use Rattle.dm_wire.specs.Wire.{after_mark}
pub use Rattle.dm_stream.specs.Packets.{Ack, Data}
pub use Rattle.dm_line.proofs.Names.{false≢true}
pub use Rattle.std.proofs.lemmas.Option.{slice_get-get_or}
pub use Rattle.dm_run.specs.Runs.{IsFor, IsStep, cursor_of, joined}
pub use Rattle.dm_line.specs.declared.end_line.EndLine.{EndLine}
pub use Rattle.dm_line.specs.declared.line.Line.{Line}
pub use Rattle.dm_text.specs.Fits.{EndFits, HidesNothing, LineFits}
pub use Rattle.dm_text.specs.Text.{text}
unfoldable pub use Rattle.dm_text.specs.Text.{text_of_ends, text_of_lines}
pub use Rattle.dm_chart.specs.Kept.{keep, kept_of, none_kept}
pub use Rattle.dm_chart.specs.Picture.{boot_pids, chart_of, names_drawn, picture_of}
pub use Rattle.dm_chart.specs.declared.kept.Kept.{Kept}
pub use Rattle.dm_node.specs.Meets.{OrNoMemory}
pub use Rattle.dm_node.specs.Out.{Acts, Goes}
pub use Rattle.dm_world.specs.Ends.{end_lines as world_end_lines}
pub use Rattle.dm_world.specs.May.{MayStep}
pub use Rattle.dm_world.specs.Meets.{Answers, IsWorld, IsWornOut, MeetsSome, world_state}
pub use Rattle.dm_world.specs.Readable.{AreReadBack, gave}
pub use Rattle.dm_world.specs.Whole.{AreWhole}
pub use Rattle.dm_world.specs.World.{Happened, Said, Says, WorldState, WornOut, acted, delivers, first_world, reads, turned, world_step}
pub use Rattle.dm_world.specs.declared.cursor.Cursor.{Cursor}
pub use Rattle.dm_world.specs.declared.world.World.{World}
pub use Rattle.dm_outside.specs.Outside.{appended}
pub use Rattle.dm_ending.specs.declared.stop.Stop.{Stop}
pub use Rattle.dm_ending.specs.declared.stop.Stop.TheVariants.{NoMemory, Worn, WriteFault}
pub use Rattle.dm_run.specs.Coming.{Blames, BlamesBy, Came, Ended, HasCome, HasEnded, IsThrough, IsWritten, Offered, Stopped}
pub use Rattle.dm_run.specs.Notion.{Notion, by_world}
pub use Rattle.dm_run.specs.Pictured.{HasWorn, IsBeforeWorn, IsCollected, IsDrawn, Keeps, PictureIsWhole}
pub use Rattle.dm_run.specs.Printed.{IsBegun, IsOfFirst, IsWhole, RunWears, StandsFor, WearsAfter}
pub use Rattle.dm_run.specs.Running.{IsAtStart, IsRunning, StopsSo, StopsWorn}
pub use Rattle.dm_run.specs.Way.{GoesOn, IsDone, Nexts, Reaches, Stays}
pub use Rattle.dm_run.specs.Went.{ComesNext, Does, EndsMay, Led, NoneLeft, RunsGo, WearsBy, Went, begins, does, first_way, goes, starts, turns}
pub use Rattle.dm_run.specs.declared.drawing.Drawn.{Drawn}
pub use Rattle.dm_run.specs.declared.way.Way.{Way}
