-- What the proofs of this crate name of what lies below it.
pub use Rattle.std.proofs.Common.{◌≡◌, ◌≤◌, ◌<◌, ℕ, suc, ◌+◌, ◌==◌, Bool, true, false, if◌then◌else◌, List, [], ◌∷◌, ◌++◌, length, take, drop, get_or, drop-cons, refl, ap, ◌∙◌, sym, subst, arith, rules, Option, None, Some, Result, Ok, Err}
pub use Rattle.std.proofs.Common.{append_assoc, append-nil, length-append, codes, zero, ◌-◌}
pub use Rattle.std.specs.Prelude.{option_map}
pub use Rattle.std.proofs.Math.Seq.{drop-length}
pub use Rattle.std.proofs.Common.{take-append-drop}
pub use Rattle.std.proofs.lemmas.Bool.{false≢true}
pub use Rattle.std.proofs.lemmas.Bool.Decides.{Decides-eqb, nat_tests}
pub use Rattle.std.proofs.lemmas.List.{take_more, take_rest}
pub use Rattle.std.proofs.lemmas.List.Elements.{All-append, All-cons, All-nil}
pub use Rattle.std.proofs.lemmas.Slice.Eq.{starts_is}
pub use Rattle.std.specs.List.{All}
pub use Rattle.std.specs.Result.{IfErr, IsErr, IsErrAnd}
pub use Rattle.dm_onekernel.specs.declared.boot.Boot.{Boot}
pub use Rattle.dm_schedule.specs.declared.Step.{Step}
pub use Rattle.dm_line.specs.declared.end_line.EndLine.{EndLine}
pub use Rattle.dm_line.specs.declared.line.Line.{Line}
pub use Rattle.dm_text.proofs.LinesBack.{pieces_of_line}
pub use Rattle.dm_text.proofs.Names.{EndFits, LineFits, end_text, end_words, line_words, spaced, spelled_line, text}
unfoldable pub use Rattle.dm_text.specs.Reading.{pieces}
unfoldable pub use Rattle.dm_text.specs.Text.{text_of_ends, text_of_lines}
pub use Rattle.dm_shape.proofs.Fitting.{behind_none, split_some}
pub use Rattle.dm_shape.proofs.Imports.{IsFull, bytes_eq, bytes_eq-Decides, end_words_are, has_shape, line_bytes, line_words-are, spelled_bytes}
pub use Rattle.dm_shape.proofs.NamesRead.{cut_is, first_is, one_piece, some_piece}
pub use Rattle.dm_shape.proofs.ShapeLaws.{ends_have, heads_have, lines_have}
unfoldable pub use Rattle.dm_shape.specs.Heads.{head_step}
pub use Rattle.dm_world.specs.Ends.{end_lines as ends_of}
pub use Rattle.dm_world.specs.Meets.{world_state}
pub use Rattle.dm_world.specs.declared.world.World.{World}
pub use Rattle.std.specs.Prelude.{Vec}
pub use Rattle.std.specs.declared.alloc.Global.{Global}
pub use Rattle.dm_world.specs.World.{Said, Says, WorldState, WornOut, world_step}
pub use Rattle.dm_run.specs.Runs.{joined}
pub use Rattle.dm_run.specs.Running.{IsRunning, StopsWorn}
pub use Rattle.dm_run.specs.Went.{Does, WearsBy, Went, begins, goes}
pub use Rattle.dm_check.specs.Checked.{HasChecked}
pub use Rattle.dm_check.specs.Checking.{FallsBy, RefusedSo, first_line, head_of_line, is_final, taken_of}
pub use Rattle.dm_check.specs.Good.{AllHeld, AreHeads, good_verdict}
pub use Rattle.dm_check.specs.Judge.{Course, Due, Ended, Falls, Judgement, Open, Refused, Stands, Verdict, at_end, at_head, begins_group, behind_line, can_hold, falls_as_step, is_line_text, judged_from, taken, text_ended, told}
unfoldable pub use Rattle.dm_check.specs.Judge.{verdict_by}
pub use Rattle.dm_check.specs.Says.{ComesTo, RefusedBy, SaysAs}
pub use Rattle.dm_check.specs.declared.fault.TraceFault.{TraceFault}
pub use Rattle.dm_check.specs.declared.fault.TraceFault.TheVariants.{NotALine, NotDue, NotTheEnd}
pub use Rattle.dm_check.specs.declared.stop.CheckError.{CheckError}
pub use Rattle.dm_check.specs.DueThere.{Wearing, before_told, behind_told, due_behind, due_told, end_told, group_told, head_told, line_told, told_of_last}
unfoldable pub use Rattle.dm_check.specs.DueThere.{was_due}
pub use Rattle.dm_check.specs.Judged.{EndsStray, FallsFrom, GroupStrays, IsAt, IsRefusedSo, IsStray, JudgedBy, JudgedFrom, JudgedThere, LacksGroup, LineStrays, StandsTo, StrayedSo, StraysBehind, StraysEnd, StraysHere, TellsFewer, WearsAs, strayed, told_of_none}
pub use Rattle.dm_check.specs.declared.follow.Stray.{Stray}
pub use Rattle.dm_check.specs.declared.refusal.Group.{Group}
pub use Rattle.dm_check.specs.declared.refusal.JudgeError.{JudgeError}
pub use Rattle.dm_check.specs.declared.refusal.Refusal.{Refusal}
pub use Rattle.dm_check.specs.declared.refusal.WasDue.{WasDue}
pub use Rattle.dm_check.specs.declared.trace.NoneDue.{NoneDue}
