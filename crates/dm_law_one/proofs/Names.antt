-- What the proofs of this crate name of what lies below it.
pub use Rattle.std.proofs.Common.{inl, inr, is_none, is_some, nat_le, nat_lt, ◌⊎◌}
pub use Rattle.std.proofs.lemmas.Bool.{and_right, cases_Bool, false≢true, or_parts}
pub use Rattle.std.proofs.lemmas.Option.{cond_some}
pub use Rattle.std.specs.Prelude.{if◌then◌else◌, option_map, ⊤, ◌||◌}
pub use Rattle.std.specs.declared.option.Option.{Option}
pub use Rattle.std.specs.declared.option.Option.TheVariants.{None, Some}
pub use mathlib.Core.Path.{fun_ext}
pub use Rattle.dm_link.specs.Names.{pid_of}
pub use Rattle.dm_link.specs.Plain.{PlainLink, plain_link}
pub use Rattle.dm_processor.proofs.Names.{Bool, List, Row, [], ap, arith, drop, false, instruction, length, nat_tests, refl, sym, take, true, ℕ, ◌*◌, ◌++◌, ◌+◌, ◌-◌, ◌∙◌, ◌∷◌, ◌≡◌, ◌≤◌}
pub use Rattle.dm_message.specs.Ids.{bool_eq, id_eq, id_of}
pub use Rattle.dm_message.specs.Outcomes.{code_of_outcome}
pub use Rattle.dm_message.specs.Plain.{PlainMessage, PlainWhat}
pub use Rattle.dm_message.specs.declared.MsgId.{MsgId}
pub use Rattle.dm_message.specs.declared.Outcome.{Outcome}
pub use Rattle.dm_linktable.proofs.Names.{Pid, first_empty, link_at, map, pid_eq, subst, ◌&&◌, ◌==◌}
pub use Rattle.dm_process.proofs.Names.{slice_get}
pub use Rattle.dm_process.specs.Directions.{direction_numbered}
pub use Rattle.dm_process.specs.declared.process.Direction.{Direction}
pub use Rattle.dm_onekernel.specs.Boot.{IsValid, first_number, manager, processes_are_valid, starting_at, switchboard}
pub use Rattle.dm_onekernel.specs.Calls.{CallNumber, Called, Copy, Drop, Ends, Make, Move, Out, Outputs, Receive, Replies, Send, Sends, Waits, call_number}
pub use Rattle.dm_onekernel.specs.Kernel.{Alive, Ended, Life, Manager, MoveNote, OneKernel, Pending, Switchboard, with_note, with_process, with_sent, without_note}
pub use Rattle.dm_onekernel.specs.Options.{bind, when}
pub use Rattle.dm_onekernel.specs.Pieces.{answer_id, answer_to}
pub use Rattle.dm_onekernel.specs.PlainProcess.{Moving, PlainProcess, PlainStatus, Ready, Waiting, reg}
pub use Rattle.dm_onekernel.specs.Refusals.{first_failed}
pub use Rattle.dm_onekernel.specs.Service.{follows_request, gone_what, serves, without_message}
pub use Rattle.dm_onekernel.specs.Start.{begun, first_life, life_at, start}
pub use Rattle.dm_onekernel.specs.Step.{replay}
pub use Rattle.dm_onekernel.specs.declared.boot.Boot.{Boot}
pub use Rattle.dm_onekernel.specs.declared.boot.BootImage.{BootImage}
pub use Rattle.dm_onekernel.specs.declared.boot.BootProcess.{BootProcess}
pub use Rattle.dm_onekernel.specs.declared.label.Label.{Label}
pub use Rattle.dm_onekernel.specs.declared.label.Reply.{Reply}
pub use Rattle.dm_onekernel.specs.declared.label.Why.{Why}
pub use Rattle.dm_onekernel.specs.declared.request.PendingKind.{PendingKind}
pub use Rattle.dm_law_one.specs.Laws.{CountsOnlyRise, EndedStays, EntersOnce, IsOwnStep, Leads, MoverHasOne, NotedRests, NotesAgree, NotesAlwaysAgree, ReceivesOnce, StaysOrLeaves, entries, entries_on, entry, in_bag, reception, receptions}
pub use Rattle.std.specs.Option.{option_map_or}
