-- What the proofs of this crate name of what lies below it.
pub use Rattle.std.proofs.Common.{inl}
pub use Rattle.std.proofs.lemmas.List.Elements.{All-cons, All-nil}
pub use Rattle.std.specs.List.{All}
pub use Rattle.std.specs.Prelude.{if◌then◌else◌, nat_le}
pub use Rattle.std.specs.declared.option.Option.{Option}
pub use Rattle.dm_link.specs.declared.Addr.{Addr}
pub use Rattle.dm_processor.proofs.Names.{Bool, List, None, Some, ap, arith, common_steps, drop, false, length, length-set, nat_tests, refl, replicate, suc, sym, take, true, zero, ℕ, ◌+◌, ◌-◌, ◌<◌, ◌∙◌, ◌≡◌, ◌≤◌}
pub use Rattle.dm_message.specs.Kinds.{kind_of}
pub use Rattle.dm_message.specs.Lawful.{IsLawfulMessage, IsLawfulWhat, IsPiece, is_answer}
pub use Rattle.dm_message.specs.Plain.{PlainMessage, plain_message}
pub use Rattle.dm_message.specs.declared.MsgId.{MsgId}
pub use Rattle.dm_message.specs.declared.What.{What}
pub use Rattle.dm_linktable.proofs.Names.{Link, Pid, subst, ◌&&◌, ◌==◌}
pub use Rattle.dm_process.proofs.Names.{Message}
pub use Rattle.dm_process.specs.Begun.{begun_process}
pub use Rattle.dm_process.specs.Lawful.{IsLawfulProcess, IsLawfulStatus, SlotIsLawful}
pub use Rattle.dm_process.specs.declared.process.Direction.{Direction}
pub use Rattle.dm_process.specs.declared.process.Process.{Process}
pub use Rattle.dm_process.specs.declared.process.Status.{Status}
pub use Rattle.dm_onekernel.specs.Options.{bind}
pub use Rattle.dm_onekernel.specs.Pieces.{lands, lands_what, piece_of, written_at}
pub use Rattle.dm_onekernel.specs.Plain.{plain_process, plain_status}
pub use Rattle.dm_onekernel.specs.PlainProcess.{Moving}
pub use Rattle.dm_onekernel.specs.declared.label.Reply.{Reply}
pub use Rattle.dm_datamove.specs.Landing.{IsAnswerOf, IsAwaited, IsLawfulLanded, Landing, asks, behind, done, goes_on, landing, plain_landed, plainly_landed}
pub use Rattle.dm_datamove.specs.Requests.{IsRest, request_of}
pub use Rattle.dm_datamove.specs.Serving.{IsRequest, IsWithin, after_serving, answer, answer_of, answer_with, gone_answer, plain_served, plainly_gone, served_plainly, serving_answer}
pub use Rattle.dm_datamove.specs.declared.Landed.{Landed}
pub use Rattle.dm_datamove.specs.declared.Rest.{Rest}
