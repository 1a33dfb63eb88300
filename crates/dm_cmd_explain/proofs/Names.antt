-- What the proofs of this crate name of what lies below it.
pub use Rattle.dm_boot.proofs.Imports.{Bor}
pub use Rattle.dm_world.proofs.Names.{option_map}
pub use Rattle.dm_front.proofs.Kept.{Kept}
pub use Rattle.dm_front.proofs.Meeting.{all_read, both_read, lack_unread, unwritten}
pub use Rattle.dm_front.proofs.Names.{Around, BlamesSink, Boot, BootRefused, BootRule, BootTold, Done, Global, Input, IsWant, LabelsRefused, List, MeetsShelf, MeetsSink, NoBoot, NoFiles, NoMemory, None, NotFound, Option, ReadFault}
pub use Rattle.dm_front.proofs.Names.{RoseOrFull, ScheduleRefused, Some, Status, TellsRead, TheNoMemory, TooLong, TraceRefused, Undecided, Usage, Vec, World, Worn, WriteFault, ap, inl, inr, perhaps_both, refl, rule_number, status_so_far}
pub use Rattle.dm_front.proofs.Names.{subst, sym, ℕ, ◌∙◌, ◌≡◌, ◌⊎◌}
pub use Rattle.dm_front.proofs.Outcomes.{Files, boot_part, no_files, outcome, said_boot, said_files, want_or_not}
pub use Rattle.dm_front.proofs.Systems.{no_boot}
pub use Rattle.dm_front.proofs.Telling.{says_boot, system_says}
pub use Rattle.dm_front.specs.Outside.{shelf_around}
pub use Rattle.dm_front.specs.Told.{Wrote}
pub use Rattle.dm_cmd_explain.specs.Explains.{BeforeRun, ExplainMeets, NoInputs, TellsFiles, explain_promise}
