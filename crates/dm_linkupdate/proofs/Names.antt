-- What the proofs of this crate name of what lies below it.
pub use Rattle.std.proofs.lemmas.List.Elements.{All-map}
pub use Rattle.std.specs.List.{All}
pub use Rattle.std.specs.Prelude.{Bool, if◌then◌else◌}
pub use Rattle.std.specs.declared.option.Option.{Option}
pub use Rattle.std.specs.declared.option.Option.TheVariants.{None, Some}
pub use Rattle.dm_link.specs.Lawful.{IsLawfulAddr, IsLawfulEnclosed, IsMachine}
pub use Rattle.dm_link.specs.Places.{is_behind, relocated, retargeted, retargeted_link}
pub use Rattle.dm_link.specs.declared.Addr.{Addr}
pub use Rattle.dm_linktable.proofs.Names.{Link, List, Pid, false, length, length-map, map, retargeted_slot, rules, subst, sym, true, ℕ}
pub use Rattle.dm_process.specs.Lawful.{IsLawfulProcess, IsLawfulStatus, SlotIsLawful}
pub use Rattle.dm_process.specs.declared.process.Process.{Process}
pub use Rattle.dm_process.specs.declared.process.Status.{Status}
pub use Rattle.dm_process.specs.declared.process.Status.TheVariants.{Moving, Ready, Waiting}
pub use Rattle.dm_linkupdate.specs.Applied.{applied, status_after}
