-- What the proofs of this crate name of what lies below it.
pub use Rattle.std.proofs.Common.{add-one, min, remove, slice_get}
pub use Rattle.dm_processor.proofs.Names.{List, None, Some, [], ap, arith, false, length, refl, suc, sym, take, true, zero, ℕ, ◌<◌, ◌∙◌, ◌∷◌, ◌≡◌, ◌≤◌}
pub use Rattle.dm_message.specs.declared.Message.{Message}
pub use Rattle.dm_linktable.proofs.Names.{length-remove, subst}
pub use Rattle.dm_process.specs.Mail.{HasPassed, first_on, is_on, without_first_on}
