-- What the proofs of this crate name of what lies below it.
pub use Rattle.std.proofs.Common.{List, Some, [], arith, length, refl, remove, slice_get, suc, sum, zero, ℕ, ◌+◌, ◌<◌, ◌∷◌, ◌≡◌, ◌≤◌}
pub use Rattle.std.proofs.lemmas.Bool.Decides.{nat_tests}
pub use Rattle.std.proofs.lemmas.Grind.{common_steps}
pub use Rattle.dm_room.specs.Held.{Event, IsExact, Use, happens, run, start}
pub use Rattle.dm_room.specs.Room.{HasTaken, IsWithin}
