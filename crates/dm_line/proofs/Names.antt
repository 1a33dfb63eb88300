-- What the proofs of this crate name of what lies below it.
pub use Rattle.std.proofs.Common.{inl, inr}
pub use Rattle.std.proofs.lemmas.Bool.{false≢true}
pub use Rattle.std.proofs.lemmas.Bool.Decides.{eqb_tells}
pub use Rattle.dm_processor.proofs.Names.{Bool, ap, arith, false, refl, suc, sym, true, zero, ℕ, ◌<◌, ◌∙◌, ◌≡◌}
pub use Rattle.dm_linktable.proofs.Names.{subst, ◌&&◌, ◌≢◌}
pub use Rattle.dm_line.specs.Each.{all_below}
