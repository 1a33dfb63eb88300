-- What the proofs of this crate name of what lies below it.
pub use Rattle.std.proofs.Common.{inl, inr, nat_le, ◌⊎◌}
pub use Rattle.std.proofs.lemmas.List.Elements.{All-append, All-cons, All-nil}
pub use Rattle.std.proofs.lemmas.Nat.{mod-mul-add, mod_below}
pub use Rattle.std.specs.List.{All}
pub use Rattle.dm_processor.proofs.Names.{Bool, List, [], ap, arith, false, length, length-append, nat_tests, refl, suc, sym, true, zero, ℕ, ◌%◌, ◌*◌, ◌++◌, ◌+◌, ◌-◌, ◌/◌, ◌<◌, ◌^◌, ◌∙◌, ◌∷◌, ◌≡◌, ◌≤◌}
pub use Rattle.dm_linktable.proofs.Names.{rules, subst, ◌&&◌, ◌==◌, ◌≢◌}
pub use Rattle.dm_schedule.proofs.Names.{if◌then◌else◌, nat_lt}
pub use Rattle.dm_schedule.specs.declared.Directive.{Directive}
pub use Rattle.dm_draw.specs.Boot.{first_processes, small_machine, small_machines}
unfoldable pub use Rattle.dm_draw.specs.Boot.{boot_of_machines}
pub use Rattle.dm_draw.specs.Directives.{Drawn, IsDrawn, deliver_drawn, directives_drawn, migrate_drawn, round_drawn, tick_drawn, turn_drawn}
unfoldable pub use Rattle.dm_draw.specs.Directives.{directive_drawn, directives_by, state_behind}
unfoldable pub use Rattle.dm_draw.specs.Draw.{drawn, stepped}
pub use Rattle.dm_onekernel.specs.Boot.{IsValid, images_are_valid, machines_are_valid, processes_are_valid}
pub use Rattle.dm_onekernel.specs.declared.boot.Boot.{Boot}
pub use Rattle.dm_onekernel.specs.declared.boot.BootProcess.{BootProcess}
pub use Rattle.dm_link.specs.declared.Pid.{Pid}
pub use Rattle.std.specs.declared.option.Option.{Option}
pub use Rattle.std.specs.declared.option.Option.TheVariants.{None, Some}
pub use Rattle.dm_draw.specs.Own.{arrival_drawn, behind_process, calloff_drawn, move_drawn, own_directives_drawn, process_drawn}
unfoldable pub use Rattle.dm_draw.specs.Own.{own_drawn}
