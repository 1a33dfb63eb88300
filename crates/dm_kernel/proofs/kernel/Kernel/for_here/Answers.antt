-- A process that is told or asked to move may be frozen.
use Rattle.dm_kernel.proofs.Names.{sym, subst, at, Message, IsHere, kernel_state}
use Rattle.dm_kernel.specs.Served.{Handles}
use Rattle.dm_kernel.proofs.Standing.{process_asked, process_freezes}
use Rattle.dm_kernel.proofs.kernel.Kernel.for_here.Goals as goal

pub migrate-requires : goal.migrate-requires
migrate-requires c =
    let s = kernel_state c.args.self.now in
    let said = c.get-said.result.now in
    let known : IsHere (Handles s said) (at c.args.self.now.records said.to.pid) =
    subst (λ (m : Message). IsHere (Handles s m) (at c.args.self.now.records m.to.pid)) (sym c.get-said.ensures) c.requires.process
    in
    record { resident = process_freezes s said _ (at c.args.self.now.records said.to.pid) c.in-Migrate.is known }

pub move_asked-requires : goal.move_asked-requires
move_asked-requires c =
    let s = kernel_state c.args.self.now in
    let said = c.get-said.result.now in
    let known : IsHere (Handles s said) (at c.args.self.now.records said.to.pid) =
    subst (λ (m : Message). IsHere (Handles s m) (at c.args.self.now.records m.to.pid)) (sym c.get-said.ensures) c.requires.process
    in
    record { process = process_asked s said _ (at c.args.self.now.records said.to.pid) c.in-Move.is known }
