use Rattle.std.specs.Prelude.{◌+◌, slice_index, slice_set}
use Rattle.std.proofs.Common.{ap, arith, refl, subst, sym}
use Rattle.dm_replay.specs.declared.kernel.Kernel.{Kernel}
use Rattle.dm_replay.specs.Sound.{IsFit}
use Rattle.dm_onekernel.proofs.Lawful.{child_lawfully}
use Rattle.dm_replay.proofs.Standing.{sound_stood, state_stood}
use Rattle.dm_replay.proofs.kernel.Kernel.stand.Goals as goal

pub returns-clause-state : goal.returns-clause-state
returns-clause-state c =
    let old : Kernel = c.args.self.now in
    let new : Kernel = record c.args.self.now { processes = c.set.new.self; made = slice_set c.args.self.now.made c.from.result (slice_index c.args.self.now.made c.from.result + 1) } in
    state_stood c.args.boot.now old new c.args.child c.in_ok-process.process c.args.image.now c.args.links.now refl c.in_ok-set.ensures (ap (λ h. slice_set c.args.self.now.made h (slice_index c.args.self.now.made h + 1)) c.from.ensures)
    (omega arith) c.in_ok-process.ensures

pub returns-clause-sound : goal.returns-clause-sound
returns-clause-sound c = λ n h enclosed less.
    let new : Kernel = record c.args.self.now { processes = c.set.new.self; made = slice_set c.args.self.now.made c.from.result (slice_index c.args.self.now.made c.from.result + 1) } in
    let fit : IsFit n c.args.child c.in_ok-process.process =
    subst (IsFit n c.args.child) (sym c.in_ok-process.ensures)
    (record { pid = refl; lawful = child_lawfully c.args.boot.now c.args.child c.args.image.now c.args.links.now (omega arith) c.requires.image c.requires.links enclosed; sent = omega arith })
    in
    sound_stood n c.args.self.now new c.args.child c.in_ok-process.process refl c.in_ok-set.ensures (ap (λ h. slice_set c.args.self.now.made h (slice_index c.args.self.now.made h + 1)) c.from.ensures) (omega arith) less fit h
