-- Each process stands before those that have begun.
use Rattle.std.specs.Prelude.{◌-◌, List, length}
use Rattle.std.proofs.Common.{arith, subst, sym}
use Rattle.dm_onekernel.specs.declared.boot.BootProcess.{BootProcess}
use Rattle.dm_replay.proofs.Beginning.{HasBegun, begins_next, next_fine, none_begun}
use Rattle.dm_onekernel.proofs.Lawful.{few_machines}
use Rattle.dm_replay.proofs.kernel.Kernel.start.Goals as goal

pub loop-left-init : goal.loop-left-init
loop-left-init c =
    let b = c.args.boot.now in
    let k = c.in_ok-kernel.kernel in
    subst (λ (ps : List BootProcess). HasBegun b (length ps) k) (sym c.as_slice-processes.ensures)
    (none_begun b k c.in_ok-kernel.ensures.state c.in_ok-kernel.ensures.sound c.in_ok-kernel.ensures.of c.in_ok-kernel.ensures.labels)

pub begin-requires-clause-home : goal.begin-requires-clause-home
begin-requires-clause-home c =
    let fine =
    next_fine c.args.boot.now c.as_slice-processes.result.now c.loop-left.left c.loop-left.kernel c.index-processes-left.result c.requires.valid c.as_slice-processes.ensures c.loop-left.invariant c.loop-left-test.true
    c.index-processes-left.is
    in
    let home = fine.home in
    let few = few_machines (length c.args.boot.now.machines) c.requires.valid.few_machines in
    omega (arith, home, few)

pub begin-requires-clause-image : goal.begin-requires-clause-image
begin-requires-clause-image c =
    let fine =
    next_fine c.args.boot.now c.as_slice-processes.result.now c.loop-left.left c.loop-left.kernel c.index-processes-left.result c.requires.valid c.as_slice-processes.ensures c.loop-left.invariant c.loop-left-test.true
    c.index-processes-left.is
    in
    fine.image

pub begin-requires-clause-links : goal.begin-requires-clause-links
begin-requires-clause-links c =
    let fine =
    next_fine c.args.boot.now c.as_slice-processes.result.now c.loop-left.left c.loop-left.kernel c.index-processes-left.result c.requires.valid c.as_slice-processes.ensures c.loop-left.invariant c.loop-left-test.true
    c.index-processes-left.is
    in
    fine.links

pub loop-left-preserved : goal.loop-left-preserved
loop-left-preserved c =
    begins_next c.args.boot.now c.as_slice-processes.result.now c.loop-left.left c.loop-left.kernel c.begin.new.self c.index-processes-left.result c.requires.valid c.as_slice-processes.ensures c.loop-left.invariant
    c.loop-left-test.true
    c.index-processes-left.is
    c.in_ok-begin.ensures.state
    c.in_ok-begin.ensures.sound
    c.in_ok-begin.ensures.stays
