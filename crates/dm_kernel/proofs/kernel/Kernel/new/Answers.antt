-- One process more stands, and those that are left have their room.
use Rattle.dm_kernel.proofs.Names.{◌≡◌, [], ◌∷◌, ◌+◌, ◌∙◌, drop, sym, subst, ap, slice_get, KernelState, begins_process, empty, with_all, kernel_state}
use Rattle.dm_kernel.proofs.Making.{drop_at, is_fine}
use Rattle.dm_kernel.proofs.Opening.{HasRoomFor, is_state, room_from, room_then}
use Rattle.dm_kernel.proofs.kernel.Kernel.new.Goals as goal

pub loop-process-init : goal.loop-process-init
loop-process-init c =
    let b = c.args.boot.now in
    let e : kernel_state c.in_ok-kernel.kernel ≡ empty b c.args.here = is_state c.in_ok-kernel.kernel (empty b c.args.here) c.in_ok-kernel.ensures in
    record {
      opens = λ i. with_all b (e i) (c.as_slice-process-items.ensures i);
      room =
          subst (λ (s : KernelState). HasRoomFor b c.args.here s c.as_slice-process-items.result.now) (sym e)
          (subst (HasRoomFor b c.args.here (empty b c.args.here)) (sym c.as_slice-process-items.ensures) (room_from b c.args.here c.requires.valid c.requires.here));
    }

pub begin-requires-clause-image : goal.begin-requires-clause-image
begin-requires-clause-image c =
    (is_fine c.args.boot.now [] c.args.boot.now.processes c.as_slice-process-items.result.now c.loop-process.process-index c.process-item.result c.requires.valid.processes
    c.as_slice-process-items.ensures c.loop-process-test.true c.process-item.is).image

pub begin-requires-clause-links : goal.begin-requires-clause-links
begin-requires-clause-links c =
    (is_fine c.args.boot.now [] c.args.boot.now.processes c.as_slice-process-items.result.now c.loop-process.process-index c.process-item.result c.requires.valid.processes
    c.as_slice-process-items.ensures c.loop-process-test.true c.process-item.is).links

pub loop-process-preserved : goal.loop-process-preserved
loop-process-preserved c =
    let b = c.args.boot.now in
    let items = c.as_slice-process-items.result.now in
    let i = c.loop-process.process-index in
    let x = c.process-item.result in
    let s = kernel_state c.loop-process.kernel in
    let d : drop i items ≡ x ∷ drop (i + 1) items = drop_at items i x c.loop-process-test.true c.process-item.is in
    let e : kernel_state c.begin.new.self ≡ begins_process b s x (slice_get b.images x.image) = is_state c.begin.new.self (begins_process b s x (slice_get b.images x.image)) c.in_ok-begin.ensures in
    record {
      opens = ap (λ (t : KernelState). with_all b t (drop (i + 1) items)) e ∙ sym (ap (with_all b s) d) ∙ c.loop-process.invariant.opens;
      room =
          subst (λ (t : KernelState). HasRoomFor b c.args.here t (drop (i + 1) items)) (sym e)
          (room_then b c.args.here s x (drop (i + 1) items) (subst (HasRoomFor b c.args.here s) d c.loop-process.invariant.room));
    }
