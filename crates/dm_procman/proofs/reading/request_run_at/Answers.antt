use Rattle.dm_procman.proofs.Names.{◌≡◌, arith}
use Rattle.std.proofs.Common.{◌-◌}
use Rattle.dm_packet.specs.Field.{read_times}
use Rattle.dm_procman.specs.Packed.{request}
use Rattle.dm_packet.proofs.Names.{err_from_is_err_and}
use Rattle.dm_procman.proofs.Loops.{all_read, begins, none_more, one_more}
use Rattle.dm_procman.proofs.reading.request_run_at.Goals as goal

pub loop-init : goal.loop-init
loop-init c = begins request.read c.new-pending.result c.args.count c.args.bytes.now c.new-pending.ensures

pub loop-preserved : goal.loop-preserved
loop-preserved c =
    let l = c.loop in
    one_more request.read c.loop.pending c.add_request.new.pending c.args.count l.counter l.rest.now c.in_ok-after.after.now (read_times request.read c.args.count c.args.bytes.now) c.loop-test.true c.in_ok-after.ensures l.invariant

pub returns-in_err-after : goal.returns-in_err-after
returns-in_err-after c =
    let l = c.loop in
    let p = err_from_is_err_and c.from_residual.result c.from_residual.ensures.1 in
    rw (p.1, p.2) (none_more c.from_residual.result (λ u. u) request.read c.in_err-after.field-0.0 c.loop.pending c.add_request.new.pending c.args.count l.counter l.rest.now (read_times request.read c.args.count c.args.bytes.now) c.loop-test.true c.in_err-after.ensures l.invariant)

pub returns : goal.returns
returns c =
    let l = c.loop in
    let none : c.args.count - l.counter ≡ 0 = omega (arith, c.loop-test.false) in
    all_read request.read c.loop.pending (c.args.count - l.counter) l.rest.now (read_times request.read c.args.count c.args.bytes.now) none l.invariant
