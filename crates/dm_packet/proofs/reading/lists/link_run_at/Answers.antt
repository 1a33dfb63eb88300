use Rattle.dm_packet.proofs.Names.{◌∷◌, [], arith, err_from_is_err_and, length-append, read_times, link}
use Rattle.dm_packet.proofs.Loop.{fails, goes_on}
use Rattle.dm_packet.proofs.reading.lists.link_run_at.Goals as goal

pub returns-in_err-link-clause-read : goal.returns-in_err-link-clause-read
returns-in_err-link-clause-read c =
    let p = err_from_is_err_and c.from_residual.result c.from_residual.ensures.1 in
    rw (p.1, p.2) (fails link.read c.in_err-link.field-0.0 c.loop.links.items c.args.count c.loop.counter c.loop.rest.now (read_times link.read c.args.count c.args.bytes.now) c.loop-test.true c.in_err-link.ensures c.loop.invariant.0)

pub loop-preserved : goal.loop-preserved
loop-preserved c = (
  rw c.push.ensures.items (goes_on link.read c.loop.links.items c.args.count c.loop.counter c.loop.rest.now c.in_ok-link.link c.in_ok-link.after.now (read_times link.read c.args.count c.args.bytes.now) c.loop-test.true c.in_ok-link.ensures c.loop.invariant.0),
  rw c.push.ensures.items (omega (arith, c.loop.invariant.1, length-append c.loop.links.items (c.in_ok-link.link ∷ []))),
)
