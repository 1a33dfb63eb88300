use Rattle.dm_statebytes.proofs.Names.{then_put, moving, status_kind, waiting}
use Rattle.dm_statebytes.specs.declared.status.StatusKind.TheVariants as kinds
use Rattle.dm_statebytes.proofs.writing.put_status.Goals as goal

pub returns-in-Waiting-clause-put : goal.returns-in-Waiting-clause-put
returns-in-Waiting-clause-put c =
    rw c.in-Waiting.is
    (then_put c.args.out.now.items c.put_status_kind-in-Waiting.new.out.items c.put_waiting.new.out.items (status_kind.spell kinds.Waiting) ((waiting 0).spell (c.in-Waiting.mask, (c.in-Waiting.base, c.in-Waiting.cap))) c.put_status_kind-in-Waiting.ensures.put c.put_waiting.ensures.put)

pub returns-in-Moving-clause-put : goal.returns-in-Moving-clause-put
returns-in-Moving-clause-put c =
    let m = c.in-Moving in
    rw c.in-Moving.is
    (then_put c.args.out.now.items c.put_status_kind-in-Moving.new.out.items c.put_moving.new.out.items (status_kind.spell kinds.Moving) ((moving 0).spell (m.dir, (m.owner, (m.base, (m.own, (m.left, m.pending)))))) c.put_status_kind-in-Moving.ensures.put c.put_moving.ensures.put)
