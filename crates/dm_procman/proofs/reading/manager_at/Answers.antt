use Rattle.dm_statebytes.proofs.Servers.{refused}
use Rattle.dm_procman.specs.Packed.{manager_of_bytes, read_manager}
use Rattle.dm_procman.proofs.reading.manager_at.Goals as goal

pub returns-in-Err : goal.returns-in-Err
unfolding manager_of_bytes
returns-in-Err c = refused c.in-Err.unread c.refusal.result (read_manager c.args.machines c.args.images c.args.bytes.now) c.refusal.ensures c.in-Err.ensures
