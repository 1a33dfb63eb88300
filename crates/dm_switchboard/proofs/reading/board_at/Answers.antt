use Rattle.dm_statebytes.proofs.Servers.{refused}
use Rattle.dm_switchboard.specs.Packed.{board_of_bytes, read_board}
use Rattle.dm_switchboard.proofs.reading.board_at.Goals as goal

pub returns-in-Err : goal.returns-in-Err
unfolding board_of_bytes
returns-in-Err c = refused c.in-Err.unread c.refusal.result (read_board c.args.bytes.now) c.refusal.ensures c.in-Err.ensures
