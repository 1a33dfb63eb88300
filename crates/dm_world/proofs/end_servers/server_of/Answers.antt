use Rattle.dm_world.proofs.Names.{length, arith, leb-true}
use Rattle.dm_world.proofs.Ending.{plain_ends}
use Rattle.dm_world.proofs.end_servers.server_of.Goals as goal

pub returns-clause-plain : goal.returns-clause-plain
returns-clause-plain c =
    let few = leb-true (length c.args.boot.now.machines) 16 c.requires.boot.few_machines in
    plain_ends c.server.result (c.server.ensures.lawful (omega (arith, few))) (c.server.ensures.numbered (omega (arith, few)))
