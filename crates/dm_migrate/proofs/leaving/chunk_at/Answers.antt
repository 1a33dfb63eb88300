use Rattle.dm_migrate.proofs.Names.{arith, common_steps, take_min, take_rest}
use Rattle.dm_migrate.proofs.leaving.chunk_at.Goals as goal

pub returns-clause-bytes : goal.returns-clause-bytes
returns-clause-bytes c = grind (arith, common_steps, take_min, take_rest)
