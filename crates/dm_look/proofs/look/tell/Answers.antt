use Rattle.dm_run.proofs.Going.{ends_may}
use Rattle.dm_look.proofs.look.tell.Goals as goal

pub write_contents-requires-clause-may : goal.write_contents-requires-clause-may
write_contents-requires-clause-may c = (ends_may c.requires.law c.args.world.now c.requires.running).may
