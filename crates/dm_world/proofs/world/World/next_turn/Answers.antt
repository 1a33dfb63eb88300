use Rattle.dm_world.proofs.Names.{length, world_state}
use Rattle.dm_world.proofs.Falling.{turn_falls}
use Rattle.dm_world.proofs.world.World.next_turn.Goals as goal

pub returns-in-Some-clause-falls : goal.returns-in-Some-clause-falls
returns-in-Some-clause-falls c =
    let w = c.args.self.now in λ _. turn_falls (length w.boot.machines) (world_state w) c.args.pass c.args.m c.in-Some.turn c.in-Some.ensures.takes
