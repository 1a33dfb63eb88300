use Rattle.dm_world.proofs.Names.{length, world_state}
use Rattle.dm_world.proofs.Passes.{PassedTo, Stays}
use Rattle.dm_world.proofs.world.World.first_turn.Given as goal

-- the machines that were passed take no turn, and in a round none was passed
abbrev pub invariant-loop-k : goal.invariant-loop-k
invariant-loop-k l = PassedTo (length l.self.boot.machines) (world_state l.self) l.pass l.m l.k × Stays l.pass l.m l.k
