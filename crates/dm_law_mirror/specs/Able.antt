-- Each machine may act: what waits to be acknowledged, on whichever stream, can be put into packets, and no count is too great.
use Rattle.std.specs.Prelude.{ℕ, ◌<◌, length}
use Rattle.dm_onekernel.specs.declared.boot.Boot.{Boot}
use Rattle.dm_node.specs.May.{MayAct}
use Rattle.dm_world.specs.World.{WorldState}

pub record AllMayAct (b : Boot) (w : WorldState) : Type 0 where
  pub each : (m : ℕ) → m < length b.machines → MayAct (w.nodes m)
