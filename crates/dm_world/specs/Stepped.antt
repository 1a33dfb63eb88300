-- What a step of the world comes to.
use Rattle.std.specs.Prelude.{◌≡◌, Vec, OnOk}
use Rattle.std.specs.declared.alloc.Global.{Global}
use Rattle.std.specs.declared.result.Result.{Result}
use Rattle.dm_schedule.specs.declared.Step.{Step}
use Rattle.dm_line.specs.declared.line.Line.{Line}
use Rattle.dm_node.specs.declared.stop.Stop.{Stop}
use Rattle.dm_node.specs.Meets.{OrNoMemory}
use Rattle.dm_world.specs.declared.world.World.{World}
use Rattle.dm_world.specs.Meets.{Answers, IsWorld, world_state}
use Rattle.dm_world.specs.Readable.{AreReadBack, gave}
use Rattle.dm_world.specs.Whole.{AreWhole}
use Rattle.dm_world.specs.World.{world_step}

-- the lines and the world are those of the plain step, or it stops as worn where that one does; it is a world still, of the
-- same boot file
pub record StepMeets (old new : World) (e : Step) (r : Result (Vec Line Global) Stop) : Type 0 where
  pub answers : Answers r (world_state new) (world_step old.boot (world_state old) e)
  pub world : OnOk r (IsWorld new)
  -- what was put on wires is read again
  pub again : OnOk r (AreReadBack (gave old.boot (world_state old) e))
  -- where the machine's kernel froze a process, that one can be carried whole
  pub whole : OrNoMemory r (AreWhole (world_state old) e)
  pub boot : new.boot ≡ old.boot
