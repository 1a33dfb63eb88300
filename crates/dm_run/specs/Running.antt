-- A world that takes further directives, one by one, and what each of them comes to.
use Rattle.std.specs.Prelude.{◌≡◌, ⊤, false, List}
use Rattle.dm_onekernel.specs.declared.boot.Boot.{Boot}
use Rattle.dm_schedule.specs.declared.Step.{Step}
use Rattle.dm_line.specs.declared.line.Line.{Line}
use Rattle.dm_ending.specs.declared.stop.Stop.{Stop}
use Rattle.dm_ending.specs.declared.stop.Stop.TheVariants as ending
use Rattle.dm_node.specs.declared.stop.Stop.{Stop as WorldStop}
use Rattle.dm_node.specs.declared.stop.Stop.TheVariants as stop
use Rattle.dm_world.specs.declared.world.World.{World}
use Rattle.dm_world.specs.Meets.{IsWorld, world_state}
use Rattle.dm_world.specs.World.{WorldState, first_world}
use Rattle.dm_run.specs.Went.{WearsBy, Went}

-- a world as its boot file has it, before the first directive
pub record IsAtStart (w : World) : Type 0 where
  pub world : IsWorld w
  pub going : w.stopped ≡ false
  pub first : world_state w ≡ first_world w.boot

-- the world has not stopped, and is where some directives have led
pub record IsRunning (w : World) : Type 0 where
  pub world : IsWorld w
  pub going : w.stopped ≡ false
  pub steps : List Step
  pub groups : List (List Line)
  pub went : Went w.boot steps groups (world_state w)

-- a message was to be routed between two machines that count as many as they may
abbrev pub StopsWorn : Boot → WorldState → Step → WorldStop → Type 0
StopsWorn b w e (stop.Worn from to) = WearsBy b w e from to
StopsWorn b w e (stop.NoMemory lack) = ⊤

-- so for a command: its own reasons are none of the world's
abbrev pub StopsSo : Boot → WorldState → Step → Stop → Type 0
StopsSo b w e (ending.Worn from to) = WearsBy b w e from to
StopsSo b w e (ending.NoMemory lack) = ⊤
StopsSo b w e ending.WriteFault = ⊥
