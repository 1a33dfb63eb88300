-- How a run ends.
use Rattle.std.specs.declared.result.Result.{Result}
use Rattle.std.specs.declared.result.Result.TheVariants.{Ok, Err}
use Rattle.dm_ending.specs.declared.stop.Stop.{Stop}
use Rattle.dm_ending.specs.declared.stop.Stop.TheVariants as stop
use Rattle.dm_ending.specs.declared.status.Status.{Status}
use Rattle.dm_ending.specs.declared.status.Status.TheVariants.{Done, NoMemory, WriteFault, Worn}

-- the status of a run that came to its end, or stopped
abbrev pub ended_with : {A : Type 0} → Result A Stop → Status
ended_with (Ok _) = Done
ended_with (Err (stop.NoMemory lack)) = NoMemory lack
ended_with (Err stop.WriteFault) = WriteFault
ended_with (Err (stop.Worn from to)) = Worn from to
