-- How the program ends that has written a text.
use Rattle.std.specs.declared.result.Result.{Result}
use Rattle.std.specs.declared.result.Result.TheVariants.{Ok, Err}
use Rattle.dm_outside.specs.declared.Failed.{Failed}
use Rattle.dm_ending.specs.declared.status.Status.{Status}
use Rattle.dm_ending.specs.declared.status.Status.TheVariants.{WriteFault}

-- so, unless the sink failed
abbrev pub unless_failed : {A : Type 0} → Result A Failed → Status → Status
unless_failed (Ok _) otherwise = otherwise
unless_failed (Err _) otherwise = WriteFault
