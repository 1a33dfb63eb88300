-- A step that freezes a process finds that the process can be carried whole.
use Rattle.std.specs.Prelude.{⊤}
use Rattle.dm_schedule.specs.declared.Step.{Step}
use Rattle.dm_schedule.specs.declared.Step.TheVariants as step
use Rattle.dm_kernel.specs.Carried.{FreezesWhole}
use Rattle.dm_world.specs.World.{WorldState}

-- only a turn freezes
abbrev pub AreWhole : WorldState → Step → Type 0
AreWhole w (step.Turn m) = FreezesWhole (w.nodes m).kernel (w.nodes m).kernel.inbox
AreWhole w (step.Tick m) = ⊤
AreWhole w (step.Deliver a c k) = ⊤
AreWhole w (step.Migrate p m) = ⊤
AreWhole w (step.CallOff p m) = ⊤
