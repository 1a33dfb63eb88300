use Rattle.dm_schedule.specs.declared.Step.TheVariants as step
use Rattle.dm_explore.specs.Sights.{Sight}
use Rattle.dm_explore.proofs.Offering.{ForEach}
use Rattle.dm_explore.proofs.choices.offer_ticks.Given as goal

-- those of the machines so far
abbrev pub invariant-loop-m : goal.invariant-loop-m
invariant-loop-m l = ForEach l.world l.past step.Tick (λ (s : Sight). s.resends) l.m l.fn.offered.items l.offered.items
