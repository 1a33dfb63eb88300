use Rattle.dm_law_mirror.proofs.Names.{ℕ, Option, ap}
use Rattle.dm_schedule.specs.declared.Step.TheVariants as step
use Rattle.dm_world.specs.World.{asks_at}
use Rattle.dm_law_mirror.proofs.laws.away_does_nothing.Goals as goal

pub returns : goal.returns
returns c = λ b w p m e. ap (λ (seat : Option ℕ). asks_at w (step.Migrate p m) p m seat) e
