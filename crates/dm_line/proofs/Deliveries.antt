-- A pair's packet comes next where it has one, or else what is next of the pairs behind it: a row of `next_delivery`.
use Rattle.std.specs.Prelude.{ℕ, List, ◌∷◌}
use Rattle.std.specs.Option.{option_map_or}
use Rattle.std.specs.declared.option.Option.{Option}
use Rattle.std.specs.declared.option.Option.TheVariants.{Some}
use Rattle.dm_schedule.specs.declared.Step.{Step}
use Rattle.dm_schedule.specs.declared.Step.TheVariants as step
use Rattle.dm_line.specs.Todo.{Two}

abbrev pub here_or_later : Two → List Two → Option ℕ → Option (Step × List Two) → Option (Step × List Two)
here_or_later p ps o later = option_map_or (λ k. Some (step.Deliver p.from p.to k, p ∷ ps)) o later
