-- The numbers of the two ways in which data moves.
use Rattle.std.specs.Prelude.{ℕ, ◌==◌, if◌then◌else◌}
use Rattle.std.specs.declared.option.Option.{Option}
use Rattle.std.specs.declared.option.Option.TheVariants.{None, Some}
use Rattle.dm_process.specs.declared.process.Direction.{Direction}
use Rattle.dm_process.specs.declared.process.Direction.TheVariants.{FromArea, IntoArea}

abbrev pub number_of_direction : Direction → ℕ
number_of_direction FromArea = 0
number_of_direction IntoArea = 1

-- the direction that has this number
abbrev pub direction_numbered : ℕ → Option Direction
direction_numbered n = if n == 0 then Some FromArea else if n == 1 then Some IntoArea else None
