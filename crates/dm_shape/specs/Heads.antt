-- The directive that the head of a group names.
use Rattle.std.specs.Prelude.{ℕ, if◌then◌else◌, List, [], ◌∷◌, codes}
use Rattle.std.specs.declared.option.Option.{Option}
use Rattle.std.specs.declared.option.Option.TheVariants.{None}
use Rattle.dm_schedule.specs.declared.Step.{Step}
use Rattle.dm_schedule.specs.declared.Step.TheVariants as step
use Rattle.dm_reading.specs.Cuts.{pieces}
use Rattle.dm_text.specs.Reading.{read_u8, read_u64, read_pid}
use Rattle.dm_text.specs.Rows.{is, of1, of2, of3}

abbrev pub head_named : List ℕ → List (List ℕ) → Option Step
head_named w ws =
    if is w (codes "turn") then of1 read_u8 step.Turn ws
    else if is w (codes "tick") then of1 read_u8 step.Tick ws
    else if is w (codes "deliver") then of3 read_u8 read_u8 read_u64 step.Deliver ws
    else if is w (codes "migrate") then of2 read_pid read_u8 step.Migrate ws
    else if is w (codes "calloff") then of2 read_pid read_u8 step.CallOff ws
    else None

abbrev pub head_in : List (List ℕ) → Option Step
head_in [] = None
head_in (w ∷ ws) = head_named w ws

-- the directive of a line without line feed, if it is the head of a group; the number of a packet may be any below 2 ^ 64
unfoldable pub head_step : List ℕ → Option Step
head_step line = head_in (pieces 32 line)
