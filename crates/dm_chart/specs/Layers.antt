-- In which layers what is drawn of a shape: in the others nothing is.
use Rattle.std.specs.Prelude.{ℕ, ◌==◌, Bool, true, false, is_some, if◌then◌else◌, List}
use Rattle.std.specs.declared.option.Option.{Option}
use Rattle.std.specs.declared.option.Option.TheVariants.{None}
use Rattle.dm_link.specs.declared.Pid.{Pid}
use Rattle.dm_line.specs.declared.line.Line.{Line}
use Rattle.dm_chart.specs.declared.frame.Frame.{Frame}
use Rattle.dm_chart.specs.declared.frame.Layer.{Layer}
use Rattle.dm_chart.specs.declared.frame.Layer.TheVariants as layer
use Rattle.dm_chart.specs.declared.role.Letter.{Letter}
use Rattle.dm_chart.specs.declared.spot.Spot.{Spot}
use Rattle.dm_chart.specs.Measures.{lane_of}
use Rattle.dm_chart.specs.Shapes.{comes_at}

-- something of a message
abbrev pub letter_shows : Layer → Bool
letter_shows layer.Grounds = false
letter_shows layer.Ways = true
letter_shows layer.Words = true

-- where it ends; of one that is put in a row its words don't say it
abbrev pub end_shows : Layer → ℕ → Bool
end_shows layer.Grounds row = true
end_shows layer.Ways row = true
end_shows layer.Words row = row == 0

-- the row at which it enters an inbox, where that is seen
abbrev pub end_seen : Layer → Letter → List Line → Spot → List Line → Option ℕ
end_seen y x before s after = if end_shows y s.row then comes_at x.from x.to before s after else None

-- a packet
abbrev pub packet_shows : Layer → Bool
packet_shows layer.Grounds = false
packet_shows layer.Ways = true
packet_shows layer.Words = false

-- the bar of a process that has a lane, and its name
abbrev pub bar_in : Layer → Bool → Bool
bar_in layer.Grounds lane = lane
bar_in layer.Ways lane = false
bar_in layer.Words lane = lane

abbrev pub bar_shows : Frame → Pid → Bool
bar_shows f p = bar_in f.layer (is_some (lane_of f p))

-- that it waits
abbrev pub wait_in : Layer → Bool → Bool
wait_in layer.Grounds lane = lane
wait_in layer.Ways lane = false
wait_in layer.Words lane = false

abbrev pub wait_shows : Frame → Pid → Bool
wait_shows f p = wait_in f.layer (is_some (lane_of f p))

-- that it moves
abbrev pub move_in : Layer → Bool → Bool
move_in layer.Grounds lane = false
move_in layer.Ways lane = lane
move_in layer.Words lane = false

abbrev pub move_shows : Frame → Pid → Bool
move_shows f p = move_in f.layer (is_some (lane_of f p))
