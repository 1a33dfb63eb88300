-- Where things stand in a picture, in units of the picture.
use Rattle.std.specs.Prelude.{ℕ, ◌+◌, ◌-◌, ◌*◌, ◌/◌, ◌%◌, ◌&&◌, nat_lt, nat_le, Bool, if◌then◌else◌, count_by, slice_index}
use Rattle.std.specs.declared.option.Option.{Option}
use Rattle.dm_link.specs.declared.Pid.{Pid}
use Rattle.dm_chart.specs.declared.frame.Frame.{Frame}
use Rattle.dm_chart.specs.declared.frame.Point.{Point}
use Rattle.dm_chart.specs.Spots.{most_rows}
use Rattle.dm_chart.specs.Stays.{is_before, lane_among}

-- at most twelve lanes
abbrev pub few : ℕ → ℕ
few n = if nat_lt n 12 then n else 12

-- the column of a machine: the axis, and as many lanes as a machine has bars at most
unfoldable pub column : Frame → ℕ
column f = 90 + 22 * few f.lanes

-- the axis of a machine: where its messages leave, and enter its inbox
unfoldable pub axis : Frame → ℕ → ℕ
axis f m = 440 + m * column f

-- how many processes with a lower lane ever have a bar on a machine
abbrev pub lanes_before : Frame → ℕ → ℕ → ℕ
lanes_before f m lane = count_by (is_before m lane) f.stays

-- the lane of a process on a machine: beside those of the others that ever have a bar there
unfoldable pub lane_at : Frame → ℕ → ℕ → ℕ
lane_at f m lane = axis f m + 20 + 22 * few (lanes_before f m lane)

-- where what the rows say stands: left of all machines, so that no arrow goes through it
abbrev pub words_at : ℕ
words_at = 160

abbrev pub rows_within : ℕ → ℕ
rows_within row = if nat_lt row most_rows then row else most_rows

-- the rows go down the page in blocks of forty, the first at 1; how many whole ones stand before a row
unfoldable pub blocks_before : ℕ → ℕ
blocks_before row = (rows_within row - 1) / 40

-- where a row stands: above each block but the first there is room for names
unfoldable pub height : ℕ → ℕ
height row = 190 + 16 * rows_within row + 32 * blocks_before row

-- the last row of a block, the first block at 0
abbrev pub block_end : ℕ → ℕ
block_end block = 40 * (block + 1)

-- so far above the first row behind a block
unfoldable pub above_next : ℕ → ℕ → ℕ
above_next block up = height (block_end block + 1) - up

-- what goes from a row to a row goes on behind a block
abbrev pub goes_on : ℕ → ℕ → ℕ → Bool
goes_on row last block = nat_le row (block_end block) && nat_lt (block_end block) last

-- as much as the legend needs
abbrev pub at_least_legend : ℕ → ℕ
at_least_legend n = if nat_lt n 620 then 620 else n

-- the breadth of the picture
unfoldable pub breadth : Frame → ℕ
breadth f = at_least_legend (axis f f.machines)

abbrev pub point : ℕ → ℕ → Point
point x y = record { x = x; y = y }

-- no boot file has more processes: sixteen machines of at most 64
abbrev pub starts_within : ℕ → ℕ
starts_within n = if nat_lt n 1024 then n else 1024

-- where the name of process i of the boot file stands, the first at 0: between the title and the legend, four in a row
unfoldable pub name_at : ℕ → Point
name_at i = point (10 + 150 * (starts_within i % 4)) (36 + 14 * (starts_within i / 4))

-- how far all that stands below goes down for the names of so many processes
unfoldable pub name_room : ℕ → ℕ
name_room n = 14 * ((starts_within n + 3) / 4)

-- the height of the picture, with the names of so many processes
unfoldable pub whole_height : Frame → ℕ → ℕ
whole_height f n = height f.rows + 44 + name_room n

-- a row on the axis of a machine, and on a lane of it
abbrev pub on_axis : Frame → ℕ → ℕ → Point
on_axis f m row = point (axis f m) (height row)

abbrev pub on_lane : Frame → ℕ → ℕ → ℕ → Point
on_lane f m lane row = point (lane_at f m lane) (height row)

-- so far from the axis of a machine towards another one, and so far down
abbrev pub towards : Frame → ℕ → ℕ → ℕ → ℕ → ℕ → Point
towards f a b row far down = point (if nat_lt a b then axis f a + far else axis f a - far) (height row + down)

-- the lane of a process
abbrev pub lane_of : Frame → Pid → Option ℕ
lane_of f p = lane_among f.processes p

-- the number of a group that is shown
abbrev pub number_shown : Frame → ℕ → ℕ
number_shown f group = slice_index f.numbers group
