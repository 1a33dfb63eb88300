-- What is left to draw of a line that stands before the first group that is shown: where all that it begins is over by then, nothing.
use Rattle.std.specs.Prelude.{◌≡◌, ◌<◌, ◌≤◌, ℕ, ◌+◌, ◌-◌, ◌*◌, ◌==◌, ◌&&◌, Bool, true, false, not, is_some, nat_lt, if◌then◌else◌, List, [], drop, length, slice_index, slice_index_or, slice_set, take}
use Rattle.std.specs.List.{list_any}
use Rattle.std.specs.declared.option.Option.{Option}
use Rattle.std.specs.declared.option.Option.TheVariants.{None, Some}
use Rattle.dm_link.specs.declared.Pid.{Pid}
use Rattle.dm_line.specs.declared.line.Line.{Line}
use Rattle.dm_chart.specs.declared.frame.Frame.{Frame}
use Rattle.dm_chart.specs.declared.frame.Layer.{Layer}
use Rattle.dm_chart.specs.declared.role.Letter.{Letter}
use Rattle.dm_chart.specs.declared.role.Life.{Life}
use Rattle.dm_chart.specs.declared.role.Life.TheVariants as life
use Rattle.dm_chart.specs.declared.role.Role.{Role}
use Rattle.dm_chart.specs.declared.role.Role.TheVariants as role
use Rattle.dm_chart.specs.declared.spot.Spot.{Spot}
use Rattle.dm_chart.specs.Ahead.{is_delivery, is_end, is_restart, is_taken, is_wait_end}
use Rattle.dm_chart.specs.Behind.{number_among}
use Rattle.dm_chart.specs.Drawn.{all_drawn}
use Rattle.dm_chart.specs.Measures.{lane_of}
use Rattle.dm_chart.specs.Roles.{role_of}
use Rattle.dm_chart.specs.Shapes.{line_shapes}

-- how many messages these lines put from each of sixteen machines to each
abbrev pub AreCounts : List ℕ → List Line → Type 0
AreCounts counts ls = (a b : ℕ) → a < 16 → b < 16 → slice_index counts (16 * a + b) ≡ number_among a b ls

-- the number of the message that a line of this role puts, by such counts, and the counts with it
abbrev pub is_counted : Letter → Bool
is_counted x = nat_lt x.from 16 && nat_lt x.to 16

abbrev pub letter_number : List ℕ → Letter → Option ℕ
letter_number counts x = if is_counted x then Some (slice_index counts (16 * x.from + x.to)) else None

abbrev pub with_letter : List ℕ → Letter → List ℕ
with_letter counts x = if is_counted x then slice_set counts (16 * x.from + x.to) (slice_index counts (16 * x.from + x.to) + 1) else counts

abbrev pub number_in : List ℕ → Role → Option ℕ
number_in counts (role.Put x) = letter_number counts x
number_in counts (role.Head e) = None
number_in counts (role.Packet a b k n) = None
number_in counts (role.Taken a b n) = None
number_in counts (role.Early a b n) = None
number_in counts (role.Again a b n) = None
number_in counts (role.Note l) = None
number_in counts role.Unseen = None

abbrev pub counted : List ℕ → Role → List ℕ
counted counts (role.Put x) = with_letter counts x
counted counts (role.Head e) = counts
counted counts (role.Packet a b k n) = counts
counted counts (role.Taken a b n) = counts
counted counts (role.Early a b n) = counts
counted counts (role.Again a b n) = counts
counted counts (role.Note l) = counts
counted counts role.Unseen = counts

-- what the lines behind say of a message, of a packet's delivery and of a process
abbrev pub takes_it : ℕ → ℕ → ℕ → Line → Bool
takes_it a b n l = is_taken a b n (role_of l)

abbrev pub delivers_it : ℕ → ℕ → ℕ → Line → Bool
delivers_it a b k l = is_delivery a b k (role_of l)

abbrev pub ends_it : Pid → Line → Bool
ends_it p l = is_end p [] (role_of l)

abbrev pub wakes_it : Pid → Line → Bool
wakes_it p l = is_wait_end p [] (role_of l)

abbrev pub restarts_it : Pid → Line → Bool
restarts_it p l = is_restart p (role_of l)

-- a message on a stream whose number isn't known may be left
abbrev pub letter_left : Option ℕ → List Line → Letter → Bool
letter_left None ahead x = true
letter_left (Some n) ahead x = not (x.from == x.to) && not (list_any (takes_it x.from x.to n) ahead)

abbrev pub life_left : Frame → List Line → Life → Bool
life_left f ahead (life.Made p) = is_some (lane_of f p) && not (list_any (ends_it p) ahead)
life_left f ahead (life.From p) = is_some (lane_of f p) && not (list_any (ends_it p) ahead)
life_left f ahead (life.Leaves p) = is_some (lane_of f p) && not (list_any (restarts_it p) ahead)
life_left f ahead (life.Waits p) = is_some (lane_of f p) && not (list_any (wakes_it p) ahead)
life_left f ahead life.Same = false
life_left f ahead (life.Ends p) = false
life_left f ahead (life.Served i) = false
life_left f ahead (life.Wakes p) = false

-- by the number that a message has on its stream, the lines ahead that aren't shown, and the last of these with all that are
abbrev pub role_left : Frame → Option ℕ → List Line → List Line → Role → Bool
role_left f n ahead due (role.Put x) = letter_left n ahead x
role_left f n ahead due (role.Packet a b k j) = list_any (delivers_it a b k) due
role_left f n ahead due (role.Note way) = life_left f ahead way
role_left f n ahead due (role.Head e) = false
role_left f n ahead due (role.Taken a b j) = false
role_left f n ahead due (role.Early a b j) = false
role_left f n ahead due (role.Again a b j) = false
role_left f n ahead due role.Unseen = false

-- nothing is drawn of line k of these, in no layer, wherever the picture stands before the first row
abbrev pub LeavesNothing : ℕ → ℕ → (Layer → Frame) → List Line → ℕ → Type 0
LeavesNothing rows hidden by all k =
    (y : Layer) (s : Spot) (d : Line) → s.row ≡ 0 → s.begun ≡ false → s.hidden ≡ hidden - k → all_drawn (by y) (line_shapes rows all (take k all) s (slice_index_or all k d) (drop (k + 1) all)) ≡ []

-- of each of the first lines, of which none is shown, whether something may be left to draw
pub record AreLeft (rows hidden : ℕ) (by : Layer → Frame) (all : List Line) (left : List Bool) : Type 0 where
  pub few : length left ≤ hidden
  pub within : length left ≤ length all
  pub nothing : (k : ℕ) → k < length left → slice_index_or left k true ≡ false → LeavesNothing rows hidden by all k

abbrev pub IsLeft : Frame → List Line → List Bool → Type 0
IsLeft f all left = AreLeft f.rows f.hidden (λ y. record f { layer = y }) all left
