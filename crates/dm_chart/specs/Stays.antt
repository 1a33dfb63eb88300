-- On which machines the processes that have a lane ever have a bar.
use Rattle.std.specs.Prelude.{ℕ, zero, suc, ◌==◌, ◌&&◌, nat_lt, Bool, if◌then◌else◌, List, [], ◌∷◌, ◌++◌, count_by, fold, position}
use Rattle.std.specs.List.{list_any}
use Rattle.std.specs.declared.option.Option.{Option}
use Rattle.std.specs.declared.option.Option.TheVariants.{None, Some}
use Rattle.dm_link.specs.declared.Pid.{Pid}
use Rattle.dm_link.specs.Names.{pid_eq}
use Rattle.dm_line.specs.declared.line.Line.{Line}
use Rattle.dm_chart.specs.declared.role.Life.{Life}
use Rattle.dm_chart.specs.declared.role.Life.TheVariants as life
use Rattle.dm_chart.specs.declared.role.Role.{Role}
use Rattle.dm_chart.specs.declared.role.Role.TheVariants as role
use Rattle.dm_chart.specs.declared.spot.Spot.{Spot}
use Rattle.dm_chart.specs.declared.stay.Stay.{Stay}
use Rattle.dm_chart.specs.Roles.{role_of}
use Rattle.dm_chart.specs.Spots.{next_spot}

-- the first twelve processes have a lane
abbrev pub within_lanes : Option ℕ → Option ℕ
within_lanes None = None
within_lanes (Some i) = if nat_lt i 12 then Some i else None

abbrev pub lane_among : List Pid → Pid → Option ℕ
lane_among ps p = within_lanes (position (λ q. pid_eq q p) ps)

-- a bar on a machine, of this lane or of a lower one
abbrev pub is_stay : ℕ → ℕ → Stay → Bool
is_stay m lane s = (s.machine == m) && (s.lane == lane)

abbrev pub is_before : ℕ → ℕ → Stay → Bool
is_before m lane s = (s.machine == m) && nat_lt s.lane lane

abbrev pub is_on : ℕ → Stay → Bool
is_on m s = s.machine == m

-- one more, unless it is there
abbrev pub with_stay : List Stay → ℕ → Option ℕ → List Stay
with_stay ss m None = ss
with_stay ss m (Some lane) = if list_any (is_stay m lane) ss then ss else ss ++ record { machine = m; lane = lane } ∷ []

-- the processes that are there from the start
abbrev pub with_start : List Pid → List Stay → Pid → List Stay
with_start ps ss p = with_stay ss p.home (lane_among ps p)

-- those that are made on a machine or go on there
abbrev pub with_life : List Pid → List Stay → ℕ → Life → List Stay
with_life ps ss m (life.Made p) = with_stay ss m (lane_among ps p)
with_life ps ss m (life.From p) = with_stay ss m (lane_among ps p)
with_life ps ss m life.Same = ss
with_life ps ss m (life.Ends p) = ss
with_life ps ss m (life.Leaves p) = ss
with_life ps ss m (life.Served i) = ss
with_life ps ss m (life.Waits p) = ss
with_life ps ss m (life.Wakes p) = ss

abbrev pub with_role : List Pid → List Stay → ℕ → Role → List Stay
with_role ps ss m (role.Note way) = with_life ps ss m way
with_role ps ss m (role.Head e) = ss
with_role ps ss m (role.Put x) = ss
with_role ps ss m (role.Packet a b k n) = ss
with_role ps ss m (role.Taken a b n) = ss
with_role ps ss m (role.Early a b n) = ss
with_role ps ss m (role.Again a b n) = ss
with_role ps ss m role.Unseen = ss

abbrev pub stays_behind : List Pid → List Stay → Spot → List Line → List Stay
stays_behind ps ss s [] = ss
stays_behind ps ss s (l ∷ ls) = stays_behind ps (with_role ps ss (next_spot s l).machine (role_of l)) (next_spot s l) ls

-- all of them
abbrev pub stays_in : List Pid → List Pid → Spot → List Line → List Stay
stays_in ps starts s ls = stays_behind ps (fold (with_start ps) [] starts) s ls

-- as many as a machine has of those below n at most
abbrev pub greater : ℕ → ℕ → ℕ
greater a b = if nat_lt a b then b else a

unfoldable pub most_on : List Stay → ℕ → ℕ
most_on ss zero = 0
most_on ss (suc n) = greater (most_on ss n) (count_by (is_on n) ss)
