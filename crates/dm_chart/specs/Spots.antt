-- How far a picture has come with the lines: a row for each message that is put or enters an inbox, each packet that comes
-- early or again, and each note; none for what isn't seen, nor for what stands before the first group that is shown.
use Rattle.std.specs.Prelude.{ℕ, ◌+◌, ◌-◌, ◌==◌, nat_lt, Bool, true, false, if◌then◌else◌, List, [], ◌∷◌}
use Rattle.dm_schedule.specs.declared.Step.{Step}
use Rattle.dm_schedule.specs.declared.Step.TheVariants as step
use Rattle.dm_line.specs.declared.line.Line.{Line}
use Rattle.dm_link.specs.Names.{pid_eq}
use Rattle.dm_onekernel.specs.Boot.{manager}
use Rattle.dm_chart.specs.declared.role.Life.{Life}
use Rattle.dm_chart.specs.declared.role.Life.TheVariants as life
use Rattle.dm_chart.specs.declared.role.Role.{Role}
use Rattle.dm_chart.specs.declared.role.Role.TheVariants as role
use Rattle.dm_chart.specs.declared.spot.Spot.{Spot}
use Rattle.dm_chart.specs.Roles.{role_of}

-- the most rows of a picture; which groups are in it sees to that (Kept.antt)
abbrev pub most_rows : ℕ
most_rows = 1200

abbrev pub one_row_more : ℕ → ℕ
one_row_more n = if nat_lt n most_rows then n + 1 else most_rows

-- the machine that acts on a directive; a request to move is the process manager's, on the machine where that is
abbrev pub acting_machine : ℕ → Step → ℕ
acting_machine seat (step.Turn m) = m
acting_machine seat (step.Tick m) = m
acting_machine seat (step.Deliver a b k) = b
acting_machine seat (step.Migrate p m) = seat
acting_machine seat (step.CallOff p m) = m

-- before the first line, where so many lines stand before the first group that is shown
abbrev pub first_spot : ℕ → Spot
first_spot hidden = record { row = 0; groups = 0; step = step.Turn 0; machine = 0; seat = 0; begun = false; own = false; hidden = hidden }

-- a line with a row, and whether it puts a message
abbrev pub with_row : Bool → Spot → Spot
with_row own s = record { row = one_row_more s.row; groups = s.groups; step = s.step; machine = s.machine; seat = s.seat; begun = true; own = own; hidden = s.hidden }

-- a line without a row
abbrev pub without_row : Spot → Spot
without_row s = record { row = s.row; groups = s.groups; step = s.step; machine = s.machine; seat = s.seat; begun = s.begun; own = false; hidden = s.hidden }

-- where the process manager goes on after it moved, or stays, it is
abbrev pub seated : Life → Spot → Spot
seated (life.From p) s = record s { seat = if pid_eq p manager then s.machine else s.seat }
seated life.Same s = s
seated (life.Made p) s = s
seated (life.Ends p) s = s
seated (life.Leaves p) s = s
seated (life.Served i) s = s
seated (life.Waits p) s = s
seated (life.Wakes p) s = s

-- a packet that goes out with its message has no row of its own
abbrev pub spot_after : Spot → Role → Spot
spot_after s (role.Head e) = record { row = s.row; groups = one_row_more s.groups; step = e; machine = acting_machine s.seat e; seat = s.seat; begun = false; own = false; hidden = s.hidden }
spot_after s (role.Put letter) = with_row true s
spot_after s (role.Packet a b k n) = if s.begun then without_row s else with_row false s
spot_after s (role.Taken a b n) = with_row false s
spot_after s (role.Early a b n) = with_row false s
spot_after s (role.Again a b n) = with_row false s
spot_after s (role.Note way) = with_row false (seated way s)
spot_after s role.Unseen = without_row s

-- behind one more line of a group that is shown
unfoldable pub shown_spot : Spot → Line → Spot
shown_spot s l = spot_after s (role_of l)

-- behind some of them
abbrev pub spot_behind : Spot → List Line → Spot
spot_behind s [] = s
spot_behind s (l ∷ ls) = spot_behind (shown_spot s l) ls

-- one line less stands before the first group that is shown; no such line has a row
abbrev pub one_less : Spot → Spot
one_less s = record s { own = false; hidden = s.hidden - 1 }

abbrev pub hidden_after : Spot → Role → Spot
hidden_after s (role.Head e) = record (one_less s) { step = e; machine = acting_machine s.seat e }
hidden_after s (role.Put letter) = record (one_less s) { own = true }
hidden_after s (role.Packet a b k n) = one_less s
hidden_after s (role.Taken a b n) = one_less s
hidden_after s (role.Early a b n) = one_less s
hidden_after s (role.Again a b n) = one_less s
hidden_after s (role.Note way) = seated way (one_less s)
hidden_after s role.Unseen = one_less s

-- behind one more line
unfoldable pub next_spot : Spot → Line → Spot
next_spot s l = if s.hidden == 0 then shown_spot s l else hidden_after s (role_of l)
