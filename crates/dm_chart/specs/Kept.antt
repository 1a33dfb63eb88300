-- Which groups a picture shows: those that are asked for and of which something is seen, one after another, as long as there is room.
use Rattle.std.specs.Prelude.{ℕ, ◌+◌, ◌-◌, ◌^◌, ◌==◌, ◌&&◌, nat_le, nat_lt, Bool, true, false, not, if◌then◌else◌, List, [], ◌∷◌, ◌++◌, length, fold, count_by}
use Rattle.dm_line.specs.declared.line.Line.{Line}
use Rattle.dm_chart.specs.declared.kept.Kept.{Kept}
use Rattle.dm_chart.specs.declared.kept.Part.{Part}
use Rattle.dm_chart.specs.declared.role.Role.{Role}
use Rattle.dm_chart.specs.declared.role.Role.TheVariants as role
use Rattle.dm_chart.specs.Roles.{role_of}
use Rattle.dm_chart.specs.Spots.{first_spot, spot_behind, most_rows}

-- counts stay within 64 bits
abbrev pub plus : ℕ → ℕ → ℕ
plus a b = if nat_lt (a + b) (2 ^ 64) then a + b else 2 ^ 64 - 1

-- the groups of a whole run
abbrev pub all_groups : Part
all_groups = record { first = 1; last = 2 ^ 64 - 1 }

-- no group has come, of a picture of these groups
abbrev pub none_kept : Part → Kept
none_kept part = record { part = part; numbers = []; lines = []; hidden = 0; rows = 0; full = false; groups = 0; messages = 0; left_groups = 0; left_messages = 0 }

abbrev pub is_put : Role → Bool
is_put (role.Put x) = true
is_put (role.Head e) = false
is_put (role.Packet a b k n) = false
is_put (role.Taken a b n) = false
is_put (role.Early a b n) = false
is_put (role.Again a b n) = false
is_put (role.Note l) = false
is_put role.Unseen = false

unfoldable pub is_put_line : Line → Bool
is_put_line l = is_put (role_of l)

-- how many messages a group puts, and how many rows it has
abbrev pub messages_in : List Line → ℕ
messages_in g = count_by is_put_line g

abbrev pub rows_in : List Line → ℕ
rows_in g = (spot_behind (first_spot 0) g).row

-- a group of which nothing is seen
abbrev pub passed : Kept → ℕ → Kept
passed k messages = record k { groups = plus k.groups 1; messages = plus k.messages messages }

-- a group that is left out, and so are all behind it
abbrev pub left : Kept → ℕ → Kept
left k messages = record (passed k messages) { full = true; left_groups = plus k.left_groups 1; left_messages = plus k.left_messages messages }

-- a group that is shown
abbrev pub shown : Kept → ℕ → ℕ → List Line → Kept
shown k messages rows g = record (passed k messages) { numbers = k.numbers ++ plus k.groups 1 ∷ []; lines = k.lines ++ g; rows = k.rows + rows }

-- it stands before the first that is to be shown: its lines tell of those behind it, and none of them has a row
abbrev pub comes_before : Kept → Bool
comes_before k = not k.full && nat_lt (plus k.groups 1) k.part.first

abbrev pub hides : Kept → ℕ → List Line → Kept
hides k messages g = record (passed k messages) { lines = k.lines ++ g; hidden = length (k.lines ++ g) }

-- it is to be shown, and has room
abbrev pub rows_fit : Kept → ℕ → Bool
rows_fit k rows = not k.full && (nat_le (plus k.groups 1) k.part.last && nat_lt (k.rows + rows) most_rows)

-- one more group
unfoldable pub keep : Kept → List Line → Kept
keep k g =
    if rows_in g == 0 then passed k (messages_in g)
    else if comes_before k then hides k (messages_in g) g
    else if rows_fit k (rows_in g) then shown k (messages_in g) (rows_in g) g
    else left k (messages_in g)

-- all groups
abbrev pub kept_of : Part → List (List Line) → Kept
kept_of part gs = fold keep (none_kept part) gs
