-- What is drawn of a run: the shapes of each line, by where the picture stands, the lines before and the lines after it.
use Rattle.std.specs.Prelude.{ℕ, zero, suc, ◌-◌, ◌==◌, ◌&&◌, Bool, true, false, not, is_some, if◌then◌else◌, List, [], ◌∷◌, ◌++◌, map}
use Rattle.std.specs.declared.option.Option.{Option}
use Rattle.std.specs.declared.option.Option.TheVariants.{None, Some}
use Rattle.dm_link.specs.declared.Pid.{Pid}
use Rattle.dm_schedule.specs.declared.Step.{Step}
use Rattle.dm_line.specs.declared.line.Line.{Line}
use Rattle.dm_chart.specs.declared.role.Letter.{Letter}
use Rattle.dm_chart.specs.declared.role.Life.{Life}
use Rattle.dm_chart.specs.declared.role.Life.TheVariants as life
use Rattle.dm_chart.specs.declared.role.Role.{Role}
use Rattle.dm_chart.specs.declared.role.Role.TheVariants as role
use Rattle.dm_chart.specs.declared.spot.Spot.{Spot}
use Rattle.dm_chart.specs.declared.style.Style.{Style}
use Rattle.dm_chart.specs.Roles.{role_of}
use Rattle.dm_chart.specs.Spots.{first_spot, next_spot}
use Rattle.dm_chart.specs.Ahead.{first_ahead, is_taken, is_delivery, is_end, is_restart, is_wait_end}
use Rattle.dm_chart.specs.Behind.{was_put, number_among, kills_of, waits_behind}
use Rattle.dm_chart.specs.Styles.{style_of}

-- machines and rows are numbers
pub data Shape : Type 0 where
  -- a machine
  Column : ℕ → Shape
  -- a process on a machine, from a row to a row
  Bar : Pid → ℕ → ℕ → ℕ → Shape
  -- it waits for a message, from a row to a row
  Waits : Pid → ℕ → ℕ → ℕ → Shape
  -- a process is frozen on a machine at a row, and until it goes on, on a machine at a row
  Moves : Pid → ℕ → ℕ → ℕ → ℕ → Shape
  -- a group begins at a row: which of those that are shown it is, from 0, and its directive
  Group : ℕ → ℕ → Step → Shape
  -- a message that is put at a row, and the row at which it enters an inbox, where it does
  Arrow : Style → Letter → ℕ → Option ℕ → Shape
  -- a packet that came between two machines, from a row to a row: once more with its message, early, or again
  Came : ℕ → ℕ → ℕ → ℕ → Shape
  Early : ℕ → ℕ → ℕ → ℕ → Shape
  Again : ℕ → ℕ → ℕ → ℕ → Shape
  -- a packet between two machines, from a row on, that never came
  Lost : ℕ → ℕ → ℕ → Shape
  -- what is written of a line, behind some others, of a machine, at a row
  Beside : ℕ → ℕ → List Line → Line → Shape

-- the row of a place, where there is one
abbrev pub spot_row : Option Spot → Option ℕ
spot_row None = None
spot_row (Some s) = Some s.row

abbrev pub row_or : ℕ → Option Spot → ℕ
row_or last None = last
row_or last (Some s) = s.row

-- a message to its own machine is in the inbox at once; another one where its number on the stream is taken
abbrev pub comes_at : ℕ → ℕ → List Line → Spot → List Line → Option ℕ
comes_at a b before s after = if a == b then Some s.row else spot_row (first_ahead (is_taken a b (number_among a b before)) s after)

-- how long a process's life on a machine lasts, from a place on
abbrev pub bar : ℕ → List Line → Pid → ℕ → Spot → List Line → Shape
bar last all p m s after = Bar p m s.row (row_or last (first_ahead (is_end p (kills_of p all)) s after))

-- how long it waits there
abbrev pub wait : ℕ → List Line → Pid → Spot → List Line → Shape
wait last all p s after = Waits p s.machine s.row (row_or last (first_ahead (is_wait_end p (kills_of p all)) s after))

-- one that was frozen while it waited still waits
abbrev pub wait_if : Bool → ℕ → List Line → Pid → Spot → List Line → List Shape
wait_if true last all p s after = wait last all p s after ∷ []
wait_if false last all p s after = []

-- where it goes on; one that doesn't is still frozen behind the last row
abbrev pub moves_shown : ℕ → Pid → Spot → Option Spot → List Shape
moves_shown last p s None = Moves p s.machine s.row s.machine last ∷ []
moves_shown last p s (Some t) = Moves p s.machine s.row t.machine t.row ∷ []

abbrev pub life_shapes : ℕ → List Line → List Line → Life → Spot → List Line → List Shape
life_shapes last all before life.Same s after = []
life_shapes last all before (life.Made p) s after = bar last all p s.machine s after ∷ []
life_shapes last all before (life.From p) s after = (bar last all p s.machine s after ∷ []) ++ wait_if (waits_behind p false before) last all p s after
life_shapes last all before (life.Ends p) s after = []
life_shapes last all before (life.Leaves p) s after = moves_shown last p s (first_ahead (is_restart p) s after)
life_shapes last all before (life.Served i) s after = []
life_shapes last all before (life.Waits p) s after = wait last all p s after ∷ []
life_shapes last all before (life.Wakes p) s after = []

-- what becomes of a packet where it is delivered; with its own message it is the message's arrow
abbrev pub fate : ℕ → ℕ → ℕ → Bool → ℕ → Role → List Shape
fate a b row own now (role.Taken c d n) = if own then [] else Came a b row now ∷ []
fate a b row own now (role.Early c d n) = Early a b row now ∷ []
fate a b row own now (role.Again c d n) = Again a b row now ∷ []
fate a b row own now (role.Head e) = []
fate a b row own now (role.Put x) = []
fate a b row own now (role.Packet c d k n) = []
fate a b row own now (role.Note l) = []
fate a b row own now role.Unseen = []

-- the line behind the head of a delivery says what becomes of it
abbrev pub fate_here : Bool → ℕ → ℕ → ℕ → Bool → Spot → Role → List Shape
fate_here false a b row own s r = []
fate_here true a b row own s r = fate a b row own s.row r

-- packet k of a pair, each time that it is delivered; `due` where the line before was the head of its delivery
unfoldable pub deliveries : ℕ → ℕ → ℕ → ℕ → Bool → Bool → Spot → List Line → List Shape
deliveries a b k row own due s [] = []
deliveries a b k row own due s (l ∷ ls) =
    fate_here due a b row own (next_spot s l) (role_of l) ++ deliveries a b k row own (is_delivery a b k (role_of l)) (next_spot s l) ls

abbrev pub lost_unless : Bool → ℕ → ℕ → ℕ → List Shape
lost_unless true a b row = []
lost_unless false a b row = Lost a b row ∷ []

-- a packet, each time that it is delivered, or that it never is
abbrev pub sending_shapes : ℕ → ℕ → ℕ → ℕ → Bool → Spot → List Line → List Shape
sending_shapes a b k row own s after = deliveries a b k row own false s after ++ lost_unless (is_some (first_ahead (is_delivery a b k) s after)) a b row

-- a message that is put
abbrev pub letter_shapes : Letter → List Line → Spot → List Line → List Shape
letter_shapes x before s after = Arrow (style_of s.step x.kind (was_put x.id before)) x s.row (comes_at x.from x.to before s after) ∷ []

-- the shapes of a line itself, behind which the picture stands at s; `own` where the line before put a message
abbrev pub own_shapes : ℕ → List Line → Bool → List Line → Spot → List Line → Role → List Shape
own_shapes last all own before s after (role.Head e) = []
own_shapes last all own before s after (role.Put x) = letter_shapes x before s after
own_shapes last all own before s after (role.Packet a b k n) = sending_shapes a b k s.row own s after
own_shapes last all own before s after (role.Taken a b n) = []
own_shapes last all own before s after (role.Early a b n) = []
own_shapes last all own before s after (role.Again a b n) = []
own_shapes last all own before s after (role.Note way) = life_shapes last all before way s after
own_shapes last all own before s after role.Unseen = []

-- the first row of a group has its number and its directive
abbrev pub group_shapes : Spot → Spot → List Shape
group_shapes before s = if not before.begun && s.begun then Group s.row (s.groups - 1) s.step ∷ [] else []

abbrev pub line_shapes : ℕ → List Line → List Line → Spot → Line → List Line → List Shape
line_shapes last all before s l after =
    group_shapes s (next_spot s l) ++ own_shapes last all s.own before (next_spot s l) after (role_of l) ++ Beside (next_spot s l).machine (next_spot s l).row before l ∷ []

-- the shapes of lines, behind others
unfoldable pub shapes_from : ℕ → List Line → List Line → Spot → List Line → List Shape
shapes_from last all before s [] = []
shapes_from last all before s (l ∷ ls) = line_shapes last all before s l ls ++ shapes_from last all (before ++ l ∷ []) (next_spot s l) ls

-- the machines below n
unfoldable pub columns : ℕ → List Shape
columns zero = []
columns (suc n) = columns n ++ Column n ∷ []

-- the processes that are there from the start
abbrev pub first_bar : ℕ → ℕ → List Line → Pid → Shape
first_bar last hidden all p = bar last all p p.home (first_spot hidden) all

-- the whole picture: `last` is its last row, and so many of its lines stand before the first group that is shown
abbrev pub shapes : ℕ → ℕ → ℕ → List Pid → List Line → List Shape
shapes machines last hidden ps all = columns machines ++ map (first_bar last hidden all) ps ++ shapes_from last all [] (first_spot hidden) all
