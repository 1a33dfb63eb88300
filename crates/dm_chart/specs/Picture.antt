-- The whole picture.
use Rattle.std.specs.Prelude.{ℕ, ◌+◌, ◌-◌, ◌==◌, nat_le, nat_lt, if◌then◌else◌, codes, List, [], ◌∷◌, ◌++◌, map, length}
use Rattle.std.specs.List.{concat, flat_map}
use Rattle.std.specs.Fmt.{decimal}
use Rattle.dm_link.specs.declared.Pid.{Pid}
use Rattle.dm_onekernel.specs.declared.boot.Boot.{Boot}
use Rattle.dm_onekernel.specs.declared.boot.BootProcess.{BootProcess}
use Rattle.dm_line.specs.declared.line.Line.{Line}
use Rattle.dm_text.specs.Words.{pid_word}
use Rattle.dm_chart.specs.declared.chart.Reach.{Reach}
use Rattle.dm_chart.specs.declared.chart.Reach.TheVariants as reach
use Rattle.dm_chart.specs.declared.frame.Frame.{Frame}
use Rattle.dm_chart.specs.declared.frame.Layer.TheVariants as layer
use Rattle.dm_chart.specs.declared.kept.Kept.{Kept}
use Rattle.dm_chart.specs.declared.kept.Part.{Part}
use Rattle.dm_chart.specs.declared.role.Life.{Life}
use Rattle.dm_chart.specs.declared.role.Life.TheVariants as life
use Rattle.dm_chart.specs.declared.role.Role.{Role}
use Rattle.dm_chart.specs.declared.role.Role.TheVariants as role
use Rattle.dm_chart.specs.Roles.{role_of}
use Rattle.dm_chart.specs.Shapes.{shapes}
use Rattle.dm_chart.specs.Measures.{breadth, height, name_at, name_room, point, whole_height}
use Rattle.dm_chart.specs.Spots.{first_spot, one_row_more}
use Rattle.dm_chart.specs.Stays.{most_on, stays_in}
use Rattle.dm_chart.specs.declared.stay.Stay.{Stay}
use Rattle.dm_chart.specs.Drawn.{all_drawn, written}
use Rattle.dm_chart.specs.Legend.{style_sheet, marks, meanings}
use Rattle.dm_chart.specs.Kept.{kept_of}
use Rattle.dm_chart.specs.Xml.{alone, element_around, opening_tag, closing}

-- a process that is made
abbrev pub made_with : Life → List Pid
made_with (life.Made p) = p ∷ []
made_with life.Same = []
made_with (life.From p) = []
made_with (life.Ends p) = []
made_with (life.Leaves p) = []
made_with (life.Served i) = []
made_with (life.Waits p) = []
made_with (life.Wakes p) = []

abbrev pub made_in : Role → List Pid
made_in (role.Note l) = made_with l
made_in (role.Head e) = []
made_in (role.Put x) = []
made_in (role.Packet a b k n) = []
made_in (role.Taken a b n) = []
made_in (role.Early a b n) = []
made_in (role.Again a b n) = []
made_in role.Unseen = []

-- those that are there from the start, and then those that are made
abbrev pub processes_in : List Pid → List Line → List Pid
processes_in ps ls = ps ++ flat_map (λ l. made_in (role_of l)) ls

-- below the last row there is one of which nothing is said, into which all goes that goes on
abbrev pub framed : ℕ → List Pid → List Stay → Kept → Frame
framed machines ps ss k =
    record { machines = machines; processes = ps; stays = ss; lanes = most_on ss machines; numbers = k.numbers; rows = one_row_more k.rows; hidden = k.hidden; layer = layer.Grounds }

abbrev pub frame_of : ℕ → List Pid → Kept → Frame
frame_of machines ps k = framed machines (processes_in ps k.lines) (stays_in (processes_in ps k.lines) ps (first_spot k.hidden) k.lines) k

-- the attributes of the picture, with the names of so many processes
abbrev pub extent : Frame → ℕ → List (List ℕ × List ℕ)
extent f starts =
    (codes "xmlns", codes "http://www.w3.org/2000/svg") ∷ (codes "width", decimal (breadth f)) ∷ (codes "height", decimal (whole_height f starts)) ∷ []

unfoldable pub sheet : Frame → ℕ → List ℕ
sheet f starts = alone (codes "rect") ((codes "width", decimal (breadth f)) ∷ (codes "height", decimal (whole_height f starts)) ∷ (codes "fill", codes "#fff") ∷ [])

-- how much there was
abbrev pub counts_words : Frame → Kept → List (List ℕ)
counts_words f k = codes "machines " ∷ decimal f.machines ∷ codes ", groups " ∷ decimal k.groups ∷ codes ", messages " ∷ decimal k.messages ∷ []

-- the first group that is to be shown may be none of the run's
abbrev pub beyond_words : ℕ → ℕ → List ℕ
beyond_words first groups = if nat_lt groups first then codes ", beyond the last one" else []

-- which group is the first to be shown, where that isn't the run's first
abbrev pub part_words : ℕ → ℕ → List (List ℕ)
part_words first groups = if nat_le first 1 then [] else codes "; from group " ∷ decimal first ∷ beyond_words first groups ∷ []

-- how many processes have no lane, where there are some
abbrev pub bars_words : ℕ → List (List ℕ)
bars_words n = if n == 0 then [] else codes "; processes without a bar: " ∷ decimal n ∷ []

abbrev pub title_words : Frame → Kept → List ℕ
title_words f k = concat (counts_words f k) ++ concat (part_words k.part.first k.groups) ++ concat (bars_words (length f.processes - 12))

unfoldable pub title : Frame → Kept → List ℕ
title f k = element_around (codes "text") ((codes "class", codes "t") ∷ (codes "x", decimal 10) ∷ (codes "y", decimal 20) ∷ []) (title_words f k)

-- words at the foot of the picture, so far from its left side and from its last row, and a number that isn't 0
unfoldable pub foot_line : Frame → ℕ → ℕ → List ℕ → ℕ → List ℕ
foot_line f x down words n = if n == 0 then [] else written (codes "q") (point x (height f.rows + down)) (words ∷ decimal n ∷ [])

-- a run that ended at a worn pair says so
unfoldable pub reach_line : Frame → Reach → List ℕ
reach_line f reach.Whole = []
reach_line f (reach.BeforeWorn from to) = written (codes "q") (point 290 (height f.rows + 34)) (codes "the run ended with status 9, worn: " ∷ decimal from ∷ codes " to " ∷ decimal to ∷ [])

-- what the picture leaves out: groups behind those that are shown, and what these put; and why it ends
unfoldable pub foot : Frame → Kept → Reach → List ℕ
foot f k r =
    foot_line f 10 20 (codes "groups behind these, left out: ") k.left_groups
    ++ foot_line f 290 20 (codes "messages that they put: ") k.left_messages
    ++ reach_line f r

-- process i of the boot file, the first at 0: its number and its name, which has 1 to 16 of a to z, 0 to 9 and _, so that nothing
-- in it has to be escaped
unfoldable pub name_drawn : ℕ → BootProcess → List ℕ
name_drawn i p = written (codes "q") (name_at i) (pid_word p.pid ∷ codes " " ∷ p.name ∷ [])

-- those from process i on
unfoldable pub names_from : ℕ → List BootProcess → List ℕ
names_from i [] = []
names_from i (p ∷ ps) = name_drawn i p ++ names_from (i + 1) ps

-- the names of the boot file, in its order
abbrev pub names_drawn : List BootProcess → List ℕ
names_drawn ps = names_from 0 ps

-- what stands above the legend
unfoldable pub picture_head : Frame → ℕ → List ℕ → Kept → List ℕ
picture_head f starts names k = concat style_sheet ++ concat marks ++ sheet f starts ++ title f k ++ names

-- all shapes, a layer on another
unfoldable pub layers : Frame → List Pid → Kept → List ℕ
layers f ps k =
    all_drawn (record f { layer = layer.Grounds }) (shapes f.machines f.rows f.hidden ps k.lines)
    ++ all_drawn (record f { layer = layer.Ways }) (shapes f.machines f.rows f.hidden ps k.lines)
    ++ all_drawn (record f { layer = layer.Words }) (shapes f.machines f.rows f.hidden ps k.lines)

-- the legend, what is left out, and the shapes
unfoldable pub picture_body : Frame → List Pid → Kept → Reach → List ℕ
picture_body f ps k r = concat meanings ++ foot f k r ++ layers f ps k

-- the attribute of what goes so far down
abbrev pub way_down : ℕ → List (List ℕ × List ℕ)
way_down room = (codes "transform", codes "translate(0 " ++ decimal room ++ codes ")") ∷ []

unfoldable pub moved_down : ℕ → List ℕ → List ℕ
moved_down room text = element_around (codes "g") (way_down room) text

abbrev pub picture_in : Frame → List Pid → List ℕ → Kept → Reach → List ℕ
picture_in f ps names k r =
    opening_tag (codes "svg") (extent f (length ps))
    ++ picture_head f (length ps) names k
    ++ moved_down (name_room (length ps)) (picture_body f ps k r)
    ++ closing (codes "svg")

-- the picture of what is kept, for so many machines and the processes that are there from the start, whose names are drawn so
unfoldable pub picture_of : ℕ → List Pid → List ℕ → Kept → Reach → List ℕ
picture_of machines ps names k r = picture_in (frame_of machines ps k) ps names k r

abbrev pub boot_pids : Boot → List Pid
boot_pids b = map (λ p. p.pid) b.processes

-- the picture of these groups of a run: of its boot file, and the lines of all its groups; and of one that ended at a worn pair
abbrev pub chart_of : Part → Boot → List (List Line) → List ℕ
chart_of part b gs = picture_of (length b.machines) (boot_pids b) (names_drawn b.processes) (kept_of part gs) reach.Whole

abbrev pub worn_chart_of : Part → Boot → List (List Line) → ℕ → ℕ → List ℕ
worn_chart_of part b gs from to = picture_of (length b.machines) (boot_pids b) (names_drawn b.processes) (kept_of part gs) (reach.BeforeWorn from to)
