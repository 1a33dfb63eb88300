-- A group that routes a message between two machines that count as many as they may leaves them with one more.
use Rattle.dm_law_runs.proofs.Names.{◌≡◌, ◌<◌, ℕ, length, Some, Boot, Step, View, Point, Spelled, group_of, Two, worn_in, group_after}
use Rattle.dm_law_runs.proofs.Wires.{lines_wear}

-- more than so many
abbrev pub IsOver : ℕ → View → Two → Type 0
IsOver numbers v p = numbers < length (v.pair p.from p.to).ids

-- the pair counts more than it may behind the group
pub group_over : (b : Boot) (pt : Point) (d : Step) (w : Spelled) (p : Two) → group_of b pt d ≡ Some w → worn_in b.numbers pt.view w.lines ≡ Some p → IsOver b.numbers w.point.view p
group_over b pt d w p e worn = lines_wear b.numbers w.lines pt w.point p (group_after b pt d w e) worn
