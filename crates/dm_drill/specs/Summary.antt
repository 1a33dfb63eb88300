-- The summary of a drill: what it was drawn from, its counts, and whether all has come to rest.
use Rattle.std.specs.Prelude.{ℕ, Bool, if◌then◌else◌, codes, List, ◌++◌}
use Rattle.std.specs.Fmt.{decimal}
use Rattle.dm_drill.specs.Totals.{Totals}

-- a word, a number and a line feed
abbrev pub counted_line : List ℕ → ℕ → List ℕ
counted_line word n = word ++ codes " " ++ decimal n ++ codes "\n"

abbrev pub first_line : ℕ → ℕ → ℕ → List ℕ
first_line seed machines lines = codes "drill " ++ decimal seed ++ codes " " ++ decimal machines ++ codes " " ++ decimal lines ++ codes "\n"

abbrev pub quiet_line : Bool → List ℕ
quiet_line quiet = if quiet then codes "quiet yes\n" else codes "quiet no\n"

-- what was done, what came, and what became of moves
abbrev pub traffic : Totals → List ℕ
traffic t = counted_line (codes "groups") t.groups ++ counted_line (codes "puts") t.puts ++ counted_line (codes "packets") t.packets

abbrev pub arrivals : Totals → List ℕ
arrivals t = counted_line (codes "taken") t.taken ++ counted_line (codes "old") t.repeated ++ counted_line (codes "early") t.early ++ counted_line (codes "received") t.received

abbrev pub moves : Totals → List ℕ
moves t = counted_line (codes "moved") t.moved ++ counted_line (codes "stayed") t.stayed ++ counted_line (codes "forwarded") t.forwarded ++ counted_line (codes "held") t.held

unfoldable pub summary : ℕ → ℕ → ℕ → Totals → Bool → List ℕ
summary seed machines lines t quiet = first_line seed machines lines ++ traffic t ++ arrivals t ++ moves t ++ quiet_line quiet
