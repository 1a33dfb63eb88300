-- The entries of the map of names, told one by one where a process is.
use Rattle.std.specs.Prelude.{ℕ, zero, suc, ◌+◌, Bool, false, List, [], ◌∷◌, if◌then◌else◌}
use Rattle.arrayvec.specs.ArrayVec.{ArrayVec}
use Rattle.dm_link.specs.declared.Pid.{Pid}
use Rattle.dm_link.specs.declared.Link.{Link}
use Rattle.dm_link.specs.Places.{is_behind, retargeted_link}

abbrev pub Entries : Type 0
Entries = List (ArrayVec ℕ × Link)

-- entry n is told
abbrev pub told_at : Pid → ℕ → ℕ → ℕ → Entries → Entries
told_at about at moves n [] = []
told_at about at moves zero (e ∷ es) = (e.0, retargeted_link about at moves e.1) ∷ es
told_at about at moves (suc n) (e ∷ es) = e ∷ told_at about at moves n es

-- entry n's link is to this process, and knows fewer moves of it
abbrev pub behind_at : Pid → ℕ → ℕ → Entries → Bool
behind_at about moves n [] = false
behind_at about moves zero (e ∷ es) = is_behind about moves e.1.addr
behind_at about moves (suc n) (e ∷ es) = behind_at about moves n es

-- the first n entries are told
abbrev pub followed : Pid → ℕ → ℕ → ℕ → Entries → Entries
followed about at moves zero es = es
followed about at moves (suc n) [] = []
followed about at moves (suc n) (e ∷ es) = (e.0, retargeted_link about at moves e.1) ∷ followed about at moves n es

-- how many of the first n entries are behind
abbrev pub counted : Pid → ℕ → ℕ → Entries → ℕ
counted about moves zero es = 0
counted about moves (suc n) [] = 0
counted about moves (suc n) (e ∷ es) = (if is_behind about moves e.1.addr then 1 else 0) + counted about moves n es
