-- The parts of a system, a line each, where there is more than one.
use Rattle.std.specs.Prelude.{ℕ, ◌+◌, Bool, false, ◌==◌, ◌&&◌, ◌||◌, nat_lt, if◌then◌else◌, codes, List, [], ◌∷◌, ◌++◌, length, slice_get, Option, None, Some}
use Rattle.std.specs.List.{concat}
use Rattle.toml.specs.Data.{Data}
use Rattle.dm_onekernel.specs.declared.boot.Boot.{Boot}
use Rattle.dm_onekernel.specs.declared.boot.BootProcess.{BootProcess}
use Rattle.dm_parts.specs.Parts.{parts_of}
use Rattle.dm_explain.specs.System.{each, system_told}

-- the name of a process, or the switchboard's
abbrev pub name_or_board : Option BootProcess → List ℕ
name_or_board None = codes "switchboard"
name_or_board (Some p) = p.name

-- who stands at a place: a process, or the switchboard behind the last
abbrev pub name_at : List BootProcess → ℕ → List ℕ
name_at ps place = name_or_board (slice_get ps place)

abbrev pub named_told : List ℕ → List BootProcess → ℕ → List ℕ
named_told words ps place = concat (words ∷ name_at ps place ∷ [])

-- one of this part, behind its first
unfoldable pub member_told : List BootProcess → ℕ → ℕ → ℕ → List ℕ
member_told ps part place number = if (number == part) && nat_lt part place then named_told (codes ", ") ps place else []

-- a part, which has the number of its first place
unfoldable pub part_told : List BootProcess → List ℕ → ℕ → List ℕ
part_told ps numbers part = named_told (codes "part: ") ps part ++ each (member_told ps part) 0 numbers ++ codes "\n"

-- a process is the first of its part
abbrev pub is_first : ℕ → ℕ → ℕ → Bool
is_first last place number = (number == place) && nat_lt place last

unfoldable pub first_told : List BootProcess → List ℕ → ℕ → ℕ → List ℕ
first_told ps numbers place number = if is_first (length ps) place number then part_told ps numbers place else []

-- the file's first process is the first of its part; another is the first of another part
abbrev pub is_later : ℕ → ℕ → ℕ → Bool
is_later last place number = nat_lt 0 place && is_first last place number

unfoldable pub has_another : ℕ → ℕ → List ℕ → Bool
has_another last place [] = false
has_another last place (n ∷ ns) = is_later last place n || has_another last (place + 1) ns

unfoldable pub parts_told : List BootProcess → List ℕ → List ℕ
parts_told ps numbers = if has_another (length ps) 0 numbers then each (first_told ps numbers) 0 numbers else []

-- what a boot file says that breaks no rule, and its parts behind it
abbrev pub told_with_parts : Boot → Data → List ℕ
told_with_parts b d = system_told b d ++ parts_told b.processes (parts_of b)
