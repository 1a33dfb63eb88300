-- What the lines at the end of a run are made of.
use Rattle.std.specs.Prelude.{ℕ, ◌+◌, ◌*◌, ◌==◌, ◌&&◌, Bool, true, false, if◌then◌else◌, List, [], ◌∷◌, take, drop}
use Rattle.dm_link.specs.declared.Pid.{Pid}
use Rattle.dm_link.specs.Names.{pid_of}
use Rattle.dm_onekernel.specs.Boot.{first_number}
pub use Rattle.dm_line.specs.Each.{joined_below}
use Rattle.dm_line.specs.declared.end_line.EndLine.{EndLine}
use Rattle.dm_line.specs.declared.end_line.EndLine.TheVariants as end
use Rattle.dm_line.specs.declared.end_line.Standing.{Standing}
use Rattle.dm_line.specs.declared.end_line.Standing.TheVariants as standing

-- bytes up to the last that isn't 0
abbrev pub before_zeros : ℕ → List ℕ → List ℕ
before_zeros x [] = if x == 0 then [] else x ∷ []
before_zeros x (y ∷ ys) = x ∷ y ∷ ys

abbrev pub trimmed : List ℕ → List ℕ
trimmed [] = []
trimmed (x ∷ xs) = before_zeros x (trimmed xs)

-- a list that isn't empty
abbrev pub list_line : {X : Type 0} → (List X → EndLine) → List X → List EndLine
list_line f [] = []
list_line f (x ∷ xs) = f (x ∷ xs) ∷ []

-- the first n blocks of a memory, but for those of zeros alone
abbrev pub block_line : Pid → ℕ → List ℕ → List EndLine
block_line p k bytes = list_line (λ xs. end.Memory p k (record { items = xs })) bytes

abbrev pub memory_lines : Pid → List ℕ → ℕ → List EndLine
memory_lines p bytes blocks = joined_below (λ k. block_line p k (trimmed (take 256 (drop (256 * k) bytes)))) blocks

-- so many processes of a home, in order of number
abbrev pub home_with : (Pid → List EndLine) → ℕ → ℕ → List EndLine
home_with f home made = joined_below (λ n. f (pid_of home (first_number + n))) made

-- whether a server is here on machine 0, where servers begin: then no line says where it is
abbrev pub stands_here : Standing → Bool
stands_here standing.Here = true
stands_here standing.Leaving = false
stands_here standing.Arriving = false

abbrev pub is_at_home : ℕ → Standing → Bool
is_at_home m s = (m == 0) && stands_here s
