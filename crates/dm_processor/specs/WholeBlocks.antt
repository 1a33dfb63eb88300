-- A memory as a list of blocks.
use Rattle.std.specs.Prelude.{ℕ, ◌≡◌, ◌≤◌, List, [], ◌∷◌, length}

-- each block has 256 bytes
abbrev pub AreWhole : List (List ℕ) → Type 0
AreWhole [] = Unit {0}
AreWhole (block ∷ blocks) = (length block ≡ 256) × AreWhole blocks

-- the blocks of a memory: 1 to 256 whole ones
abbrev pub IsMemory : List (List ℕ) → Type 0
IsMemory blocks = (1 ≤ length blocks) × (length blocks ≤ 256) × AreWhole blocks
