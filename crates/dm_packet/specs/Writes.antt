-- What a writer of the code leaves in the room for a packet.
use Rattle.std.specs.Prelude.{◌≡◌, ℕ, ◌+◌, ◌≤◌, List, ◌++◌, length}
use Rattle.arrayvec.specs.ArrayVec.{ArrayVec}

-- these bytes still have room
abbrev pub HasRoom : ArrayVec ℕ → List ℕ → Type 0
HasRoom out bytes = length out.items + length bytes ≤ 1024

-- these bytes, and nothing else, were put at the end
abbrev pub Puts : ArrayVec ℕ → ArrayVec ℕ → List ℕ → Type 0
Puts old new bytes = new.items ≡ old.items ++ bytes
