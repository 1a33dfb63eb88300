-- The packets of a pair in one piece of memory: their bytes stand one behind another.
use Rattle.std.specs.Prelude.{◌≡◌, ◌≤◌, ℕ, zero, suc, Bool, List, [], ◌∷◌, length, slice_range}
use Rattle.dm_wire.specs.Sent.{IsCursor, Sent}

-- the packets from a place on: the first begins there and goes to the first of these ends, where the next one begins
abbrev pub packets_in : List ℕ → ℕ → List ℕ → List Bool → List Sent
packets_in bytes from [] marks = []
packets_in bytes from (end ∷ ends) [] = []
packets_in bytes from (end ∷ ends) (mark ∷ marks) = record { bytes = slice_range bytes from end; seen = mark } ∷ packets_in bytes end ends marks

-- where the packet with this number begins
abbrev pub beginning : ℕ → List ℕ → ℕ → ℕ
beginning from [] k = from
beginning from (end ∷ ends) zero = from
beginning from (end ∷ ends) (suc k) = beginning end ends k

-- no packet ends before it begins, and the last one ends where the bytes do
abbrev pub AreEnds : ℕ → List ℕ → ℕ → Type 0
AreEnds from [] len = from ≡ len
AreEnds from (end ∷ ends) len = (from ≤ end) × AreEnds end ends len

-- there are as many packets as ends and marks, and the cursor stands at the first that wasn't delivered
pub record HoldPackets (bytes ends : List ℕ) (marks : List Bool) (cursor : ℕ) : Type 0 where
  pub each : length marks ≡ length ends
  pub ascend : AreEnds 0 ends (length bytes)
  pub first : IsCursor (packets_in bytes 0 ends marks) cursor
