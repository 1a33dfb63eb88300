-- What was put on the wire from one machine to another: a list that only grows.
use Rattle.std.specs.Prelude.{◌≡◌, ℕ, zero, suc, ◌<◌, ◌≤◌, Bool, true, false, not, List, [], ◌∷◌, length, slice_get, Option, Some, None, option_map}

-- a packet: its bytes, and whether it was delivered at least once
pub record Sent : Type 0 where
  pub bytes : List ℕ
  pub seen : Bool

-- a packet that was just put
abbrev pub just_put : List ℕ → Sent
just_put bytes = record { bytes = bytes; seen = false }

abbrev pub is_unseen : Sent → Bool
is_unseen p = not p.seen

-- the bytes of the packet with this number
abbrev pub bytes_at : List Sent → ℕ → Option (List ℕ)
bytes_at packets k = option_map (λ (p : Sent). p.bytes) (slice_get packets k)

abbrev pub with_mark : Sent → Sent
with_mark p = record { bytes = p.bytes; seen = true }

-- the packet with this number is marked as delivered
abbrev pub marked : List Sent → ℕ → List Sent
marked [] k = []
marked (p ∷ packets) zero = with_mark p ∷ packets
marked (p ∷ packets) (suc k) = p ∷ marked packets k

abbrev pub was_seen : Option Sent → Bool
was_seen None = false
was_seen (Some p) = p.seen

-- there is a packet with this number, and it was delivered
abbrev pub seen_at : List Sent → ℕ → Bool
seen_at packets k = was_seen (slice_get packets k)

-- the packets below the cursor were delivered, and the one there, if there is one, was not
pub record IsCursor (packets : List Sent) (cursor : ℕ) : Type 0 where
  pub within : cursor ≤ length packets
  pub below : (k : ℕ) → k < cursor → seen_at packets k ≡ true
  pub here : seen_at packets cursor ≡ false
