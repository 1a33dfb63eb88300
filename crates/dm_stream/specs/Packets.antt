-- The packets on the wire from one machine to another: a list that only grows, with a mark for what was delivered.
use Rattle.std.specs.Prelude.{◌≡◌, ℕ, zero, suc, ◌<◌, Bool, true, false, List, [], ◌∷◌, length, slice_get, Option, Some, option_map}
use Rattle.std.specs.Option.{option_map_or}

-- what a packet carries: a message with its number, or the count of an acknowledgement
pub data Load (M : Type 0) : Type 0 where
  Data : (number : ℕ) (message : M) → Load M
  Ack : (count : ℕ) → Load M

-- a packet, and whether it was delivered at least once
pub record Packet (M : Type 0) : Type 0 where
  pub load : Load M
  pub delivered : Bool

module _ {M : Type 0} where
  -- a packet that was just put
  abbrev pub just_put : Load M → Packet M
  just_put l = record { load = l; delivered = false }

  abbrev pub with_mark : Packet M → Packet M
  with_mark p = record { load = p.load; delivered = true }

  -- the packet at this place, if there is one, is marked as delivered
  abbrev pub marked : List (Packet M) → ℕ → List (Packet M)
  marked [] k = []
  marked (p ∷ wire) zero = with_mark p ∷ wire
  marked (p ∷ wire) (suc k) = p ∷ marked wire k

  -- what the packet at this place carries
  unfoldable pub load_at : List (Packet M) → ℕ → Option (Load M)
  load_at wire k = option_map (λ p. p.load) (slice_get wire k)

  -- there is a packet at this place, and it was delivered
  unfoldable pub delivered_at : List (Packet M) → ℕ → Bool
  delivered_at wire k = option_map_or (λ p. p.delivered) (slice_get wire k) false

  -- some packet that was sent carries this message under this number
  abbrev pub HasData : List (Packet M) → ℕ → M → Type 0
  HasData wire n m = (k : ℕ) × (load_at wire k ≡ Some (Data n m))

  -- some packet that was delivered carries a message under this number
  abbrev pub HasCome : List (Packet M) → ℕ → Type 0
  HasCome wire n = (k : ℕ) × ((m : M) × ((load_at wire k ≡ Some (Data n m)) × (delivered_at wire k ≡ true)))

  -- some packet that was sent carries this number, and was never delivered
  abbrev pub HasNotCome : List (Packet M) → ℕ → Type 0
  HasNotCome wire n = (k : ℕ) × ((m : M) × ((load_at wire k ≡ Some (Data n m)) × (delivered_at wire k ≡ false)))

  -- an acknowledgement of this count was sent
  abbrev pub HasAck : List (Packet M) → ℕ → Type 0
  HasAck wire n = (k : ℕ) × (load_at wire k ≡ Some (Ack n))

  -- an acknowledgement of this count was sent and delivered
  abbrev pub HasHeard : List (Packet M) → ℕ → Type 0
  HasHeard wire n = (k : ℕ) × ((load_at wire k ≡ Some (Ack n)) × (delivered_at wire k ≡ true))

  -- each packet was delivered
  abbrev pub IsDelivered : List (Packet M) → Type 0
  IsDelivered wire = (k : ℕ) → k < length wire → delivered_at wire k ≡ true
