-- What holds of a stream, whatever the network loses, repeats or reorders.
use Rattle.std.specs.Prelude.{◌≡◌, ℕ, ◌+◌, ◌^◌, ◌-◌, ◌<◌, ◌≤◌, ◌⊎◌, length, take, drop, slice_get, Some, IsSome}
use Rattle.dm_stream.specs.Sending.{window, given_count}
use Rattle.dm_stream.specs.Receiving.{kept_under}
use Rattle.dm_stream.specs.Packets.{Data, Ack, load_at, HasData, HasCome, HasHeard, HasNotCome}
use Rattle.dm_stream.specs.Stream.{Stream}

module _ {M : Type 0} where
  -- what was taken is the beginning of what was given, each kept message is the one given under its number, the
  -- sender still has what isn't acknowledged, and the counts are in order: acknowledged, taken, gone out, given
  pub record IsInOrder (w : Stream M) : Type 0 where
    pub taken : w.taken ≡ take w.receiver.count w.given
    pub kept : (n : ℕ) (m : M) → kept_under w.receiver n ≡ Some m → slice_get w.given n ≡ Some m
    pub unacked : w.sender.unacked ≡ drop w.sender.acked w.given
    pub acked_taken : w.sender.acked ≤ w.receiver.count
    pub taken_gone : w.receiver.count ≤ w.sender.gone
    pub gone_given : w.sender.gone ≤ length w.given
    pub in_window : w.sender.gone ≤ w.sender.acked + window

  -- each data packet has gone out and carries the message given under its number, what is kept has gone out, and each
  -- acknowledgement counts at most what was taken
  pub record IsSent (w : Stream M) : Type 0 where
    pub data_gone : (k n : ℕ) (m : M) → load_at w.out k ≡ Some (Data n m) → n < w.sender.gone
    pub data_given : (k n : ℕ) (m : M) → load_at w.out k ≡ Some (Data n m) → slice_get w.given n ≡ Some m
    pub kept_gone : (n : ℕ) (m : M) → kept_under w.receiver n ≡ Some m → n < w.sender.gone
    pub ack_taken : (k n : ℕ) → load_at w.back k ≡ Some (Ack n) → n ≤ w.receiver.count

  -- this number was taken, or a message is kept under it
  abbrev pub IsThere : Stream M → ℕ → Type 0
  IsThere w n = (n < w.receiver.count) ⊎ IsSome (kept_under w.receiver n)

  -- each number that has gone out has a packet among those sent; what has come is taken or kept; and what is acknowledged is
  -- the greatest count of which an acknowledgement was delivered
  pub record IsHeard (w : Stream M) : Type 0 where
    pub sent : (n : ℕ) → n < w.sender.gone → (m : M) × HasData w.out n m
    pub there : (n : ℕ) → HasCome w.out n → IsThere w n
    pub heard : (n : ℕ) → HasHeard w.back n → n ≤ w.sender.acked
    pub acked : (w.sender.acked ≡ 0) ⊎ HasHeard w.back w.sender.acked

  -- the sender has counted what was given, within what it may be given, and the receiver has its places
  pub record IsCounted (w : Stream M) : Type 0 where
    pub given : given_count w.sender ≡ length w.given
    pub allowed : given_count w.sender ≤ w.sender.numbers
    pub small : w.sender.numbers < 2 ^ 32
    pub places : length w.receiver.kept ≡ 8

  -- a pair's sender, receiver, packets and their marks fit each other: so it is at the start, and after each event
  pub record StreamStands (w : Stream M) : Type 0 where
    pub in_order : IsInOrder w
    pub sent : IsSent w
    pub heard : IsHeard w
    pub counted : IsCounted w

  -- every packet that was ever sent may be delivered: the conditions of the calls that take it
  pub record MayCome (w : Stream M) : Type 0 where
    pub in_window : (k n : ℕ) (m : M) → load_at w.out k ≡ Some (Data n m) → n < w.receiver.count + 8
    pub numbered : (k n : ℕ) (m : M) → load_at w.out k ≡ Some (Data n m) → n < 2 ^ 32 - 1
    pub ack : (k n : ℕ) → load_at w.back k ≡ Some (Ack n) → n ≤ w.sender.gone

  -- a number that has gone out has a packet that was never delivered, or was taken, or is kept
  abbrev pub IsUnderWayOrThere : Stream M → ℕ → Type 0
  IsUnderWayOrThere w n = HasNotCome w.out n ⊎ IsThere w n
