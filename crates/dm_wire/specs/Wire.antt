-- The wires between sixteen machines, one for each ordered pair.
use Rattle.std.specs.Prelude.{◌≡◌, ◌⊎◌, ◌<◌, false, None, position, ℕ, ◌+◌, ◌*◌, nat_lt, Bool, ◌==◌, ◌&&◌, if◌then◌else◌, List, [], ◌∷◌, ◌++◌, slice_index_or}
use Rattle.dm_records.specs.Machines.{has}
use Rattle.dm_records.specs.declared.machines.Machines.{Machines}
use Rattle.dm_wire.specs.Sent.{Sent, is_unseen, just_put, marked}

-- all packets ever put on the wire from a to b, in order: the pairs stand by the first machine, then by the second, and
-- those past the end are empty
unfoldable pub packets_on : List (List Sent) → ℕ → ℕ → List Sent
packets_on pairs a b = if nat_lt b 16 then slice_index_or pairs (16 * a + b) [] else []

abbrev pub is_pair : ℕ → ℕ → ℕ → ℕ → Bool
is_pair a b x y = (a == x) && (b == y)

-- one more packet on the wire from a to b
abbrev pub after_put : (ℕ → ℕ → List Sent) → ℕ → ℕ → List ℕ → ℕ → ℕ → List Sent
after_put packets a b bytes x y = if is_pair a b x y then packets x y ++ just_put bytes ∷ [] else packets x y

-- one more mark on the wire from a to b
abbrev pub after_mark : (ℕ → ℕ → List Sent) → ℕ → ℕ → ℕ → ℕ → ℕ → List Sent
after_mark packets a b k x y = if is_pair a b x y then marked (packets x y) k else packets x y

-- where a machine isn't among those to which something of the sender is pending, all packets to it were delivered
abbrev pub AreDelivered : List Machines → List (List Sent) → Type 0
AreDelivered pending pairs = (a b : ℕ) (none : Machines) → a < 16 → b < 16 → has (slice_index_or pending a none) b ≡ false → position is_unseen (packets_on pairs a b) ≡ None

-- where a machine isn't among the senders from which something is pending, all packets from it were delivered
abbrev pub AreSilent : Machines → List (List Sent) → Type 0
AreSilent senders pairs = (a b : ℕ) → a < 16 → has senders a ≡ false → position is_unseen (packets_on pairs a b) ≡ None

-- what is noted of packets that weren't delivered
pub record AreNoted (senders : Machines) (pending : List Machines) (pairs : List (List Sent)) : Type 0 where
  pub from : AreSilent senders pairs
  pub to : AreDelivered pending pairs

-- a machine that is no sender any more was none before, or it is this one, which has no such receivers
abbrev pub StaysClosed : Machines → ℕ → Machines → ℕ → Type 0
StaysClosed senders a receivers n = (has senders n ≡ false) ⊎ ((n ≡ a) × ((b : ℕ) → has receivers b ≡ false))
