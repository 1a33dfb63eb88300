-- Packets whose front is read.
use Rattle.dm_packet.proofs.Names.{◌≡◌, ℕ, ◌==◌, Bool, true, false, List, length, Result, Ok, Err, refl, if◌then◌else◌, Message, Data, PacketError, numbered_message, only_packet, read_rest, ◌>>=◌}
use Rattle.dm_packet.specs.Parts.{data_behind, only, read_ended}
use Rattle.dm_packet.specs.declared.PacketError.TheVariants as bad
use Rattle.dm_packet.specs.declared.front.PacketKind.TheVariants as kinds

ended : (a b : ℕ) (x : ℕ × Message) (t : Bool) → (if t then Ok (Data a b x.0 x.1) else Err bad.Trailing) ≡ ((if t then Ok x else Err bad.Trailing) >>= λ y. Ok (Data a b y.0 y.1))
ended a b x true = refl
ended a b x false = refl

numbered_ended : (a b : ℕ) (r : Result ((ℕ × Message) × List ℕ) PacketError) → ((r >>= λ x. Ok (Data a b x.0.0 x.0.1, x.1)) >>= only_packet) ≡ ((r >>= only) >>= λ x. Ok (Data a b x.0 x.1))
numbered_ended a b (Ok x) = ended a b x.0 (length x.1 == 0)
numbered_ended a b (Err e) = refl

-- a message's packet is its front, and a number and a message behind which nothing stands
pub data_is_behind : (a b : ℕ) (bytes : List ℕ) → read_ended kinds.Data a b bytes ≡ data_behind a b bytes
unfolding read_rest
data_is_behind a b bytes = numbered_ended a b (numbered_message.read bytes)
