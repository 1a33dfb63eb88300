-- What moves in pieces: state bytes in chunks of 512 bytes, a memory in blocks of 256.
use Rattle.std.specs.Prelude.{ℕ, ◌+◌, ◌*◌, ◌<◌, Bool, nat_le, List, length, take, drop}
use Rattle.dm_link.specs.declared.Pid.{Pid}
use Rattle.dm_message.specs.declared.What.{What}
use Rattle.dm_message.specs.declared.What.TheVariants as what

-- state bytes have a chunk of this number
abbrev pub HasChunk : List ℕ → ℕ → Type 0
HasChunk state k = 512 * k < length state

-- the bytes of that chunk: 512, or what is left
abbrev pub chunk_bytes : List ℕ → ℕ → List ℕ
chunk_bytes state k = take 512 (drop (512 * k) state)

-- nothing is left after that chunk
abbrev pub is_last : List ℕ → ℕ → Bool
is_last state k = nat_le (length state) (512 * (k + 1))

-- the message that brings a chunk of state bytes
abbrev pub chunk_of : Pid → List ℕ → ℕ → What
chunk_of p state k = what.State p k (is_last state k) (record { items = chunk_bytes state k })

-- a memory has a block of this number
abbrev pub HasBlock : List ℕ → ℕ → Type 0
HasBlock memory k = 256 * k < length memory

-- the message that brings a block of a process's memory
abbrev pub block_of : Pid → List ℕ → ℕ → What
block_of p memory k = what.Memory p k (take 256 (drop (256 * k) memory))
