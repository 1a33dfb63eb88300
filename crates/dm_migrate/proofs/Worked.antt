-- The pieces of a process, computed.
use Rattle.dm_migrate.proofs.Names.{◌≡◌, ℕ, true, false, List, [], ◌∷◌, ◌++◌, replicate, refl, Chunk, Block, Nothing, after_block, after_chunk, drop, take, ◌*◌, chunk_bytes, is_last}

-- 512 bytes, then 70 others
abbrev state : List ℕ
state = replicate 512 7 ++ replicate 70 8

pub two_chunks : (chunk_bytes state 0 ∷ chunk_bytes state 1 ∷ []) ≡ replicate 512 7 ∷ replicate 70 8 ∷ []
two_chunks = refl

pub last_of_two : (is_last state 0 ∷ is_last state 1 ∷ []) ≡ false ∷ true ∷ []
last_of_two = refl

-- one chunk that is full, and one byte more
pub last_of_one : (is_last (replicate 512 7) 0 ∷ is_last (replicate 513 7) 0 ∷ []) ≡ true ∷ false ∷ []
last_of_one = refl

-- 256 bytes, then 256 others
abbrev block_bytes : List ℕ → ℕ → List ℕ
block_bytes memory k = take 256 (drop (256 * k) memory)

pub two_blocks : (block_bytes (replicate 256 7 ++ replicate 256 8) 0 ∷ block_bytes (replicate 256 7 ++ replicate 256 8) 1 ∷ []) ≡ replicate 256 7 ∷ replicate 256 8 ∷ []
two_blocks = refl

-- two chunks, then two blocks, and then nothing
pub in_order : (after_chunk 0 false 2 ∷ after_chunk 1 true 2 ∷ after_block 0 2 ∷ after_block 1 2 ∷ []) ≡ Chunk 1 ∷ Block 0 ∷ Block 1 ∷ Nothing ∷ []
in_order = refl

-- a server has no blocks
pub no_blocks : (after_chunk 0 false 0 ∷ after_chunk 1 true 0 ∷ []) ≡ Chunk 1 ∷ Nothing ∷ []
no_blocks = refl
