-- Pieces put to their places.
use Rattle.dm_migrate.proofs.Names.{ℕ, ◌≡◌, ◌+◌, ◌-◌, ◌*◌, ◌<◌, ◌≤◌, min, Bool, true, false, List, ◌++◌, length, take, drop, ap, sym, ◌∙◌, refl, arith, length-append, take-add, length-take, length-take-le, length-drop, take_at, take_all}
use Rattle.dm_migrate.proofs.Names.{◌/◌, ◌==◌, if◌then◌else◌, [], nil_from_length, nat_tests, common_steps, Block, Chunk, Nothing, after_chunk, memory_come, state_come, chunk_bytes, is_last}

-- a list with a part put to a place
abbrev pub put : List ℕ → ℕ → List ℕ → List ℕ
put m n bytes = (take n m ++ bytes) ++ drop (n + length bytes) m

-- what was put to a place, with all before it
pub take-put : (m bytes : List ℕ) (n e : ℕ) → n ≤ length m → n + length bytes ≡ e → take e (put m n bytes) ≡ take n m ++ bytes
take-put m bytes n e i h =
    let a : length (take n m) ≡ n = length-take-le n m i in
    take_at (take n m ++ bytes) (drop (n + length bytes) m) e (omega (arith, length-append (take n m) bytes, a, h))

-- nothing gets longer or shorter
pub length-put : (m bytes : List ℕ) (n : ℕ) → n + length bytes ≤ length m → length (put m n bytes) ≡ length m
length-put m bytes n i = grind (arith, common_steps)

-- nothing is behind what was put to the end
pub put-end : (m bytes : List ℕ) (n : ℕ) → n + length bytes ≡ length m → put m n bytes ≡ take n m ++ bytes
put-end m bytes n h = grind (arith, common_steps, h)

-- how many bytes a chunk has
pub length-chunk : (whole : List ℕ) (k : ℕ) → length (chunk_bytes whole k) ≡ min 512 (length whole - 512 * k)
length-chunk whole k = length-take 512 (drop (512 * k) whole) ∙ ap (λ (n : ℕ). min 512 n) (length-drop (512 * k) whole)

-- a chunk lies within what there will be
pub within : (state whole bytes : List ℕ) (k : ℕ) → length whole ≡ length state → 512 * k < length whole → bytes ≡ chunk_bytes whole k → 512 * k + length bytes ≤ length state
within state whole bytes k e i h = grind (arith, e, h, length-chunk whole k)

pub ends_here : (state whole bytes : List ℕ) (k : ℕ) → length whole ≡ length state → 512 * k < length whole → bytes ≡ chunk_bytes whole k → true ≡ is_last whole k → 512 * k + length bytes ≡ length state
ends_here state whole bytes k e i h l = grind (arith, nat_tests, e, h, l, length-chunk whole k)

pub goes_on : (state whole bytes : List ℕ) (k : ℕ) → length whole ≡ length state → 512 * k < length whole → bytes ≡ chunk_bytes whole k → false ≡ is_last whole k → (512 * k + length bytes ≡ 512 * (k + 1)) × (512 * (k + 1) < length state)
goes_on state whole bytes k e i h l = grind (arith, nat_tests, e, h, l, length-chunk whole k)

-- behind the last chunk all state bytes have come, whether blocks follow or not
pub all_state : (none : Bool) (state : List ℕ) → state_come (if none then Nothing else Block 0) state ≡ state
all_state true state = refl
all_state false state = refl

-- what has come after a chunk
pub chunk_come : (ends : Bool) (blocks : ℕ) (state whole bytes : List ℕ) (k : ℕ) → length whole ≡ length state → 512 * k < length whole → bytes ≡ chunk_bytes whole k → ends ≡ is_last whole k → state_come (after_chunk k ends blocks) (put state (512 * k) bytes) ≡ take (512 * k) state ++ bytes
chunk_come true blocks state whole bytes k e i h l = all_state (blocks == 0) (put state (512 * k) bytes) ∙ put-end state bytes (512 * k) (ends_here state whole bytes k e i h l)
chunk_come false blocks state whole bytes k e i h l = take-put state bytes (512 * k) (512 * (k + 1)) (omega (arith, e)) ((goes_on state whole bytes k e i h l).0)

-- after the last chunk all has come
pub last_come : (state whole bytes : List ℕ) (k : ℕ) → length whole ≡ length state → 512 * k < length whole → bytes ≡ chunk_bytes whole k → true ≡ is_last whole k → take (512 * k) state ≡ take (512 * k) whole → put state (512 * k) bytes ≡ whole
last_come state whole bytes k e i h l b =
    let n : length whole ≤ 512 * k + 512 = grind (arith, nat_tests, l) in
    put-end state bytes (512 * k) (ends_here state whole bytes k e i h l)
    ∙ ap (λ (x : List ℕ). x ++ bytes) b
    ∙ ap (λ (x : List ℕ). take (512 * k) whole ++ x) h
    ∙ sym (take-add (512 * k) 512 whole)
    ∙ take_all (512 * k + 512) whole n

-- no memory comes with a chunk: what has no blocks has none
no_memory : (none : Bool) (memory : List ℕ) → (length memory / 256 == 0) ≡ none → length memory ≡ 256 * (length memory / 256) → memory_come (if none then Nothing else Block 0) memory ≡ []
no_memory true memory e whole = nil_from_length memory (grind (arith, nat_tests, e, whole))
no_memory false memory e whole = refl

pub memory_waits : (ends : Bool) (k : ℕ) (memory : List ℕ) → length memory ≡ 256 * (length memory / 256) → memory_come (after_chunk k ends (length memory / 256)) memory ≡ memory_come (Chunk k) memory
memory_waits true k memory whole = no_memory (length memory / 256 == 0) memory refl whole
memory_waits false k memory whole = refl
