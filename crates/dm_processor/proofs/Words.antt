-- The number that is read spells the bytes that stood there, and the bytes that are written spell the number.
use Rattle.dm_processor.proofs.Names.{ℕ, suc, ◌≡◌, ◌+◌, ◌*◌, ◌/◌, ◌%◌, ◌^◌, ◌<◌, ◌≤◌, List, [], ◌∷◌, length, take, drop, get_or, drop-cons, refl, ap, sym, ◌∙◌, arith, common_steps, big_number, big_bytes, word_at, word_bytes, AreBytes}

-- the number in four bytes of a memory is the word there
pub big_number-word_at : (m : List ℕ) (at : ℕ) → big_number 4 (take 4 (drop at m)) ≡ word_at m at
big_number-word_at m at = grind (arith, common_steps)

-- the four bytes of a number are the bytes of the word
pub big_bytes-word_bytes : (w : ℕ) → big_bytes 4 w ≡ word_bytes w
big_bytes-word_bytes w = refl

-- one byte of a memory
next_byte : (m : List ℕ) (i j : ℕ) → i < length m → suc i ≡ j → drop i m ≡ get_or m i 0 ∷ drop j m
next_byte m i j h e = drop-cons m i 0 h ∙ ap (λ (k : ℕ). get_or m i 0 ∷ drop k m) e

-- four bytes of a memory
pub take_four : (m : List ℕ) (at : ℕ) → at + 4 ≤ length m → take 4 (drop at m) ≡ get_or m at 0 ∷ get_or m (at + 1) 0 ∷ get_or m (at + 2) 0 ∷ get_or m (at + 3) 0 ∷ []
take_four m at h =
    let a = next_byte m at (at + 1) (omega arith) (omega arith) in
    let b = next_byte m (at + 1) (at + 2) (omega arith) (omega arith) in
    let c = next_byte m (at + 2) (at + 3) (omega arith) (omega arith) in
    let d = next_byte m (at + 3) (at + 4) (omega arith) (omega arith) in
    rw (a, b, c, d) refl

-- the bytes of a number that is made of four bytes
spelled : (a b c d : ℕ) → a < 256 → b < 256 → c < 256 → d < 256 → word_bytes (2 ^ 24 * a + 2 ^ 16 * b + 2 ^ 8 * c + d) ≡ a ∷ b ∷ c ∷ d ∷ []
spelled a b c d h i j k =
    let x = 2 ^ 24 * a + 2 ^ 16 * b + 2 ^ 8 * c + d in
    let e : x / 2 ^ 24 % 256 ≡ a = omega arith in
    let f : x / 2 ^ 16 % 256 ≡ b = omega arith in
    let g : x / 2 ^ 8 % 256 ≡ c = omega arith in
    let l : x % 256 ≡ d = omega arith in
    ap (λ (y : ℕ). y ∷ x / 2 ^ 16 % 256 ∷ x / 2 ^ 8 % 256 ∷ x % 256 ∷ []) e
    ∙ ap (λ (y : ℕ). a ∷ y ∷ x / 2 ^ 8 % 256 ∷ x % 256 ∷ []) f
    ∙ ap (λ (y : ℕ). a ∷ b ∷ y ∷ x % 256 ∷ []) g
    ∙ ap (λ (y : ℕ). a ∷ b ∷ c ∷ y ∷ []) l

-- a word spells the bytes that stand there
pub word_bytes-word_at : (m : List ℕ) (at : ℕ) → AreBytes m → at + 4 ≤ length m → word_bytes (word_at m at) ≡ take 4 (drop at m)
word_bytes-word_at m at h i =
    spelled (get_or m at 0) (get_or m (at + 1) 0) (get_or m (at + 2) 0) (get_or m (at + 3) 0) (h at) (h (at + 1)) (h (at + 2)) (h (at + 3))
    ∙ sym (take_four m at i)

-- what the code's words are
pub ruleset words = (big_number-word_at, big_bytes-word_bytes)
