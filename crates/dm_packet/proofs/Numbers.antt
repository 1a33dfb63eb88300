-- Numbers as bytes, the highest first: what bytes read as spells those bytes.
use Rattle.dm_packet.proofs.Names.{◌/◌, ◌%◌, ◌≡◌, ℕ, zero, suc, ◌+◌, ◌*◌, ◌^◌, ◌<◌, ◌≤◌, List, [], ◌∷◌, length, take, drop, get_or, refl, sym, ap, ◌∙◌, arith, div-one, mod-eq_of_lt, mul-add-div_right, mul-add-mod_self_right}
use Rattle.dm_packet.proofs.Names.{mul_assoc, one-le-pow, pow-succ', get_or-drop, div-mul-add, byte_at, bytes_high_first, big_bytes, big_from, big_number, big_from-cons, big_from-lt}

abbrev pub IsBytes : List ℕ → Type 0
IsBytes bytes = (i : ℕ) → get_or bytes i 0 < 256

pub IsBytes-drop : (n : ℕ) (bytes : List ℕ) → IsBytes bytes → IsBytes (drop n bytes)
IsBytes-drop n bytes h i = rw get_or-drop (h (n + i))

byte_at_place : (k x : ℕ) → byte_at k x ≡ x / 256 ^ k % 256
byte_at_place zero x = ap (λ (y : ℕ). y % 256) (sym (div-one x))
byte_at_place (suc k) x = refl

above_zero : (n : ℕ) → zero < 256 ^ n
above_zero n = let h = one-le-pow n 256 (omega arith) in omega arith

-- what stands above the lowest n bytes doesn't show in them
of_low : (n a r : ℕ) → bytes_high_first n (a * 256 ^ n + r) ≡ bytes_high_first n r
of_low zero a r = refl
of_low (suc n) a r =
    let whole : a * 256 ^ suc n + r ≡ (a * 256) * 256 ^ n + r = ap (λ (p : ℕ). a * p + r) (pow-succ' 256 n) ∙ ap (λ (p : ℕ). p + r) (sym (mul_assoc a 256 (256 ^ n))) in
    let first : byte_at n (a * 256 ^ suc n + r) ≡ byte_at n r =
    byte_at_place n (a * 256 ^ suc n + r)
    ∙ ap (λ (x : ℕ). x / 256 ^ n % 256) whole
    ∙ ap (λ (x : ℕ). x % 256) (mul-add-div_right (above_zero n) (a * 256) r)
    ∙ mul-add-mod_self_right a 256 (r / 256 ^ n)
    ∙ sym (byte_at_place n r) in
    let others : bytes_high_first n (a * 256 ^ suc n + r) ≡ bytes_high_first n r = ap (bytes_high_first n) whole ∙ of_low n (a * 256) r in
    λ i. first i ∷ others i

-- the bytes of the number that the first n bytes read as are those bytes
pub bytes_of_number : (n : ℕ) (bytes : List ℕ) → IsBytes bytes → n ≤ length bytes → big_bytes n (big_number n bytes) ≡ take n bytes
bytes_of_number zero bytes h le = refl
bytes_of_number (suc n) [] h le = absurd (omega arith)
bytes_of_number (suc n) (b ∷ bytes) h le =
    let low = big_from 0 n bytes in
    let moved : big_number (suc n) (b ∷ bytes) ≡ b * 256 ^ n + low = ap (λ (r : ℕ). b * 256 ^ n + r) (big_from-cons 0 n b bytes) in
    let small : low < 256 ^ n = big_from-lt 0 n bytes (λ k. h (suc k)) in
    let first : byte_at n (b * 256 ^ n + low) ≡ b =
    byte_at_place n (b * 256 ^ n + low)
    ∙ ap (λ (x : ℕ). x % 256) (div-mul-add b (256 ^ n) low small)
    ∙ mod-eq_of_lt (h 0) in
    let others : bytes_high_first n (b * 256 ^ n + low) ≡ take n bytes = of_low n b low ∙ bytes_of_number n bytes (λ k. h (suc k)) (omega arith) in
    ap (big_bytes (suc n)) moved ∙ (λ i. first i ∷ others i)
