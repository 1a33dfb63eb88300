-- Bytes in hexadecimal, read back.
use Rattle.dm_text.proofs.Names.{◌≡◌, ℕ, suc, ◌/◌, ◌%◌, ◌^◌, ◌<◌, nat_lt, true, List, [], ◌∷◌, refl, ap, arith, Some, All, nat_tests, hex, hex_digit, hex_value, read_hex, IsByte}
use Rattle.dm_text.proofs.Pieces.{above}

hex_value_back : (n : ℕ) → n < 16 → hex_value (hex_digit n) ≡ Some n
hex_value_back n h = grind (arith, nat_tests)

digit_above : (n : ℕ) → nat_lt 32 (hex_digit n) ≡ true
digit_above n = grind (arith, nat_tests)

pub word_hex : (bs : List ℕ) → above 32 (hex bs) ≡ true
word_hex [] = refl
word_hex (b ∷ bs) = rw (digit_above (b / 16), digit_above (b % 16)) (word_hex bs)

pub read_hex_back : (bs : List ℕ) → All IsByte bs → read_hex (hex bs) ≡ Some bs
unfolding read_hex
read_hex_back [] h = refl
read_hex_back (b ∷ bs) h =
    let first : b < 2 ^ 8 = h 0 b (omega arith) in
    let rest : All IsByte bs = λ k d l. h (suc k) d (omega arith) in
    rw (hex_value_back (b / 16) (omega arith), hex_value_back (b % 16) (omega arith), read_hex_back bs rest) (ap (λ k. Some (k ∷ bs)) (omega arith))
