-- Numbers, digit by digit.
use Rattle.std.specs.Prelude.{ℕ, Bool, ◌&&◌, nat_le, ◌+◌, ◌-◌, ◌*◌, if◌then◌else◌, Option, Some, None, List, [], ◌∷◌}
use Rattle.std.specs.Option.{option_and_then}
use Rattle.dm_reading.specs.declared.numbers.Base.{Base}
use Rattle.dm_reading.specs.declared.numbers.Base.TheVariants.{Ten, Sixteen}

-- a decimal digit
abbrev pub is_digit : ℕ → Bool
is_digit c = nat_le 48 c && nat_le c 57

-- the value of a digit
abbrev pub digit : Base → ℕ → Option ℕ
digit Ten c = if is_digit c then Some (c - 48) else None
digit Sixteen c =
    if is_digit c then Some (c - 48)
    else (if nat_le 97 c && nat_le c 102 then Some (c - 87)
    else (if nat_le 65 c && nat_le c 70 then Some (c - 55) else None))

abbrev pub base_of : Base → ℕ
base_of Ten = 10
base_of Sixteen = 16

-- the number that begins with n and goes on with these digits
abbrev pub digits_after : Base → ℕ → List ℕ → Option ℕ
digits_after base n [] = Some n
digits_after base n (c ∷ cs) = option_and_then (λ d. digits_after base (base_of base * n + d) cs) (digit base c)
