-- Numbers, registers and names as they are written.
use Rattle.std.specs.Prelude.{ℕ, Bool, ◌==◌, ◌&&◌, ◌||◌, nat_lt, nat_le, ◌+◌, ◌-◌, if◌then◌else◌, not, Option, Some, None, List, [], ◌∷◌, codes, length, drop, slice_index}
use Rattle.std.specs.List.{list_all}
use Rattle.std.specs.Option.{is_some}
use Rattle.std.specs.Str.{bytes_eq}
use Rattle.dm_asm.specs.Texts.{is_printed}
use Rattle.dm_reading.specs.Digits.{digits_after, is_digit}
use Rattle.dm_reading.specs.Numbers.{number_after}
use Rattle.dm_reading.specs.declared.numbers.Base.TheVariants.{Sixteen}

-- whether a word begins with 0x and has more
abbrev pub is_hex : List ℕ → Bool
is_hex word = (slice_index word 0 == 48) && (slice_index word 1 == 120) && nat_lt 2 (length word)

-- whether a word is a printed byte between apostrophes
abbrev pub is_character : List ℕ → Bool
is_character word = (length word == 3) && (slice_index word 0 == 39) && (slice_index word 2 == 39) && is_printed (slice_index word 1)

-- the number that a word is: decimal digits, 0x and hexadecimal ones, or a character, which is its byte
unfoldable pub literal_value : List ℕ → Option ℕ
literal_value word =
    if is_character word then Some (slice_index word 1)
    else (if is_hex word then digits_after Sixteen 0 (drop 2 word) else (if length word == 0 then None else number_after 0 word))

-- the register that a word names: r0 to r15
abbrev pub register_of : List ℕ → Option ℕ
register_of (r ∷ d ∷ []) = if (r == 114) && is_digit d then Some (d - 48) else None
register_of (r ∷ t ∷ d ∷ []) =
    if (r == 114) && (t == 49) && nat_le 48 d && nat_le d 53 then Some (10 + (d - 48)) else None
register_of _ = None

-- a small letter, a digit or an underscore
abbrev pub is_name_part : ℕ → Bool
is_name_part c = (nat_le 97 c && nat_le c 122) || is_digit c || (c == 95)

-- a label: 1 to 16 of these, the first no digit, and no register
abbrev pub is_label_name : List ℕ → Bool
is_label_name word =
    nat_lt 0 (length word) && nat_le (length word) 16 && not (is_digit (slice_index word 0)) && list_all is_name_part word && not (is_some (register_of word))

-- whether a word that may be a label is one: it begins with a letter or an underscore
abbrev pub begins_name : List ℕ → Bool
begins_name word =
    let c = slice_index word 0 in (nat_le 97 c && nat_le c 122) || (nat_le 65 c && nat_le c 90) || (c == 95)

-- a number that .align takes: 1 to 65,536
abbrev pub is_multiple : ℕ → Bool
is_multiple n = nat_le 1 n && nat_le n 65536

-- the number of the call that a word names
unfoldable pub call_named : List ℕ → Option ℕ
call_named word =
    if bytes_eq word (codes "EXIT") then Some 1
    else (if bytes_eq word (codes "OUT") then Some 2
    else (if bytes_eq word (codes "MAKE") then Some 3
    else (if bytes_eq word (codes "COPY") then Some 4
    else (if bytes_eq word (codes "DROP") then Some 5
    else (if bytes_eq word (codes "SEND") then Some 6
    else (if bytes_eq word (codes "RECEIVE") then Some 7
    else (if bytes_eq word (codes "MOVE") then Some 8 else None)))))))
