-- What a word of a line may be.
use Rattle.std.specs.Prelude.{ℕ, ◌*◌, ◌%◌, ◌^◌, ◌==◌, nat_le, nat_lt, nat_eq, Bool, not, ◌&&◌, ◌||◌, is_some, List, length, codes}
use Rattle.std.specs.List.{list_all, list_any, ends_with}
use Rattle.std.specs.Str.{bytes_eq}
use Rattle.dm_message.specs.Kinds.{all_kinds, word_of}
use Rattle.dm_reading.specs.Numbers.{read_number}
use Rattle.dm_text.specs.Reading.{read_u8, read_u32, read_u64, read_pid, read_id}
use Rattle.dm_shape.specs.declared.sort.Sort.{Sort}
use Rattle.dm_shape.specs.declared.sort.Sort.TheVariants as sort
use Rattle.dm_shape.specs.Choices.{one_of, words_of}

-- a digit of 0-9 a-f
abbrev pub is_hex_digit : ℕ → Bool
is_hex_digit c = (nat_le 48 c && nat_le c 57) || (nat_le 97 c && nat_le c 102)

-- bytes, two digits each: at least one, and at most so many
abbrev pub spells : ℕ → List ℕ → Bool
spells most word = list_all is_hex_digit word && (length word % 2 == 0) && nat_lt 0 (length word) && nat_le (length word) (2 * most)

-- what stands in a block: 1 to 256 bytes, the last not 0
abbrev pub is_block : List ℕ → Bool
is_block word = spells 256 word && not (ends_with nat_eq word (codes "00"))

-- a word is of a sort, a row a sort
unfoldable pub is_of : Sort → List ℕ → Bool
is_of (sort.Choice choice) word = one_of (words_of choice) word
is_of sort.Machine word = is_some (read_u8 word)
is_of sort.Number word = is_some (read_u32 word)
is_of sort.Packet word = is_some (read_u64 word)
is_of sort.Groups word = is_some (read_number (2 ^ 128) word)
is_of sort.Process word = is_some (read_pid word)
is_of sort.Message word = is_some (read_id word)
is_of sort.Kind word = list_any (λ k. bytes_eq word (word_of k)) all_kinds
is_of sort.Name word = spells 16 word
is_of sort.Block word = is_block word
