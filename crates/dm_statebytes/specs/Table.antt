-- The links of a process as bytes: a mask of the slots that hold one, and those links in the order of their slots.
use Rattle.std.specs.Prelude.{ℕ, zero, suc, ◌+◌, ◌*◌, ◌/◌, ◌%◌, ◌^◌, List, [], ◌∷◌, nat_lt, ◌==◌, Option, is_some, Ok}
use Rattle.std.specs.declared.result.Result.{Result}
use Rattle.std.specs.List.{flat_map}
use Rattle.std.specs.Option.{option_map_or}
use Rattle.dm_link.specs.declared.Link.{Link}
use Rattle.dm_packet.specs.declared.PacketError.{PacketError}
use Rattle.dm_packet.specs.declared.PacketError.TheVariants as bad
use Rattle.dm_packet.specs.Field.{Field, ◌>>=◌, number, tested, both, made}
use Rattle.dm_packet.specs.Fields.{bit_of, link}
use Rattle.dm_packet.specs.Whats.{held_if}

-- the number whose bit s is 1 where slot s holds a link
abbrev pub mask_of : List (Option Link) → ℕ
mask_of [] = 0
mask_of (slot ∷ slots) = bit_of (is_some slot) + 2 * mask_of slots

abbrev pub spell_slot : Option Link → List ℕ
spell_slot slot = option_map_or link.spell slot []

-- so many slots, with a link where the mask has a bit, the lowest for the first
abbrev pub read_slots : ℕ → ℕ → List ℕ → Result (List (Option Link) × List ℕ) PacketError
read_slots zero mask bytes = Ok ([], bytes)
read_slots (suc n) mask bytes = (held_if link (mask % 2 == 1)).read bytes >>= λ first. read_slots n (mask / 2) first.1 >>= λ others. Ok (first.0 ∷ others.0, others.1)

abbrev pub slots : ℕ → ℕ → Field (List (Option Link))
slots n mask = record {
  spell = λ slots. flat_map spell_slot slots;
  read = λ bytes. read_slots n mask bytes;
}

-- a mask without a bit above the last slot
abbrev pub mask : ℕ → Field ℕ
mask cap = tested (number 16) (λ m. nat_lt m (2 ^ cap)) bad.Limit

-- a table of so many slots
abbrev pub table : ℕ → Field (List (Option Link))
table cap = made (both (mask cap) (slots cap)) (λ t. t.1) (λ slots. (mask_of slots, slots))
