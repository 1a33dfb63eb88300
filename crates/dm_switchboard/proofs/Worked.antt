-- The definitions of the switchboard's bytes, computed on worked bytes.
use Rattle.dm_switchboard.proofs.Imports.{◌≡◌, ℕ, true, false, List, [], ◌∷◌, ◌++◌, refl, Option, None, Result, Board}
use Rattle.std.specs.declared.option.Option.TheVariants.{Some}
use Rattle.std.specs.declared.result.Result.TheVariants.{Ok, Err}
use Rattle.std.proofs.Common.{slice_set}
use Rattle.dm_link.specs.declared.Kind.TheVariants.{General}
use Rattle.dm_statebytes.specs.declared.StateBytesError.{StateBytesError}
use Rattle.dm_statebytes.specs.declared.StateBytesError.TheVariants as carry
use Rattle.dm_switchboard.specs.Packed.{board_of_bytes, board_spelling}

-- a switchboard that has sent five messages and moved once: 'db' is a link to 0.3, and 'dc' one to 1.4, at machine 2 after one
-- move, with an area that may be read
abbrev two : Board
two = record {
  names =
      record { name = 100 ∷ 98 ∷ []; link = record { addr = record { pid = record { home = 0; num = 3 }; at = 0; moves = 0 }; kind = General; to_kernel = false; code = 7; channel = 1; area = record { base = 0; len = 0; read = false; write = false } } }
      ∷ record { name = 100 ∷ 99 ∷ []; link = record { addr = record { pid = record { home = 1; num = 4 }; at = 2; moves = 1 }; kind = General; to_kernel = false; code = 0; channel = 31; area = record { base = 16; len = 256; read = true; write = false } } }
      ∷ [];
  sent = 5;
  moves = 1;
}

abbrev two_bytes : List ℕ
two_bytes =
    (4 ∷ 0 ∷ 0 ∷ 0 ∷ 0 ∷ 1 ∷ 0 ∷ 0 ∷ 0 ∷ 5 ∷ 0 ∷ 0 ∷ 0 ∷ 1 ∷ 0 ∷ 0 ∷ 0 ∷ 2 ∷ [])
    ++ (2 ∷ 100 ∷ 98 ∷ 0 ∷ 0 ∷ 0 ∷ 0 ∷ 3 ∷ 0 ∷ 0 ∷ 0 ∷ 0 ∷ 0 ∷ 0 ∷ 0 ∷ 0 ∷ 0 ∷ 7 ∷ 1 ∷ 0 ∷ 0 ∷ 0 ∷ 0 ∷ 0 ∷ 0 ∷ 0 ∷ 0 ∷ [])
    ++ (2 ∷ 100 ∷ 99 ∷ 1 ∷ 0 ∷ 0 ∷ 0 ∷ 4 ∷ 2 ∷ 0 ∷ 0 ∷ 0 ∷ 1 ∷ 4 ∷ 0 ∷ 0 ∷ 0 ∷ 0 ∷ 31 ∷ 0 ∷ 0 ∷ 0 ∷ 16 ∷ 0 ∷ 0 ∷ 1 ∷ 0 ∷ [])

pub two_are_spelled : board_spelling two ≡ two_bytes
unfolding board_spelling
two_are_spelled = refl

pub two_are_read : board_of_bytes two_bytes ≡ Ok two
unfolding board_of_bytes
two_are_read = refl

-- no names
pub none_are_read : board_of_bytes (4 ∷ 0 ∷ 0 ∷ 0 ∷ 0 ∷ 1 ∷ 0 ∷ 0 ∷ 0 ∷ 0 ∷ 0 ∷ 0 ∷ 0 ∷ 0 ∷ 0 ∷ 0 ∷ 0 ∷ 0 ∷ []) ≡ Ok (record { names = []; sent = 0; moves = 0 })
unfolding board_of_bytes
none_are_read = refl

-- the rule that the bytes break with another byte at a place
abbrev rule_in : Result Board StateBytesError → Option StateBytesError
rule_in (Ok b) = None
rule_in (Err rule) = Some rule

abbrev broken_with : ℕ → ℕ → Option StateBytesError
broken_with at_ byte = rule_in (board_of_bytes (slice_set two_bytes at_ byte))

-- the version, another machine and another process, a count, and how many names there are
pub front_with_a_byte_changed :
    (broken_with 0 3
    ∷ broken_with 1 16
    ∷ broken_with 1 1
    ∷ broken_with 5 2
    ∷ broken_with 9 6
    ∷ broken_with 17 1
    ∷ broken_with 17 3 ∷ [])
    ≡ Some carry.Version ∷ Some carry.Machine ∷ Some carry.Machine ∷ Some carry.Machine ∷ None ∷ Some carry.Trailing ∷ Some carry.Missing ∷ []
unfolding board_of_bytes
front_with_a_byte_changed = refl

-- the length of a name, the same name again, and the links
pub names_with_a_byte_changed :
    (broken_with 18 0
    ∷ broken_with 18 17
    ∷ broken_with 31 2
    ∷ broken_with 36 32
    ∷ broken_with 47 98
    ∷ broken_with 53 16
    ∷ broken_with 58 16
    ∷ broken_with 69 1 ∷ [])
    ≡ Some carry.Limit ∷ Some carry.Limit ∷ Some carry.Flags ∷ Some carry.Limit ∷ Some carry.Limit ∷ Some carry.Machine ∷ Some carry.Flags ∷ Some carry.Limit ∷ []
unfolding board_of_bytes
names_with_a_byte_changed = refl
