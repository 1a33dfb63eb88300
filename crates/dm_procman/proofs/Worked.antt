-- The definitions of the manager's bytes, computed on worked bytes.
use Rattle.dm_procman.proofs.Names.{◌≡◌, ℕ, false, List, [], ◌∷◌, ◌++◌, None, Some, refl, Option, Result, Ok, Err, Managing}
use Rattle.std.proofs.Common.{slice_set}
use Rattle.dm_link.specs.declared.Kind.TheVariants.{Reply}
use Rattle.dm_onekernel.specs.declared.request.PendingKind.TheVariants as wanted
use Rattle.dm_statebytes.specs.declared.StateBytesError.{StateBytesError}
use Rattle.dm_statebytes.specs.declared.StateBytesError.TheVariants as carry
use Rattle.dm_procman.specs.Packed.{manager_of_bytes, manager_spelling}

-- a manager of two machines and five images, which has sent seven messages and moved three times. Its children are 0.3, and 1.3,
-- which is at machine 0 after two moves; the switchboard is at machine 1 after one move. A request to make a process waits, to be
-- answered over a reply link to 0.3, and one to move a child, which nobody is told of
abbrev busy : Managing
busy = record {
  children = record { pid = record { home = 0; num = 3 }; at = 0; moves = 0 } ∷ record { pid = record { home = 1; num = 3 }; at = 0; moves = 2 } ∷ [];
  pending =
      record { n = 4; kind = wanted.Create; answer = Some (record { addr = record { pid = record { home = 0; num = 3 }; at = 0; moves = 0 }; kind = Reply; to_kernel = false; code = 9; channel = 3; area = record { base = 0; len = 0; read = false; write = false } }) }
      ∷ record { n = 6; kind = wanted.Move; answer = None } ∷ [];
  board = record { pid = record { home = 0; num = 1 }; at = 1; moves = 1 };
  sent = 7;
  moves = 3;
  machines = 2;
  images = 5;
}

abbrev busy_bytes : List ℕ
busy_bytes =
    (4 ∷ 0 ∷ 0 ∷ 0 ∷ 0 ∷ 2 ∷ 0 ∷ 0 ∷ 0 ∷ 7 ∷ 0 ∷ 0 ∷ 0 ∷ 3 ∷ 0 ∷ 0 ∷ 0 ∷ 2 ∷ [])
    ++ (0 ∷ 0 ∷ 0 ∷ 0 ∷ 3 ∷ 0 ∷ 0 ∷ 0 ∷ 0 ∷ 0 ∷ 1 ∷ 0 ∷ 0 ∷ 0 ∷ 3 ∷ 0 ∷ 0 ∷ 0 ∷ 0 ∷ 2 ∷ [])
    ++ (0 ∷ 0 ∷ 0 ∷ 0 ∷ 1 ∷ 1 ∷ 0 ∷ 0 ∷ 0 ∷ 1 ∷ 0 ∷ 0 ∷ 0 ∷ 2 ∷ [])
    ++ (0 ∷ 0 ∷ 0 ∷ 4 ∷ 0 ∷ 1 ∷ 0 ∷ 0 ∷ 0 ∷ 0 ∷ 3 ∷ 0 ∷ 0 ∷ 0 ∷ 0 ∷ 0 ∷ 1 ∷ 0 ∷ 0 ∷ 0 ∷ 9 ∷ 3 ∷ 0 ∷ 0 ∷ 0 ∷ 0 ∷ 0 ∷ 0 ∷ 0 ∷ 0 ∷ [])
    ++ (0 ∷ 0 ∷ 0 ∷ 6 ∷ 1 ∷ 0 ∷ [])

pub busy_is_spelled : manager_spelling busy ≡ busy_bytes
unfolding manager_spelling
busy_is_spelled = refl

pub busy_is_read : manager_of_bytes 2 5 busy_bytes ≡ Ok busy
unfolding manager_of_bytes
busy_is_read = refl

-- the rule that the bytes break with another byte at a place
abbrev rule_in : Result Managing StateBytesError → Option StateBytesError
rule_in (Ok g) = None
rule_in (Err rule) = Some rule

abbrev broken_with : ℕ → ℕ → Option StateBytesError
broken_with at_ byte = rule_in (manager_of_bytes 2 5 (slice_set busy_bytes at_ byte))

-- the version, another process, the first child's home, and the address of the switchboard, which is one of it
pub addresses_with_a_byte_changed :
    (broken_with 0 3
    ∷ broken_with 5 1
    ∷ broken_with 17 3
    ∷ broken_with 18 16
    ∷ broken_with 42 2
    ∷ broken_with 43 15
    ∷ broken_with 43 16 ∷ [])
    ≡ Some carry.Version ∷ Some carry.Machine ∷ Some carry.Machine ∷ Some carry.Machine ∷ Some carry.Machine ∷ None ∷ Some carry.Machine ∷ []
unfolding manager_of_bytes
addresses_with_a_byte_changed = refl

-- how many requests there are, what they ask for, and whether they have a link
pub requests_with_a_byte_changed :
    (broken_with 51 3
    ∷ broken_with 51 1
    ∷ broken_with 56 1
    ∷ broken_with 56 2
    ∷ broken_with 57 2
    ∷ broken_with 68 2
    ∷ broken_with 86 2
    ∷ broken_with 87 1 ∷ [])
    ≡ Some carry.Missing ∷ Some carry.Trailing ∷ None ∷ Some carry.Flags ∷ Some carry.Flags ∷ Some carry.Flags ∷ Some carry.Flags ∷ Some carry.Missing ∷ []
unfolding manager_of_bytes
requests_with_a_byte_changed = refl
