-- The definitions, computed on worked bytes.
use Rattle.dm_statebytes.proofs.Names.{◌≡◌, ℕ, true, false, List, [], ◌∷◌, ◌++◌, slice_set, Option, None, Some, Result, Ok, Err, refl, General, Reply, IntoArea, Ready, Waiting, Moving, StateBytesError, Shell, registers, shell_of_bytes}
use Rattle.dm_statebytes.proofs.Names.{shell_spelling}
use Rattle.std.proofs.Common.{replicate}
use Rattle.dm_statebytes.specs.declared.StateBytesError.TheVariants as carry

-- process 0.3 of one block and 32 slots without links, which has not executed anything yet
abbrev fresh : Shell
fresh = record {
  pid = record { home = 0; num = 3 };
  blocks = 1;
  stopped = false;
  status = Ready;
  sent = 0;
  moves = 0;
  regs = record { r = replicate 16 0; pc = 0 };
  table = replicate 32 None;
}

abbrev fresh_bytes : List ℕ
fresh_bytes = (3 ∷ 0 ∷ 0 ∷ 0 ∷ 0 ∷ 3 ∷ 0 ∷ 1 ∷ 0 ∷ 0 ∷ 0 ∷ 0 ∷ 0 ∷ 0 ∷ []) ++ replicate 88 0

pub fresh_is_spelled : shell_spelling fresh ≡ fresh_bytes
unfolding registers shell_spelling
fresh_is_spelled = refl

pub fresh_is_read : shell_of_bytes fresh_bytes 32 ≡ Ok fresh
unfolding registers shell_of_bytes
fresh_is_read = refl

-- process 1.7 of two blocks, stopped in the middle of a data move into an area of 2.3, which was last at machine 5; slot 1
-- holds a reply link to 0.3 at machine 1 after two moves, with an area that may be read, slot 5 a link to 0.4
abbrev moving : Shell
moving = record {
  pid = record { home = 1; num = 7 };
  blocks = 2;
  stopped = true;
  status = Moving IntoArea (record { pid = record { home = 2; num = 3 }; at = 5; moves = 1 }) 16 496 16 9;
  sent = 4;
  moves = 2;
  regs = record { r = 258 ∷ (replicate 14 0 ++ 255 ∷ []); pc = 8 };
  table =
      None ∷ Some (record { addr = record { pid = record { home = 0; num = 3 }; at = 1; moves = 2 }; kind = Reply; to_kernel = false; code = 7; channel = 31; area = record { base = 16; len = 256; read = true; write = false } })
      ∷ None ∷ None ∷ None ∷ Some (record { addr = record { pid = record { home = 0; num = 4 }; at = 0; moves = 0 }; kind = General; to_kernel = false; code = 0; channel = 0; area = record { base = 0; len = 0; read = false; write = false } })
      ∷ replicate 26 None;
}

abbrev moving_bytes : List ℕ
moving_bytes =
    (3 ∷ 1 ∷ 0 ∷ 0 ∷ 0 ∷ 7 ∷ 0 ∷ 2 ∷ 1 ∷ 2 ∷ 1 ∷ 2 ∷ 0 ∷ 0 ∷ 0 ∷ 3 ∷ 5 ∷ 0 ∷ 0 ∷ 0 ∷ 1 ∷ 0 ∷ 0 ∷ 0 ∷ 16 ∷ 0 ∷ 0 ∷ 1 ∷ 240 ∷ 0 ∷ 0 ∷ 0 ∷ 16 ∷ 0 ∷ 0 ∷ 0 ∷ 9 ∷ 0 ∷ 0 ∷ 0 ∷ 4 ∷ 0 ∷ 0 ∷ 0 ∷ 2 ∷ [])
    ++ (0 ∷ 0 ∷ 1 ∷ 2 ∷ 0 ∷ 0 ∷ 0 ∷ 0 ∷ 0 ∷ 0 ∷ 0 ∷ 0 ∷ 0 ∷ 0 ∷ 0 ∷ 0 ∷ 0 ∷ 0 ∷ 0 ∷ 0 ∷ 0 ∷ 0 ∷ 0 ∷ 0 ∷ 0 ∷ 0 ∷ 0 ∷ 0 ∷ 0 ∷ 0 ∷ 0 ∷ 0 ∷ 0 ∷ 0 ∷ 0 ∷ 0 ∷ 0 ∷ 0 ∷ 0 ∷ 0 ∷ 0 ∷ 0 ∷ 0 ∷ 0 ∷ 0 ∷ 0 ∷ 0 ∷ 0 ∷ 0 ∷ 0 ∷ 0 ∷ 0 ∷ 0 ∷ 0 ∷ 0 ∷ 0 ∷ 0 ∷ 0 ∷ 0 ∷ 0 ∷ 0 ∷ 0 ∷ 0 ∷ 255 ∷ 0 ∷ 0 ∷ 0 ∷ 8 ∷ 0 ∷ 0 ∷ 0 ∷ 0 ∷ 0 ∷ 0 ∷ 0 ∷ 0 ∷ 0 ∷ 0 ∷ 0 ∷ 0 ∷ 0 ∷ 0 ∷ 0 ∷ 34 ∷ [])
    ++ (0 ∷ 0 ∷ 0 ∷ 0 ∷ 3 ∷ 1 ∷ 0 ∷ 0 ∷ 0 ∷ 2 ∷ 5 ∷ 0 ∷ 0 ∷ 0 ∷ 7 ∷ 31 ∷ 0 ∷ 0 ∷ 0 ∷ 16 ∷ 0 ∷ 0 ∷ 1 ∷ 0 ∷ 0 ∷ 0 ∷ 0 ∷ 0 ∷ 4 ∷ 0 ∷ 0 ∷ 0 ∷ 0 ∷ 0 ∷ 0 ∷ 0 ∷ 0 ∷ 0 ∷ 0 ∷ 0 ∷ 0 ∷ 0 ∷ 0 ∷ 0 ∷ 0 ∷ 0 ∷ 0 ∷ 0 ∷ [])

pub moving_is_spelled : shell_spelling moving ≡ moving_bytes
unfolding registers shell_spelling
moving_is_spelled = refl

pub moving_is_read : shell_of_bytes moving_bytes 32 ≡ Ok moving
unfolding registers shell_of_bytes
moving_is_read = refl

-- the rule that the bytes break with another byte at a place
abbrev rule_in : Result Shell StateBytesError → Option StateBytesError
rule_in (Ok s) = None
rule_in (Err d) = Some d

abbrev broken_with : List ℕ → ℕ → ℕ → Option StateBytesError
broken_with bytes at_ byte = rule_in (shell_of_bytes (slice_set bytes at_ byte) 32)

-- the version, the name, the blocks, whether it is stopped, the status, and the mask
pub fresh_with_a_byte_changed :
    (broken_with fresh_bytes 0 2
    ∷ broken_with fresh_bytes 0 4
    ∷ broken_with fresh_bytes 1 15
    ∷ broken_with fresh_bytes 1 16
    ∷ broken_with fresh_bytes 6 1
    ∷ broken_with fresh_bytes 7 0
    ∷ broken_with fresh_bytes 8 1
    ∷ broken_with fresh_bytes 8 2
    ∷ broken_with fresh_bytes 9 3
    ∷ broken_with fresh_bytes 97 1
    ∷ broken_with fresh_bytes 98 128 ∷ [])
    ≡ Some carry.Version ∷ Some carry.Version ∷ None ∷ Some carry.Machine ∷ Some carry.Limit ∷ Some carry.Limit ∷ None ∷ Some carry.Flags ∷ Some carry.Flags ∷ Some carry.Limit ∷ Some carry.Missing ∷ []
unfolding registers shell_of_bytes
fresh_with_a_byte_changed = refl

-- the direction, the owner, the piece, and the first link's flags, channel and area
pub moving_with_a_byte_changed :
    (broken_with moving_bytes 10 0
    ∷ broken_with moving_bytes 10 2
    ∷ broken_with moving_bytes 11 16
    ∷ broken_with moving_bytes 16 16
    ∷ broken_with moving_bytes 22 1
    ∷ broken_with moving_bytes 28 241
    ∷ broken_with moving_bytes 32 0
    ∷ broken_with moving_bytes 32 17
    ∷ broken_with moving_bytes 139 2
    ∷ broken_with moving_bytes 139 16
    ∷ broken_with moving_bytes 144 32
    ∷ broken_with moving_bytes 146 1 ∷ [])
    ≡ None ∷ Some carry.Flags ∷ Some carry.Machine ∷ Some carry.Machine ∷ Some carry.Limit ∷ Some carry.Limit ∷ Some carry.Limit ∷ Some carry.Limit ∷ Some carry.Flags ∷ Some carry.Flags ∷ Some carry.Limit ∷ Some carry.Limit ∷ []
unfolding registers shell_of_bytes
moving_with_a_byte_changed = refl

-- the fresh process where it waits for a message on one of five channels, into the last 184 bytes of its block
abbrev waiting : Shell
waiting = record fresh { status = Waiting 16909060 72 184 }

abbrev waiting_bytes : List ℕ
waiting_bytes = (3 ∷ 0 ∷ 0 ∷ 0 ∷ 0 ∷ 3 ∷ 0 ∷ 1 ∷ 0 ∷ 1 ∷ 1 ∷ 2 ∷ 3 ∷ 4 ∷ 0 ∷ 0 ∷ 0 ∷ 72 ∷ 0 ∷ 0 ∷ 0 ∷ 184 ∷ []) ++ replicate 92 0

pub waiting_is_spelled : shell_spelling waiting ≡ waiting_bytes
unfolding registers shell_spelling
waiting_is_spelled = refl

pub waiting_is_read : shell_of_bytes waiting_bytes 32 ≡ Ok waiting
unfolding registers shell_of_bytes
waiting_is_read = refl

-- the buffer's beginning and its size
pub waiting_with_a_byte_changed :
    (broken_with waiting_bytes 10 255
    ∷ broken_with waiting_bytes 17 73
    ∷ broken_with waiting_bytes 21 185
    ∷ broken_with waiting_bytes 21 183 ∷ [])
    ≡ None ∷ Some carry.Limit ∷ Some carry.Limit ∷ None ∷ []
unfolding registers shell_of_bytes
waiting_with_a_byte_changed = refl
