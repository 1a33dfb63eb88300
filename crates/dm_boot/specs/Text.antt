-- Names, and the bytes of an image's text.
use Rattle.std.specs.Prelude.{ℕ, ◌&&◌, ◌||◌, Bool, nat_le, List, length, codes}
use Rattle.std.specs.List.{list_all}
use Rattle.std.specs.Str.{bytes_eq}
use Rattle.std.specs.declared.option.Option.{Option}
use Rattle.std.specs.Result.{result_ok}
use Rattle.dm_asm.specs.Assembled.{assembled}
use Rattle.dm_asm.specs.Numbers.{is_name_part}

-- a name has 1 to 16 of `a` to `z`, `0` to `9` and `_`
abbrev pub is_boot_name : List ℕ → Bool
is_boot_name name = (nat_le 1 (length name) && nat_le (length name) 16) && list_all is_name_part name

-- the names of the servers
abbrev pub is_switchboard : List ℕ → Bool
is_switchboard name = bytes_eq name (codes "switchboard")

abbrev pub is_manager : List ℕ → Bool
is_manager name = bytes_eq name (codes "manager")

unfoldable pub is_server_name : List ℕ → Bool
is_server_name name = is_switchboard name || is_manager name

-- the bytes of an image: what the assembler makes of its text
unfoldable pub bytes_of_image : List ℕ → Option (List ℕ)
bytes_of_image text = result_ok (assembled text)
