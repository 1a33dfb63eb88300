-- What a shelf and a sink in memory hold, and what their calls answer.
use Rattle.std.specs.Prelude.{ℕ, ◌-◌, ◌<◌, ◌==◌, ◌&&◌, ◌||◌, Bool, true, min, List, [], ◌∷◌, ◌++◌, length, take, map, None, Some, is_none, IfSome, nat_lt, if◌then◌else◌, Vec, String, string_bytes}
use Rattle.std.specs.List.{list_any}
use Rattle.std.specs.Str.{bytes_eq}
use Rattle.std.specs.declared.option.Option.{Option}
use Rattle.dm_outside.specs.Outside.{counted}

-- a shelf in memory: its files by name, the calls that are to fail, the most bytes of a call, and the calls and faults so far
pub record ShelfState : Type 0 where
  pub files : List (List ℕ × List ℕ)
  pub fails : List ℕ
  pub limit : Option ℕ
  pub calls : ℕ
  pub faults : ℕ

-- a sink in memory: its bytes, how many it has room for, the calls that are to fail, the most bytes of a call, and the calls and faults so far
pub record SinkState : Type 0 where
  pub bytes : List ℕ
  pub room : ℕ
  pub fails : List ℕ
  pub limit : Option ℕ
  pub calls : ℕ
  pub faults : ℕ

-- the names and the bytes of files
abbrev pub entries : {A B : Type 0} → List (String A × Vec ℕ B) → List (List ℕ × List ℕ)
entries files = map (λ f. (string_bytes f.0, f.1.items)) files

-- the bytes of the first file of this name
abbrev pub file_named : List (List ℕ × List ℕ) → List ℕ → Option (List ℕ)
file_named [] name = None
file_named (f ∷ files) name = if bytes_eq f.0 name then Some f.1 else file_named files name

-- no two files have one name
abbrev pub names_differ : List (List ℕ × List ℕ) → Bool
names_differ [] = true
names_differ (f ∷ files) = is_none (file_named files f.0) && names_differ files

-- a call's number is among those that are to fail
abbrev pub is_listed : List ℕ → ℕ → Bool
is_listed fails call = list_any (λ k. k == call) fails

-- a limit lets at least one byte pass
abbrev pub LetsPass : Option ℕ → Type 0
LetsPass limit = IfSome limit (λ most. 0 < most)

-- n, or the limit where that is less
abbrev pub within_limit : Option ℕ → ℕ → ℕ
within_limit None n = n
within_limit (Some most) n = min most n

-- how many bytes of a file a read moves from a place on
abbrev pub moved : Option ℕ → ℕ → ℕ → Option (List ℕ) → Option ℕ
moved limit from room None = None
moved limit from room (Some bytes) = Some (within_limit limit (min (length bytes - from) room))

-- how many bytes the next read moves: None where it fails, at a listed call or for a missing file
abbrev pub read_count : ShelfState → List ℕ → ℕ → ℕ → Option ℕ
read_count s name from room =
    if is_listed s.fails (counted s.calls) then None else moved s.limit from room (file_named s.files name)

-- the shelf after a read: one more call, and one more fault where it failed
abbrev pub after_read : ShelfState → Bool → ShelfState
after_read s failed = record {
  files = s.files;
  fails = s.fails;
  limit = s.limit;
  calls = counted s.calls;
  faults = if failed then counted s.faults else s.faults;
}

-- how many bytes of a piece the next write takes: None where it fails, at a listed call or for want of room
abbrev pub write_count : SinkState → ℕ → Option ℕ
write_count s len =
    if is_listed s.fails (counted s.calls) || ((s.room - length s.bytes == 0) && nat_lt 0 len) then None
    else Some (within_limit s.limit (min (s.room - length s.bytes) len))

-- the bytes that a sink has after a write of a piece: the first n more, or the same where it failed
abbrev pub bytes_after : List ℕ → Option ℕ → List ℕ → List ℕ
bytes_after bytes None from = bytes
bytes_after bytes (Some n) from = bytes ++ take n from

-- the sink after a write of a piece: one more call, and the taken bytes, or one more fault where it failed
abbrev pub after_write : SinkState → Option ℕ → List ℕ → SinkState
after_write s count from = record {
  bytes = bytes_after s.bytes count from;
  room = s.room;
  fails = s.fails;
  limit = s.limit;
  calls = counted s.calls;
  faults = if is_none count then counted s.faults else s.faults;
}
