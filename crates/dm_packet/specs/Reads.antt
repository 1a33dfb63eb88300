-- What a reader of the code answers.
use Rattle.std.specs.Prelude.{◌≡◌, ℕ, List, Ok, Err}
use Rattle.std.specs.declared.result.Result.{Result}
use Rattle.arrayvec.specs.ArrayVec.{ArrayVec}
use denote.Ref.{Bor}
use Rattle.dm_packet.specs.declared.PacketError.{PacketError}

-- it is what reading gives: the value and the bytes behind it, or the rule that is broken
abbrev pub Reads : {X : Type 0} → Result (X × Bor (List ℕ)) PacketError → Result (X × List ℕ) PacketError → Type 0
Reads (Ok x) read = read ≡ Ok (x.0, x.1.now)
Reads (Err e) read = read ≡ Err e

-- the same, where the value is a part of the bytes
abbrev pub ReadsSlice : Result (Bor (List ℕ) × Bor (List ℕ)) PacketError → Result (List ℕ × List ℕ) PacketError → Type 0
ReadsSlice (Ok x) read = read ≡ Ok (x.0.now, x.1.now)
ReadsSlice (Err e) read = read ≡ Err e

-- the same, where the value is kept in fixed capacity
abbrev pub ReadsItems : {X : Type 0} → Result (ArrayVec X × Bor (List ℕ)) PacketError → Result (List X × List ℕ) PacketError → Type 0
ReadsItems (Ok x) read = read ≡ Ok (x.0.items, x.1.now)
ReadsItems (Err e) read = read ≡ Err e
