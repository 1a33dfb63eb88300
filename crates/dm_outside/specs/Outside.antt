-- What reads and writes do to what a shelf or a sink tells, and to its count of faults.
use Rattle.std.specs.Prelude.{◌≡◌, ℕ, ◌+◌, ◌-◌, ◌<◌, ◌≤◌, ◌⊎◌, List, ◌++◌, length, take, drop, min, ⊤, None, Some, IfOk, IsErr}
use Rattle.std.specs.declared.option.Option.{Option}
use Rattle.std.specs.declared.result.Result.{Result}

-- the count of faults rose, or stands at the greatest u64
abbrev pub RoseOrFull : ℕ → ℕ → Type 0
RoseOrFull old new = (old < new) ⊎ (new ≡ 18446744073709551615)

-- one more, up to the greatest u64
abbrev pub counted : ℕ → ℕ
counted n = min (n + 1) 18446744073709551615

-- n bytes were read from a place of a file's bytes on, and none only at their end or into no room
pub record GivesNext (bytes : List ℕ) (from n : ℕ) (into : List ℕ) : Type 0 where
  pub next : take n into ≡ take n (drop from bytes)
  pub left : n ≤ length bytes - from
  pub ends : n ≡ 0 → 0 < length into → length bytes ≤ from

-- a read from a place of a file on answered with its next bytes or failed, and failed where there is no such file
abbrev pub ReadsFile : {E : Type 0} → Option (List ℕ) → ℕ → Result ℕ E → List ℕ → Type 0
ReadsFile None from r into = IsErr r
ReadsFile (Some bytes) from r into = IfOk r (λ n. GivesNext bytes from n into)

-- a read from a place of a named file on answered by what the shelf tells
abbrev pub ReadsTold : {E : Type 0} → Option (List ℕ → Option (List ℕ)) → List ℕ → ℕ → Result ℕ E → List ℕ → Type 0
ReadsTold None name from r into = ⊤
ReadsTold (Some files) name from r into = ReadsFile (files name) from r into

-- the told bytes of a sink with more at their end
abbrev pub appended : Option (List ℕ) → List ℕ → Option (List ℕ)
appended None more = None
appended (Some bytes) more = Some (bytes ++ more)
