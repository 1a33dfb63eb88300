-- What a shelf tells of a file, read whole.
use Rattle.std.specs.Prelude.{◌≡◌, ℕ, ◌<◌, ◌≤◌, ⊤, List, [], ◌++◌, length, drop}
use Rattle.std.specs.declared.option.Option.{Option}
use Rattle.std.specs.declared.option.Option.TheVariants.{None, Some}
use Rattle.std.specs.declared.result.Result.{Result}
use Rattle.std.specs.declared.result.Result.TheVariants.{Ok, Err}
use Rattle.dm_outside.specs.Outside.{RoseOrFull}
use Rattle.dm_front.specs.declared.read.ReadError.{ReadError}
use Rattle.dm_front.specs.declared.read.ReadError.TheVariants as no
use Rattle.dm_front.specs.Outside.{ShelfAround}

-- the file of this name has these bytes, where the shelf tells
abbrev pub IsFile : Option (List ℕ → Option (List ℕ)) → List ℕ → List ℕ → Type 0
IsFile None name bytes = ⊤
IsFile (Some files) name bytes = files name ≡ Some bytes

-- the file of this name has more bytes than this, where the shelf tells
abbrev pub IsLonger : Option (List ℕ → Option (List ℕ)) → List ℕ → ℕ → Type 0
IsLonger None name most = ⊤
IsLonger (Some files) name most = (bytes : List ℕ) × (files name ≡ Some bytes) × (most < length bytes)

-- a file begins with these bytes; none were read yet of one that isn't there
abbrev pub StartsSo : Option (List ℕ) → List ℕ → Type 0
StartsSo None bytes = bytes ≡ []
StartsSo (Some content) bytes = content ≡ bytes ++ drop (length bytes) content

-- the file of this name begins with these bytes, where the shelf tells
abbrev pub SoFar : Option (List ℕ → Option (List ℕ)) → List ℕ → List ℕ → Type 0
SoFar None name bytes = ⊤
SoFar (Some files) name bytes = StartsSo (files name) bytes

-- the count of faults is as it was, unless a read is blamed: then it rose
abbrev pub BlamesRead : {A : Type 0} → ℕ → ℕ → Result A ReadError → Type 0
BlamesRead old new (Ok _) = new ≡ old
BlamesRead old new (Err no.Fault) = RoseOrFull old new
BlamesRead old new (Err (no.NoMemory lack)) = new ≡ old
BlamesRead old new (Err no.TooLong) = new ≡ old

-- and that read was the last
abbrev pub FailsLast : {A : Type 0} → Type 0 → Result A ReadError → Type 0
FailsLast last_failed (Ok _) = ⊤
FailsLast last_failed (Err no.Fault) = last_failed
FailsLast last_failed (Err (no.NoMemory lack)) = ⊤
FailsLast last_failed (Err no.TooLong) = ⊤

-- what reads of the file of this name promise of the shelf: no other is asked for
pub record MeetsReads {F A : Type 0} (name : List ℕ) (f : ShelfAround F) (r : Result A ReadError) : Type 0 where
  pub same : f.told f.new ≡ f.told f.old
  pub blames : BlamesRead (f.faults f.old) (f.faults f.new) r
  pub last : FailsLast (f.last_failed f.new) r
  pub counts : f.faults f.old ≤ f.faults f.new
  pub asks : f.asked f.old name f.new
