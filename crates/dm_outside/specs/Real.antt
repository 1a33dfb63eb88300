-- What the shelf of real files and the sink over a writer hold, and what reads do to an open file.
use Rattle.std.specs.Prelude.{◌≡◌, ℕ, ◌+◌, ◌<◌, List, length, take, Some, IfSome}
use Rattle.std.specs.declared.option.Option.{Option}
use Rattle.std.specs.Io.KnownBytes.{Consumes, IsAtEnd}

-- a sink over a writer, and how many writes failed
pub record WriterState (W : Type 0) : Type 0 where
  pub to : W
  pub faults : ℕ

-- an open file: its name, what is left of it, and the place of its next byte
pub record OpenFile (F : Type 0) : Type 0 where
  pub name : List ℕ
  pub file : F
  pub place : ℕ

-- a shelf of real files: what opens them, the open one, and how many reads failed
pub record FilesState (R F : Type 0) : Type 0 where
  pub rt : R
  pub opened : Option (OpenFile F)
  pub faults : ℕ

-- n bytes were read from a place of the open file on, which has this name: its next ones, and none only at its end or into
-- no room; its next byte is behind them
pub record GoesOn (F : Type 0) (remaining : F → Option (List ℕ)) (old new : Option (OpenFile F)) (name : List ℕ) (from n : ℕ) (into : List ℕ) : Type 0 where
  pub before : F
  pub after : F
  pub was : old ≡ Some (record { name = name; file = before; place = from })
  pub is : new ≡ Some (record { name = name; file = after; place = from + n })
  pub takes : Consumes (remaining before) (remaining after) (take n into)
  pub ends : n ≡ 0 → 0 < length into → IsAtEnd (remaining after)

-- n bytes were read from a place of a file of this name on: at 0 of one that was opened under it, and elsewhere of the one that
-- was open
pub record ReadsReal (F : Type 0) (remaining : F → Option (List ℕ)) (named : List ℕ → F → Type 0) (old new : Option (OpenFile F)) (name : List ℕ) (from n : ℕ) (into : List ℕ) : Type 0 where
  pub opened : Option (OpenFile F)
  pub begins : from ≡ 0 → IfSome opened (λ o. named name o.file)
  pub same : 0 < from → opened ≡ old
  pub goes_on : GoesOn F remaining opened new name from n into
