-- What a sink took of some bytes.
use Rattle.std.specs.Prelude.{◌≡◌, ℕ, ◌<◌, ◌⊎◌, List, length, take}
use Rattle.std.specs.declared.option.Option.{Option}
use Rattle.dm_outside.specs.Outside.{RoseOrFull, appended}

-- fewer than all of these bytes were appended, from the first on
pub record IsCutShort (old : Option (List ℕ)) (bytes : List ℕ) (new : Option (List ℕ)) : Type 0 where
  pub count : ℕ
  pub fewer : count < length bytes
  pub taken : new ≡ appended old (take count bytes)

-- all these bytes were appended and no call failed; or fewer were, and the last call failed: nothing was offered behind it
abbrev pub Written : Option (List ℕ) → List ℕ → Option (List ℕ) → ℕ → ℕ → Type 0 → Type 0
Written old bytes new faults_before faults_after last_failed =
    ((new ≡ appended old bytes) × (faults_after ≡ faults_before)) ⊎ (IsCutShort old bytes new × RoseOrFull faults_before faults_after × last_failed)
