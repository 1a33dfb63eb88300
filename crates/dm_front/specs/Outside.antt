-- What is outside a call of the program: a shelf and a sink, as the call begins and as it ends.
use Rattle.std.specs.Prelude.{◌≡◌, ℕ, List}
use Rattle.std.specs.declared.option.Option.{Option}
use Rattle.std.specs.declared.option.Option.TheVariants.{None}
use Rattle.dm_world.specs.declared.world.World.{World}
use Rattle.dm_outside.specs.Outside.{RoseOrFull}
use Rattle.dm_ending.specs.declared.status.Status.{Status}

-- a shelf around a call: what its trait says of its states, and the two of them
pub record ShelfAround (F : Type 0) : Type 1 where
  pub asked : F → List ℕ → F → Type 0
  pub told : F → Option (List ℕ → Option (List ℕ))
  pub faults : F → ℕ
  pub last_failed : F → Type 0
  pub old : F
  pub new : F

-- a sink around a call
pub record SinkAround (K : Type 0) : Type 1 where
  pub told : K → Option (List ℕ)
  pub faults : K → ℕ
  pub last_failed : K → Type 0
  pub old : K
  pub new : K

-- both
pub record Around (F K : Type 0) : Type 1 where
  pub shelf : ShelfAround F
  pub sink : SinkAround K

abbrev pub shelf_around : {F : Type 0} → (F → List ℕ → F → Type 0) → (F → Option (List ℕ → Option (List ℕ))) → (F → ℕ) → (F → Type 0) → F → F → ShelfAround F
shelf_around asked told faults last_failed old new = record { asked = asked; told = told; faults = faults; last_failed = last_failed; old = old; new = new }

abbrev pub sink_around : {K : Type 0} → (K → Option (List ℕ)) → (K → ℕ) → (K → Type 0) → K → K → SinkAround K
sink_around told faults last_failed old new = record { told = told; faults = faults; last_failed = last_failed; old = old; new = new }

abbrev pub around : {F K : Type 0} → ShelfAround F → SinkAround K → Around F K
around shelf sink = record { shelf = shelf; sink = sink }

-- nothing was read or written, and no world is left
pub record Untouched {F K : Type 0} (a : Around F K) (world : Option World) : Type 0 where
  pub unread : a.shelf.new ≡ a.shelf.old
  pub unwritten : a.sink.new ≡ a.sink.old
  pub no_world : world ≡ None

-- what the shelf tells, and how many reads failed before and after the call; what the sink tells before and after it, and how
-- many writes failed; and the world that it leaves
pub record Outside : Type 0 where
  pub files : Option (List ℕ → Option (List ℕ))
  pub reads_before : ℕ
  pub reads_after : ℕ
  pub before : Option (List ℕ)
  pub after : Option (List ℕ)
  pub writes_before : ℕ
  pub writes_after : ℕ
  pub world : Option World

abbrev pub outside : {F K : Type 0} → Around F K → Option World → Outside
outside a world = record {
  files = a.shelf.told a.shelf.old;
  reads_before = a.shelf.faults a.shelf.old;
  reads_after = a.shelf.faults a.shelf.new;
  before = a.sink.told a.sink.old;
  after = a.sink.told a.sink.new;
  writes_before = a.sink.faults a.sink.old;
  writes_after = a.sink.faults a.sink.new;
  world = world;
}

-- no read failed
abbrev pub NeverReadsBadly : Outside → Type 0
NeverReadsBadly o = RoseOrFull o.reads_before o.reads_after → ⊥

-- and no write
pub record NeverFails (o : Outside) : Type 0 where
  pub reads : RoseOrFull o.reads_before o.reads_after → ⊥
  pub writes : RoseOrFull o.writes_before o.writes_after → ⊥

-- nothing was done, for a reason that there is where the count of failed reads goes from the one number to the other: nothing was
-- written, and no world is left
pub record Never (Why : ℕ → ℕ → Status → Type 0) (o : Outside) (s : Status) : Type 0 where
  pub why : Why o.reads_before o.reads_after s
  pub nothing : o.after ≡ o.before
  pub no_world : o.world ≡ None
