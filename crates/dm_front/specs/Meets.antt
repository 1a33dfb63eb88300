-- What each command promises of the shelf that it reads and of the sink that it writes.
use Rattle.std.specs.Prelude.{◌≡◌, ◌≤◌}
use Rattle.std.specs.declared.result.Result.{Result}
use Rattle.std.specs.declared.result.Result.TheVariants.{Ok, Err}
use Rattle.dm_ending.specs.declared.status.Input.{Input}
use Rattle.dm_ending.specs.declared.status.Status.{Status}
use Rattle.dm_ending.specs.declared.status.Status.TheVariants.{Done, ReadFault}
use Rattle.dm_ending.specs.Status.{BlamesShelf, BlamesSink, EndsAtRead, EndsAtWrite}
use Rattle.dm_front.specs.Asked.{Asks, Fails, Named}
use Rattle.dm_front.specs.Outside.{Around, ShelfAround, SinkAround}

-- the status of a call that gives something, or ends with a status: it is done, so far
abbrev pub status_so_far : {A : Type 0} → Result A Status → Status
status_so_far (Ok _) = Done
status_so_far (Err s) = s

-- a call that was to read these files has ended with this status. What the shelf tells is as it was. Its count of faults is so too,
-- unless a read is blamed: then it rose, that read was the last, and it was of one of these files
pub record MeetsShelf {F : Type 0} (names : Named) (f : ShelfAround F) (s : Status) : Type 0 where
  pub same : f.told f.new ≡ f.told f.old
  pub blames : BlamesShelf (f.faults f.old) (f.faults f.new) s
  pub last : EndsAtRead (f.last_failed f.new) s
  pub counts : f.faults f.old ≤ f.faults f.new
  pub asks : Asks names f
  pub fails : (i : Input) → s ≡ ReadFault i → Fails names f i

-- and so the sink's count of faults, where a write is blamed
pub record MeetsSink {K : Type 0} (k : SinkAround K) (s : Status) : Type 0 where
  pub blames : BlamesSink (k.faults k.old) (k.faults k.new) s
  pub last : EndsAtWrite (k.last_failed k.new) s
  pub counts : k.faults k.old ≤ k.faults k.new

-- both
pub record MeetsOutside {F K : Type 0} (names : Named) (a : Around F K) (s : Status) : Type 0 where
  pub shelf : MeetsShelf names a.shelf s
  pub sink : MeetsSink a.sink s
