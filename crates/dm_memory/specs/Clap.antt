-- Whether words have matches.
use Rattle.std.specs.Prelude.{◌≡◌, [], Result, Ok, Err}
use Rattle.clap.specs.Words.{Kinds}
use Rattle.dm_memory.specs.declared.NoMemory.{NoMemory as TheNoMemory}
use Rattle.dm_memory.specs.declared.of_clap.MatchesError.{MatchesError}
use Rattle.dm_memory.specs.declared.of_clap.MatchesError.TheVariants.{Refused, NoMemory}

-- there are matches only where no step of the parse fails, and words are refused only where one does; want of memory
-- says nothing
abbrev pub FailsBy : {A : Type 0} → Kinds → Result A MatchesError → Type 0
FailsBy kinds (Ok m) = kinds ≡ []
FailsBy kinds (Err Refused) = kinds ≡ [] → ⊥
FailsBy kinds (Err (NoMemory _)) = Unit {0}

-- there are no matches for want of memory
abbrev pub MatchesLackMemory : MatchesError → Type 0
MatchesLackMemory e = (none : TheNoMemory) × (e ≡ NoMemory none)
