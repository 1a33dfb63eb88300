-- What a command promises, whichever it is: each command's crate has one of these for what its words ask for.
use Rattle.std.specs.Prelude.{◌≡◌, ⊤, ℕ, ◌⊎◌, List, []}
use Rattle.std.specs.declared.option.Option.{Option}
use Rattle.dm_world.specs.declared.world.World.{World}
use Rattle.dm_ending.specs.declared.status.Status.{Status}
use Rattle.dm_ending.specs.declared.status.Status.TheVariants.{Usage}
use Rattle.dm_ending.specs.Status.{IsWant}
use Rattle.dm_front.specs.Asked.{Named, Nothing}
use Rattle.dm_front.specs.Outside.{Around, Outside, Untouched}

pub record Promise : Type 1 where
  -- the files that it names
  pub names : Named
  -- what was done with the shelf and the sink, the world that was left, and the status
  pub meets : {F K : Type 0} → Around F K → Option World → Status → Type 0
  -- what is said of a file that is refused, before the status's line
  pub first : Option (List ℕ → Option (List ℕ)) → Status → List ℕ → Type 0
  -- why words that the command takes are refused as words all the same
  pub refuses : Option (List ℕ → Option (List ℕ)) → Type 0
  -- where no read and no write fails and memory is there, the files decide what it comes to
  pub decided : Outside → Status → Type 0

-- the words ask for nothing: they are refused, unless memory lacks
pub record RefusesWords {F K : Type 0} (a : Around F K) (world : Option World) (s : Status) : Type 0 where
  pub why : (s ≡ Usage) ⊎ IsWant s
  pub untouched : Untouched a world

-- so much is promised of such words
abbrev pub nothing_promise : Promise
nothing_promise = record {
  names = Nothing;
  meets = λ a world s. RefusesWords a world s;
  first = λ files s said. said ≡ [];
  refuses = λ files. ⊥;
  decided = λ o s. ⊤;
}
