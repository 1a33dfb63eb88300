-- A promise is kept: each command's crate has one value of this for each of its promises.
use Rattle.dm_front.proofs.Names.{◌≡◌, ℕ, List, [], Option, TheNoMemory, Status, NoMemory, Usage, World, MeetsOutside, Around, Untouched, outside, Promise}
use Rattle.dm_front.proofs.Outcomes.{Files}

-- the one promise is that by the machines, which the command keeps; the other says the same by the rule
pub record Kept (p q : Promise) : Type 1 where
  -- what keeps the one keeps the other
  pub carried : {F K : Type 0} (a : Around F K) (world : Option World) (s : Status) → p.meets a world s → q.meets a world s
  pub first : (files : Option Files) (s : Status) (said : List ℕ) → p.first files s said → q.first files s said
  -- where nothing was done for want of memory it is kept, and nothing is said
  pub lacks : {F K : Type 0} (a : Around F K) (world : Option World) (lack : TheNoMemory) → Untouched a world → ((name : List ℕ) → a.shelf.asked a.shelf.old name a.shelf.old) → p.meets a world (NoMemory lack)
  pub silent : (files : Option Files) (lack : TheNoMemory) (said : List ℕ) → said ≡ [] → q.first files (NoMemory lack) said
  -- what it says of the shelf and of the sink
  pub met : {F K : Type 0} (a : Around F K) (world : Option World) (s : Status) → q.meets a world s → MeetsOutside q.names a s
  -- words that the command takes are refused for what it says alone
  pub taken : {F K : Type 0} (a : Around F K) (world : Option World) (s : Status) → p.meets a world s → s ≡ Usage → q.refuses (a.shelf.told a.shelf.old)
  -- and the files decide
  pub decided : {F K : Type 0} (a : Around F K) (world : Option World) (s : Status) → q.meets a world s → q.decided (outside a world) s
