-- How far a run has come, and what was kept of its groups.
use Rattle.std.specs.Prelude.{◌≡◌, ⊤, ℕ, false, List}
use Rattle.std.specs.List.{All}
use Rattle.std.specs.declared.option.Option.{Option}
use Rattle.std.specs.declared.option.Option.TheVariants.{Some}
use Rattle.std.specs.declared.result.Result.{Result}
use Rattle.std.specs.declared.result.Result.TheVariants.{Ok, Err}
use Rattle.dm_onekernel.specs.declared.boot.Boot.{Boot}
use Rattle.dm_schedule.specs.declared.Step.{Step}
use Rattle.dm_schedule.specs.declared.Directive.{Directive}
use Rattle.dm_line.specs.declared.line.Line.{Line}
use Rattle.dm_run.specs.Runs.{joined}
use Rattle.dm_text.specs.Fits.{LineFits}
use Rattle.dm_text.specs.Text.{text_of_lines}
use Rattle.dm_world.specs.declared.world.World.{World}
use Rattle.dm_world.specs.Meets.{IsWorld, world_state}
use Rattle.dm_world.specs.World.{WorldState}
use Rattle.dm_outside.specs.Outside.{RoseOrFull, appended}
use Rattle.dm_ending.specs.declared.stop.Stop.{Stop}
use Rattle.dm_ending.specs.declared.stop.Stop.TheVariants.{NoMemory, WriteFault, Worn}
use Rattle.dm_run.specs.declared.way.Way.{Way}
use Rattle.dm_run.specs.Appended.{IsCutShort}
use Rattle.dm_run.specs.Notion.{Notion, by_world}
use Rattle.dm_run.specs.Printed.{IsWhole, IsOfFirst, IsBegun, RunWears}
use Rattle.dm_run.specs.Way.{IsDone}
use Rattle.dm_run.specs.Went.{Led}

-- a run has come so far: groups came, and this was kept of them
pub record HasCome (b : Boot) (ds : List Directive) (Keeps : List (List Line) → Type 0) (way : Way) (w : WorldState) : Type 0 where
  pub steps : List Step
  pub groups : List (List Line)
  pub led : Led b ds way steps groups w
  pub kept : Keeps groups

-- to where no directive is left
pub record HasEnded (b : Boot) (ds : List Directive) (Keeps : List (List Line) → Type 0) (w : WorldState) : Type 0 where
  pub way : Way
  pub come : HasCome b ds Keeps way w
  pub done : IsDone b ds w way

-- each line fits, and their text was appended
pub record IsWritten (old new : Option (List ℕ)) (groups : List (List Line)) : Type 0 where
  pub fits : All LineFits (joined groups)
  pub written : new ≡ appended old (text_of_lines (joined groups))

-- bytes were appended, or nothing was for want of memory, or the sink failed and fewer were
abbrev pub Offered : {A : Type 0} → Option (List ℕ) → List ℕ → Option (List ℕ) → Result A Stop → Type 0
Offered old bytes new (Ok _) = new ≡ appended old bytes
Offered old bytes new (Err (NoMemory lack)) = new ≡ old
Offered old bytes new (Err WriteFault) = IsCutShort old bytes new
Offered old bytes new (Err (Worn from to)) = ⊥

-- why a run came to no end, and what it has written
abbrev pub Stopped : (r : Notion) → Boot → List Directive → Option (List ℕ) → Option (List ℕ) → Option World → Stop → Type 0
Stopped r b ds before after w (NoMemory lack) = IsOfFirst r b ds before after
Stopped r b ds before after w WriteFault = IsBegun r b ds before after w
Stopped r b ds before after w (Worn from to) = RunWears r b ds before after from to

-- all directives were done, or a run came to no end
pub record IsThrough (b : Boot) (ds : List Directive) (before after : Option (List ℕ)) (w : World) : Type 0 where
  pub world : IsWorld w
  pub going : w.stopped ≡ false
  pub boot : w.boot ≡ b
  pub ended : HasEnded b ds (IsWritten before after) (world_state w)

abbrev pub Came : {A : Type 0} → Boot → List Directive → Option (List ℕ) → Option (List ℕ) → World → Result A Stop → Type 0
Came b ds before after w (Ok _) = IsThrough b ds before after w
Came b ds before after w (Err s) = Stopped by_world b ds before after (Some w) s

-- a run has come to its end, or to none
abbrev pub Ended : {A : Type 0} → Notion → Boot → List Directive → Option (List ℕ) → Option (List ℕ) → Option World → Result A Stop → Type 0
Ended r b ds before after w (Ok _) = IsWhole r b ds before after w
Ended r b ds before after w (Err s) = Stopped r b ds before after w s

-- a count of faults is as it was, unless the sink is blamed: then it rose
abbrev pub BlamesBy : ℕ → ℕ → Stop → Type 0
BlamesBy old new (NoMemory lack) = new ≡ old
BlamesBy old new WriteFault = RoseOrFull old new
BlamesBy old new (Worn from to) = new ≡ old

abbrev pub Blames : {A : Type 0} → ℕ → ℕ → Result A Stop → Type 0
Blames old new (Ok _) = new ≡ old
Blames old new (Err s) = BlamesBy old new s

-- where the sink is blamed, its last call failed: nothing was offered to it behind that one
abbrev pub StopsBy : Type 0 → Stop → Type 0
StopsBy last (NoMemory lack) = ⊤
StopsBy last WriteFault = last
StopsBy last (Worn from to) = ⊤

abbrev pub StopsThere : {A : Type 0} → Type 0 → Result A Stop → Type 0
StopsThere last (Ok _) = ⊤
StopsThere last (Err s) = StopsBy last s
