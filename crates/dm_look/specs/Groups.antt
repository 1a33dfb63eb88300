-- The first groups of a run, by a notion of a run.
use Rattle.std.specs.Prelude.{◌≡◌, ⊤, ℕ, ◌<◌, ◌≤◌, ◌⊎◌, Vec, List, [], ◌∷◌, length}
use Rattle.std.specs.declared.alloc.Global.{Global}
use Rattle.std.specs.declared.result.Result.{Result}
use Rattle.std.specs.declared.result.Result.TheVariants.{Ok, Err}
use Rattle.dm_onekernel.specs.declared.boot.Boot.{Boot}
use Rattle.dm_schedule.specs.declared.Directive.{Directive}
use Rattle.dm_line.specs.declared.line.Line.{Line}
use Rattle.dm_node.specs.declared.stop.Stop.{Stop}
use Rattle.dm_node.specs.declared.stop.Stop.TheVariants.{NoMemory, Worn}
use Rattle.dm_world.specs.declared.world.World.{World}
use Rattle.dm_world.specs.Meets.{world_state}
use Rattle.dm_run.specs.Coming.{HasCome}
use Rattle.dm_run.specs.Notion.{Notion, by_world}
use Rattle.dm_run.specs.Printed.{WearsAfter}
use Rattle.dm_run.specs.Running.{IsRunning}
use Rattle.dm_run.specs.Way.{IsDone}
use Rattle.dm_run.specs.declared.way.Way.{Way}

-- the first groups of these directives lead there: so many, or all of them where there are fewer
pub record IsAt (r : Notion) (b : Boot) (ds : List Directive) (most : ℕ) (groups : List (List Line)) (at : r.Place) : Type 0 where
  pub good : r.Leads b ds groups at
  pub few : length groups ≤ most
  pub enough : (length groups ≡ most) ⊎ r.IsOver b ds at

-- fewer groups than so many lead to a directive that would wear these two
pub record WearsBefore (r : Notion) (b : Boot) (ds : List Directive) (most from to : ℕ) : Type 0 where
  pub groups : List (List Line)
  pub wears : WearsAfter r b ds groups from to
  pub early : length groups < most

abbrev pub last_behind : List Line → List (List Line) → List Line
last_behind g [] = g
last_behind g (h ∷ hs) = last_behind h hs

-- the lines of the last group; none where there is no group
abbrev pub last_group : List (List Line) → List Line
last_group [] = []
last_group (g ∷ gs) = last_behind g gs

-- so many groups have come, and these lines are the last one's
pub record Keeps (count : ℕ) (lines : List Line) (groups : List (List Line)) : Type 0 where
  pub count_is : length groups ≡ count
  pub lines_are : lines ≡ last_group groups

-- the world is behind so many groups, or where no directive is left
pub record IsThere (b : Boot) (ds : List Directive) (most : ℕ) (lines : List Line) (w : World) : Type 0 where
  pub running : IsRunning w
  pub boot : w.boot ≡ b
  pub way : Way
  pub count : ℕ
  pub come : HasCome b ds (Keeps count lines) way (world_state w)
  pub few : count ≤ most
  pub enough : (count ≡ most) ⊎ IsDone b ds (world_state w) way

-- or the run came to no end before
abbrev pub Came : Boot → List Directive → ℕ → World → Result (Vec Line Global) Stop → Type 0
Came b ds most w (Ok lines) = IsThere b ds most lines.items w
Came b ds most w (Err (NoMemory lack)) = ⊤
Came b ds most w (Err (Worn from to)) = WearsBefore by_world b ds most from to
