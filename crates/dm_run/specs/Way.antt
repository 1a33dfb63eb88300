-- Which elementary directive comes next of directives on a way.
use Rattle.std.specs.Prelude.{◌≡◌, List, length}
use Rattle.std.specs.declared.option.Option.{Option}
use Rattle.std.specs.declared.option.Option.TheVariants.{None, Some}
use Rattle.dm_onekernel.specs.declared.boot.Boot.{Boot}
use Rattle.dm_schedule.specs.declared.Step.{Step}
use Rattle.dm_schedule.specs.declared.Directive.{Directive}
use Rattle.dm_line.specs.declared.line.Line.{Line}
use Rattle.dm_world.specs.declared.cursor.Cursor.{Cursor}
use Rattle.dm_world.specs.World.{WorldState}
use Rattle.dm_run.specs.declared.way.Way.{Way}
use Rattle.dm_run.specs.Went.{ComesNext, Led, NoneLeft}

-- a run that has come so far has come as far on the other way: nothing is done between them
abbrev pub Reaches : Boot → List Directive → WorldState → Way → Way → Type 0
Reaches b ds w old new = (es : List Step) (gs : List (List Line)) → Led b ds old es gs w → Led b ds new es gs w

-- an elementary directive comes next, of a directive that has come so far
pub record GoesOn (b : Boot) (ds : List Directive) (w : WorldState) (old new : Way) (e : Step) : Type 0 where
  pub from : Cursor
  pub reached : Reaches b ds w old (record { begun = new.begun; cursor = from })
  pub comes : ComesNext (length b.machines) w from e new.cursor

-- or all directives are done
pub record IsDone (b : Boot) (ds : List Directive) (w : WorldState) (way : Way) : Type 0 where
  pub all : way.begun ≡ length ds
  pub none : NoneLeft (length b.machines) w way.cursor

pub record Stays (b : Boot) (ds : List Directive) (w : WorldState) (old new : Way) : Type 0 where
  pub reached : Reaches b ds w old new
  pub done : IsDone b ds w new

abbrev pub Nexts : Boot → List Directive → WorldState → Way → Way → Option Step → Type 0
Nexts b ds w old new (Some e) = GoesOn b ds w old new e
Nexts b ds w old new None = Stays b ds w old new
