-- The picture of some groups of a run, by a notion of a run: of all of it, or of what comes before a worn pair.
use Rattle.std.specs.Prelude.{◌≡◌, ⊤, ℕ, List}
use Rattle.std.specs.declared.result.Result.{Result}
use Rattle.std.specs.declared.result.Result.TheVariants.{Ok, Err}
use Rattle.dm_onekernel.specs.declared.boot.Boot.{Boot}
use Rattle.dm_schedule.specs.declared.Directive.{Directive}
use Rattle.dm_line.specs.declared.line.Line.{Line}
use Rattle.dm_chart.specs.declared.kept.Kept.{Kept}
use Rattle.dm_chart.specs.declared.kept.Part.{Part}
use Rattle.dm_chart.specs.Kept.{kept_of}
use Rattle.dm_chart.specs.Picture.{chart_of, worn_chart_of}
use Rattle.dm_node.specs.declared.stop.Stop.{Stop}
use Rattle.dm_node.specs.declared.stop.Stop.TheVariants.{NoMemory, Worn}
use Rattle.dm_world.specs.World.{WorldState}
use Rattle.dm_run.specs.Coming.{HasEnded}
use Rattle.dm_run.specs.Notion.{Notion, by_world}
use Rattle.dm_run.specs.Printed.{WearsAfter}
use Rattle.dm_run.specs.declared.drawing.Drawn.{Drawn}
use Rattle.dm_run.specs.declared.drawing.Drawn.TheVariants as drawn

-- what a picture shows of groups was kept
abbrev pub Keeps : Part → Kept → List (List Line) → Type 0
Keeps part k groups = k ≡ kept_of part groups

-- good groups lead to a worn pair; what a picture shows of them was kept
pub record HasWorn (part : Part) (b : Boot) (ds : List Directive) (k : Kept) (from to : ℕ) : Type 0 where
  pub groups : List (List Line)
  pub wears : WearsAfter by_world b ds groups from to
  pub kept : k ≡ kept_of part groups

-- all directives were done, or a run came to no end
abbrev pub IsCollected : {A : Type 0} → Part → Boot → List Directive → Kept → WorldState → Result A Stop → Type 0
IsCollected part b ds k w (Ok _) = HasEnded b ds (Keeps part k) w
IsCollected part b ds k w (Err (NoMemory lack)) = ⊤
IsCollected part b ds k w (Err (Worn from to)) = HasWorn part b ds k from to

-- the picture of good groups, one for each directive
pub record PictureIsWhole (part : Part) (r : Notion) (b : Boot) (ds : List Directive) (text : List ℕ) : Type 0 where
  pub groups : List (List Line)
  pub at : r.Place
  pub good : r.Leads b ds groups at
  pub over : r.IsOver b ds at
  pub rests : r.Rests b ds at
  pub text_is : text ≡ chart_of part b groups

-- the picture of the good groups that lead to a worn pair, which says so
pub record IsBeforeWorn (part : Part) (r : Notion) (b : Boot) (ds : List Directive) (text : List ℕ) (from to : ℕ) : Type 0 where
  pub groups : List (List Line)
  pub wears : WearsAfter r b ds groups from to
  pub text_is : text ≡ worn_chart_of part b groups from to

abbrev pub IsDrawn : Part → Notion → Boot → List Directive → Drawn → Type 0
IsDrawn part r b ds (drawn.Whole text) = PictureIsWhole part r b ds text.items
IsDrawn part r b ds (drawn.Worn text from to) = IsBeforeWorn part r b ds text.items from to
