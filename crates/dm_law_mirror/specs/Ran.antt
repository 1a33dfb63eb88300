-- Elementary directives, done one by one by whoever chooses them: what was printed, and where the world stands then.
use Rattle.std.specs.Prelude.{List, [], ◌∷◌, ◌++◌, length, map}
use Rattle.std.specs.List.{All}
use Rattle.dm_onekernel.specs.declared.boot.Boot.{Boot}
use Rattle.dm_onekernel.specs.Boot.{IsValid}
use Rattle.dm_schedule.specs.declared.Step.{Step}
use Rattle.dm_schedule.specs.declared.Directive.{Directive}
use Rattle.dm_schedule.specs.declared.Directive.TheVariants as directive
use Rattle.dm_line.specs.declared.line.Line.{Line}
use Rattle.dm_line.specs.Todo.{Todo, all_of}
use Rattle.dm_law_rule.specs.Laws.{IsStep, Leads}
use Rattle.dm_law_rule.specs.Point.{Point, first_point}
use Rattle.dm_world.specs.World.{WorldState, first_world}
use Rattle.dm_world.specs.May.{MayStep}
use Rattle.dm_world.specs.Readable.{IsReadable, AreReadBack, gave}
use Rattle.dm_world.specs.Whole.{AreWhole}
use Rattle.dm_law_mirror.specs.Able.{AllMayAct}
use Rattle.dm_law_mirror.specs.Stands.{Stands}
use Rattle.dm_law_mirror.specs.Todo.{IsDirective}
use Rattle.dm_law_mirror.specs.Run.{IsGood, GoesOn, RunStands, Steps}

-- each as a directive
abbrev pub ones : List Step → List Directive
ones es = map directive.One es

-- these groups were printed for these directives, and none is left; the world stands where they lead, each machine may act,
-- and packets are read again
pub record Ran (b : Boot) (es : List Step) (gs : List (List Line)) (pt : Point) (w : WorldState) : Type 0 where
  pub good : IsGood b (ones es) gs pt (all_of [])
  pub leads : Leads b (first_point b) es pt
  pub stands : Stands b w pt
  pub able : AllMayAct b w
  pub readable : IsReadable w

-- one more directive may be done
pub record RanGoes (b : Boot) (es : List Step) (gs : List (List Line)) (pt : Point) (w : WorldState) (e : Step) : Type 0 where
  pub may : MayStep b w e
  -- where a process that it freezes can be carried whole
  pub steps : AreWhole w e → Steps b w pt e
  -- where what the machine gives is read again
  pub on : (g : GoesOn b w pt e) → AreReadBack (gave b w e) → Ran b (es ++ e ∷ []) (gs ++ g.said.lines ∷ []) g.group.point g.said.state

-- it begins with nothing
abbrev pub RanBegins : Type 0
RanBegins = (b : Boot) → IsValid b → Ran b [] [] (first_point b) (first_world b)

-- and goes on with any directive for the machines that there are
abbrev pub RanGoesOn : Type 0
RanGoesOn =
    (b : Boot) (es : List Step) (gs : List (List Line)) (pt : Point) (w : WorldState) (e : Step) → IsValid b → Ran b es gs pt w → IsStep (length b.machines) e → RanGoes b es gs pt w e

-- a run of any directives is one of elementary directives
abbrev pub RunIsRan : Type 0
RunIsRan =
    (b : Boot) (ds : List Directive) (gs : List (List Line)) (pt : Point) (left : Todo) (w : WorldState) → IsValid b
    → All (IsDirective (length b.machines)) ds → RunStands b ds gs pt left w → (es : List Step) × Ran b es gs pt w
