-- Every run of the world is good, and the world stands for it.
use Rattle.std.specs.Prelude.{◌≡◌, ◌↔◌, ℕ, ◌<◌, true, List, [], ◌∷◌, ◌++◌, length}
use Rattle.std.specs.declared.option.Option.TheVariants.{Some}
use Rattle.dm_onekernel.specs.declared.boot.Boot.{Boot}
use Rattle.dm_onekernel.specs.Boot.{IsValid}
use Rattle.dm_schedule.specs.declared.Step.{Step}
use Rattle.dm_schedule.specs.declared.Directive.{Directive}
use Rattle.std.specs.List.{All}
use Rattle.dm_line.specs.declared.line.Line.{Line}
use Rattle.dm_law_rule.specs.Ends as rule_ends
use Rattle.dm_line.specs.Todo.{Todo, Next, all_of, at_rest}
use Rattle.dm_law_rule.specs.Good as rule
use Rattle.dm_law_rule.specs.Laws.{IsStep, Leads}
use Rattle.dm_law_rule.specs.Point.{Point, first_point}
use Rattle.dm_law_rule.specs.Quiet.{IsQuiet, has_mail}
use Rattle.dm_law_rule.specs.Rest.{IsAtRest}
use Rattle.dm_law_always.specs.Order.{LeadsBy}
use Rattle.dm_law_places.specs.Following.{MirrorsPoint}
use Rattle.dm_law_places.specs.Placed.{Placed}
use Rattle.dm_world.specs.World.{WorldState, first_world}
use Rattle.dm_world.specs.May.{MayStep}
use Rattle.dm_world.specs.Next as world
use Rattle.dm_world.specs.Ends as world_ends
use Rattle.dm_world.specs.Ends.{MayEnd}
use Rattle.dm_world.specs.Readable.{IsReadable, AreReadBack, gave}
use Rattle.dm_world.specs.Whole.{AreWhole}
use Rattle.dm_law_mirror.specs.Able.{AllMayAct}
use Rattle.dm_law_mirror.specs.Stands.{Stands}
use Rattle.dm_law_mirror.specs.Todo.{IsDirective, IsTodo}
use Rattle.dm_law_mirror.specs.Run.{joined, IsGood, GoesOn, RunStands, Steps}

-- the world as the boot file has it stands for the first point
abbrev pub StartStands : Type 0
StartStands = (b : Boot) → IsValid b → Stands b (first_world b) (first_point b)

-- where the world stands for a point, each machine may act, and packets are read again, it may do each directive; and where a
-- process that it freezes can be carried whole, it does what the rule says, or stops worn
abbrev pub StepsStand : Type 0
StepsStand =
    (b : Boot) (es : List Step) (w : WorldState) (pt : Point) (e : Step) → IsValid b → Leads b (first_point b) es pt → Stands b w pt → AllMayAct b w → IsReadable w → IsStep (length b.machines) e
    → MayStep b w e × (AreWhole w e → Steps b w pt e)

-- which directive comes next is what the printed lines say
abbrev pub NextIsSaid : Type 0
NextIsSaid =
    (b : Boot) (es : List Step) (w : WorldState) (pt : Point) (t : Todo) → IsValid b → Leads b (first_point b) es pt → Stands b w pt → IsTodo (length b.machines) t
    → world.world_next_step (length b.machines) w t ≡ rule.next_step pt.kernel.machines pt t

-- whether anything is on its way, and whether a machine has mail, is what the printed lines say
abbrev pub QuietIsSaid : Type 0
QuietIsSaid =
    (b : Boot) (es : List Step) (w : WorldState) (pt : Point) → IsValid b → Leads b (first_point b) es pt → Stands b w pt
    → (world.world_is_quiet (length b.machines) w ≡ true) ↔ IsQuiet pt.kernel.machines pt.view

-- so is whether all is at rest
abbrev pub RestIsSaid : Type 0
RestIsSaid =
    (b : Boot) (es : List Step) (w : WorldState) (pt : Point) → IsValid b → Leads b (first_point b) es pt → Stands b w pt
    → (at_rest (length b.machines) (world.world_seen (length b.machines) w) ≡ true) ↔ IsAtRest pt.kernel.machines pt

abbrev pub MailIsSaid : Type 0
MailIsSaid =
    (b : Boot) (es : List Step) (w : WorldState) (pt : Point) (m : ℕ) → IsValid b → Leads b (first_point b) es pt → Stands b w pt → m < length b.machines
    → world.world_has_mail w m ≡ has_mail pt.view m

-- where everything stands at the end is what the printed lines say
abbrev pub EndIsSaid : Type 0
EndIsSaid =
    (b : Boot) (es : List Step) (w : WorldState) (pt : Point) → IsValid b → Leads b (first_point b) es pt → Stands b w pt
    → world_ends.end_lines b w ≡ rule_ends.end_lines pt

-- and that can be said
abbrev pub EndMay : Type 0
EndMay = (b : Boot) (es : List Step) (w : WorldState) (pt : Point) → IsValid b → Leads b (first_point b) es pt → Stands b w pt → MayEnd (length b.machines) w

-- a run begins, and goes on
abbrev pub RunBegins : Type 0
RunBegins = (b : Boot) (ds : List Directive) → IsValid b → All (IsDirective (length b.machines)) ds → RunStands b ds [] (first_point b) (all_of ds) (first_world b)

pub record RunGoes (b : Boot) (ds : List Directive) (gs : List (List Line)) (pt : Point) (w : WorldState) (n : Next) : Type 0 where
  pub may : MayStep b w n.step
  -- where a process that it freezes can be carried whole
  pub steps : AreWhole w n.step → Steps b w pt n.step
  -- where what the machine gives is read again
  pub on : (g : GoesOn b w pt n.step) → AreReadBack (gave b w n.step) → RunStands b ds (gs ++ g.said.lines ∷ []) g.group.point n.left g.said.state

abbrev pub RunGoesOn : Type 0
RunGoesOn =
    (b : Boot) (ds : List Directive) (gs : List (List Line)) (pt : Point) (left : Todo) (w : WorldState) (n : Next) → IsValid b → RunStands b ds gs pt left w
    → world.world_next_step (length b.machines) w left ≡ Some n → RunGoes b ds gs pt w n

-- good groups are a run by the rule, directive by directive, and end to end they are the lines that were printed: so each law of
-- such runs speaks of printed lines
abbrev pub GoodLeads : Type 0
GoodLeads =
    (b : Boot) (ds : List Directive) (gs : List (List Line)) (end : Point) (left : Todo) → IsValid b → All (IsDirective (length b.machines)) ds → IsGood b ds gs end left
    → (es : List Step) × LeadsBy b (first_point b) es (joined gs) end

-- wherever the rule leads, there is a kernel with places that mirrors the point
abbrev pub PlacesFollow : Type 0
PlacesFollow = (b : Boot) (es : List Step) (pt : Point) → IsValid b → Leads b (first_point b) es pt → (l : Placed) × MirrorsPoint pt l
