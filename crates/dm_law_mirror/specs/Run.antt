-- What a run of the world is: it stands for what was printed, and that is good.
use Rattle.std.specs.Prelude.{◌≡◌, ℕ, ◌≤◌, ◌⊎◌, List, [], ◌∷◌, ◌++◌, length}
use Rattle.std.specs.declared.option.Option.TheVariants.{Some}
use Rattle.dm_onekernel.specs.declared.boot.Boot.{Boot}
use Rattle.dm_onekernel.specs.Start.{start}
use Rattle.dm_onekernel.specs.Step.{replay}
use Rattle.dm_law_one.specs.Laws.{receptions}
use Rattle.dm_message.specs.declared.MsgId.{MsgId}
use Rattle.dm_schedule.specs.declared.Step.{Step}
use Rattle.dm_schedule.specs.declared.Directive.{Directive}
use Rattle.dm_line.specs.declared.line.Line.{Line}
use Rattle.dm_line.specs.Todo.{Todo, all_of}
use Rattle.dm_law_rule.specs.Good.{IsRun}
use Rattle.dm_law_rule.specs.Laws.{Leads}
use Rattle.dm_law_rule.specs.Parts.{Spelled}
use Rattle.dm_law_rule.specs.Point.{Point, first_point, labels}
use Rattle.dm_law_rule.specs.Rule.{group_of}
use Rattle.dm_law_rule.specs.Worn.{IsWorn}
use Rattle.dm_world.specs.World.{WorldState, Said, Says, WornOut, world_step}
use Rattle.dm_world.specs.Readable.{IsReadable}
use Rattle.dm_law_mirror.specs.Able.{AllMayAct}
use Rattle.dm_law_mirror.specs.Stands.{Stands}
use Rattle.dm_law_mirror.specs.Todo.{IsTodo}

-- the lines of groups, in order
abbrev pub joined : List (List Line) → List Line
joined [] = []
joined (g ∷ gs) = g ++ joined gs

-- groups of lines are good: one for each of the first directives, by the rule, from where the boot file begins; they replay
-- as a run of the kernel without machines; and no message is received twice
pub record IsGood (b : Boot) (ds : List Directive) (gs : List (List Line)) (end : Point) (left : Todo) : Type 0 where
  pub run : IsRun b (first_point b) (all_of ds) gs end left
  pub replays : replay (start b) (labels (joined gs)) ≡ Some end.kernel
  pub received : (i : MsgId) → receptions i (labels (joined gs)) ≤ 1

-- the world after these groups
pub record RunStands (b : Boot) (ds : List Directive) (gs : List (List Line)) (pt : Point) (left : Todo) (w : WorldState) : Type 0 where
  pub good : IsGood b ds gs pt left
  -- the directives one by one
  pub steps : List Step
  pub leads : Leads b (first_point b) steps pt
  pub todo : IsTodo (length b.machines) left
  pub stands : Stands b w pt
  -- each machine may act, and packets are read again
  pub able : AllMayAct b w
  pub readable : IsReadable w

-- the machines do what the rule says
pub record GoesOn (b : Boot) (w : WorldState) (pt : Point) (e : Step) : Type 0 where
  pub said : Said
  pub happens : world_step b w e ≡ Some (Says said)
  pub group : Spelled
  pub due : group_of b pt e ≡ Some group
  pub lines : said.lines ≡ group.lines
  pub stands : Stands b said.state group.point

-- or they stop, where a pair would count more messages than it may
pub record StopsWorn (b : Boot) (w : WorldState) (pt : Point) (e : Step) : Type 0 where
  pub from : ℕ
  pub to : ℕ
  pub happens : world_step b w e ≡ Some (WornOut from to)
  pub worn : IsWorn b pt e from to

abbrev pub Steps : Boot → WorldState → Point → Step → Type 0
Steps b w pt e = GoesOn b w pt e ⊎ StopsWorn b w pt e
