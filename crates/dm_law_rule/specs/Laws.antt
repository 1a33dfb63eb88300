-- What holds wherever the rule leads.
use Rattle.std.specs.Prelude.{true, false, ◌≡◌, ◌≢◌, ◌↔◌, ⊤, ℕ, ◌<◌, List, [], ◌∷◌}
use Rattle.std.specs.declared.option.Option.{Option}
use Rattle.std.specs.declared.option.Option.TheVariants.{Some}
use Rattle.dm_link.specs.declared.Pid.{Pid}
use Rattle.dm_message.specs.declared.MsgId.{MsgId}
use Rattle.dm_message.specs.declared.kind.MessageKind.{MessageKind}
use Rattle.dm_onekernel.specs.declared.boot.Boot.{Boot}
use Rattle.dm_link.specs.Names.{pid_eq}
use Rattle.dm_onekernel.specs.Boot.{IsValid, manager, switchboard}
use Rattle.dm_onekernel.specs.declared.label.Label.{Label}
use Rattle.dm_onekernel.specs.declared.label.Label.TheVariants as label
use Rattle.dm_line.specs.declared.line.Line.{Line}
use Rattle.dm_schedule.specs.declared.Step.{Step}
use Rattle.dm_schedule.specs.declared.Step.TheVariants as step
use Rattle.dm_law_rule.specs.Point.{Point, first_point, label_of}
use Rattle.dm_law_rule.specs.Parts.{Spelled}
use Rattle.dm_line.specs.Todo.{at_rest}
use Rattle.dm_law_rule.specs.Good.{seen_at}
use Rattle.dm_law_rule.specs.Quiet.{IsQuiet, is_quiet}
use Rattle.dm_law_rule.specs.Rest.{IsAtRest}
use Rattle.dm_law_rule.specs.View.{View}
use Rattle.dm_law_rule.specs.Rule.{group_of}
use Rattle.dm_law_rule.specs.Spots.{StandsRight, standing}
use Rattle.dm_law_rule.specs.Pairs.{PairStands, HomeStands}
use Rattle.dm_law_rule.specs.Homes.{Homes}
use Rattle.dm_law_rule.specs.Tells.{TellsRight}
use Rattle.dm_law_rule.specs.Phases.{Phase, Moves, IsIn, is_due}
use Rattle.dm_law_rule.specs.Order.{KernelsInOrder}
use Rattle.dm_law_rule.specs.Apart.{AllSpare}

-- a directive for so many machines
abbrev pub IsStep : ℕ → Step → Type 0
IsStep machines (step.Turn m) = m < machines
IsStep machines (step.Tick m) = m < machines
IsStep machines (step.Deliver a b k) = (a < machines) × (b < machines) × (a ≢ b)
IsStep machines (step.Migrate p m) = m < machines
IsStep machines (step.CallOff p m) = m < machines

-- the rule leads from a point to another, group by group
abbrev pub Leads : Boot → Point → List Step → Point → Type 0
Leads b pt [] end = pt ≡ end
Leads b pt (e ∷ es) end = (w : Spelled) × IsStep pt.kernel.machines e × (group_of b pt e ≡ Some w) × Leads b w.point es end

-- no directive is a migration
abbrev pub IsStill : Step → Type 0
IsStill (step.Turn m) = ⊤
IsStill (step.Tick m) = ⊤
IsStill (step.Deliver a b k) = ⊤
IsStill (step.Migrate p m) = ⊥
IsStill (step.CallOff p m) = ⊤

abbrev pub AreStill : List Step → Type 0
AreStill [] = ⊤
AreStill (e ∷ es) = IsStill e × AreStill es

-- no process is asked to move
abbrev pub IsUnasked : Option Label → Type 0
IsUnasked (Some (label.Asked id)) = ⊥
IsUnasked l = ⊤

abbrev pub AskNone : List Line → Type 0
AskNone [] = ⊤
AskNone (l ∷ ls) = IsUnasked (label_of l) × AskNone ls

-- the rule leads from a point to another, group by group, and nothing moves on the way: no directive and no process has it move
abbrev pub LeadsStill : Boot → Point → List Step → Point → Type 0
LeadsStill b pt [] end = pt ≡ end
LeadsStill b pt (e ∷ es) end = (w : Spelled) × IsStep pt.kernel.machines e × IsStill e × (group_of b pt e ≡ Some w) × AskNone w.lines × LeadsStill b w.point es end

-- wherever the rule leads, each message that the kernel without machines holds stands exactly once among the queues, held
-- lists, inboxes and streams of the printed lines, a kernel's own message at most once, and no other stands there
abbrev pub StandsOnceAlways : Type 0
StandsOnceAlways =
    (b : Boot) (es : List Step) (pt : Point) (id : MsgId) → IsValid b → Leads b (first_point b) es pt → StandsRight id (pt.kernel.bag id) (standing pt.view id)

-- wherever the rule leads, each pair of machines stands, and so does each machine's pair with itself
abbrev pub PairsStandAlways : Type 0
PairsStandAlways = (b : Boot) (es : List Step) (pt : Point) (m n : ℕ) → Leads b (first_point b) es pt → m ≢ n → PairStands (pt.view.pair m n) (pt.view.pair n m) × HomeStands (pt.view.pair m m)

-- wherever the rule leads without a migration, each address names the home of its process, and each message stands where its
-- receiver is at home
abbrev pub LeadHomeAlways : Type 0
LeadHomeAlways = (b : Boot) (es : List Step) (pt : Point) → IsValid b → LeadsStill b (first_point b) es pt → Homes pt

-- wherever the rule leads, the first put of each message told what it is
abbrev pub TellsRightAlways : Type 0
TellsRightAlways = (b : Boot) (es : List Step) (pt : Point) → IsValid b → Leads b (first_point b) es pt → TellsRight pt

-- wherever the rule leads, each process has a phase: what every machine knows of it, which one message of its migration is under
-- way and where, and what is left over of migrations that were called off
abbrev pub PhasesAlways : Type 0
PhasesAlways = (b : Boot) (es : List Step) (pt : Point) (p : Pid) → IsValid b → Leads b (first_point b) es pt → (phase : Phase) × IsIn pt.view p phase × (is_due phase ≡ false)

-- wherever the rule leads, what kernels tell each other of migrations stands in the order in which it was put
abbrev pub KernelsInOrderAlways : Type 0
KernelsInOrderAlways = (b : Boot) (es : List Step) (pt : Point) → IsValid b → Leads b (first_point b) es pt → KernelsInOrder pt.view

-- wherever the rule leads, the next group has no label of a process that moves, and leaves its plain value; and so of a server that
-- moves, for which it takes no message
abbrev pub MovingStaysAlways : Type 0
MovingStaysAlways =
    (b : Boot) (es : List Step) (pt : Point) (d : Step) (w : Spelled) (p : Pid) (k : MessageKind) (source destination : ℕ) (id : Option MsgId) → IsValid b → Leads b (first_point b) es pt → group_of b pt d ≡ Some w
    → IsIn pt.view p (Moves k source destination id) → AllSpare pt.kernel p w.lines × (w.point.kernel.processes p ≡ pt.kernel.processes p) × (pid_eq p switchboard ≡ true → w.point.kernel.switchboard ≡ pt.kernel.switchboard) × (pid_eq p manager ≡ true → w.point.kernel.manager ≡ pt.kernel.manager)

-- the test for quiet is passed exactly where nothing is on its way
abbrev pub QuietIsTested : Type 0
QuietIsTested = (n : ℕ) (v : View) → (is_quiet n v ≡ true) ↔ IsQuiet n v

-- the test for rest is passed exactly where all is at rest
abbrev pub RestIsTested : Type 0
RestIsTested = (n : ℕ) (pt : Point) → (at_rest n (seen_at n pt) ≡ true) ↔ IsAtRest n pt
