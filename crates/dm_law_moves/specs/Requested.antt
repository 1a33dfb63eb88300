-- Where moves go: to the machine that was named, by the request that a process follows or by the directive; and what the answer to a
-- request says holds as it is said.
use Rattle.std.specs.Prelude.{◌≡◌, ◌⊎◌, ℕ, ◌≤◌, Bool, true, false, List, [], ◌∷◌, ◌++◌}
use Rattle.std.specs.declared.option.Option.TheVariants.{Some}
use Rattle.dm_link.specs.declared.Pid.{Pid}
use Rattle.dm_link.specs.Names.{pid_eq}
use Rattle.dm_message.specs.Plain as what
use Rattle.dm_message.specs.Plain.{PlainMessage}
use Rattle.dm_message.specs.declared.MsgId.{MsgId}
use Rattle.dm_message.specs.declared.Outcome.{Outcome}
use Rattle.dm_message.specs.declared.Outcome.TheVariants as ends
use Rattle.dm_message.specs.declared.kind.MessageKind.TheVariants as kind
use Rattle.dm_onekernel.specs.declared.boot.Boot.{Boot}
use Rattle.dm_onekernel.specs.declared.label.Label.TheVariants as label
use Rattle.dm_onekernel.specs.Boot.{IsValid}
use Rattle.dm_schedule.specs.declared.Step.{Step}
use Rattle.dm_schedule.specs.declared.Step.TheVariants as step
use Rattle.dm_line.specs.declared.line.Line.{Line}
use Rattle.dm_line.specs.declared.line.Line.TheVariants as line
use Rattle.dm_line.specs.declared.line.Stage.{Stage}
use Rattle.dm_line.specs.declared.line.Stage.TheVariants as stage
use Rattle.dm_law_rule.specs.Acts.{Act, act_of}
use Rattle.dm_law_rule.specs.Acts as act
use Rattle.dm_law_rule.specs.Point.{Point, first_point, after}
use Rattle.dm_law_rule.specs.View.{Here}
use Rattle.dm_law_always.specs.Order.{LeadsBy}
use Rattle.dm_law_moves.specs.Ends.{count}

-- a request that the line behind these takes, `asked`: the message says who is to move and to which machine, and the process is on
-- the machine that acts
pub record IsAsked (b : Boot) (before : List Line) (i : MsgId) (p : Pid) (source target : ℕ) : Type 0 where
  pub point : Point
  pub stands : after (first_point b) before ≡ Some point
  pub request : PlainMessage
  pub there : point.kernel.bag i ≡ Some request
  pub receiver : request.to ≡ p
  pub named : request.what ≡ what.Move target
  pub acting : point.view.acting ≡ source
  pub here : point.view.known source p ≡ Here

-- a directive to move the process, among these lines with the put of its message, which is the first in the inbox of the machine that
-- acts behind them, where the process is
pub record IsDirected (b : Boot) (before : List Line) (p : Pid) (source target : ℕ) : Type 0 where
  pub message : MsgId
  pub from : ℕ
  pub to : ℕ
  pub earlier : List Line
  pub later : List Line
  pub put : before ≡ earlier ++ line.Head (step.Migrate p target) ∷ line.Put from to message kind.Migrate p ∷ later
  pub point : Point
  pub stands : after (first_point b) before ≡ Some point
  pub others : List MsgId
  pub first : point.view.inbox source ≡ message ∷ others
  pub acting : point.view.acting ≡ source
  pub here : point.view.known source p ≡ Here

-- what a process's step 1 behind these lines follows: the request, which is the line before it, or the directive
pub data Follows (b : Boot) (before : List Line) (p : Pid) (source target : ℕ) : Type 0 where
  Request : (first : List Line) → (i : MsgId) → before ≡ first ++ line.Label (label.Asked i) ∷ [] → IsAsked b first i p source target → Follows b before p source target
  Directive : IsDirected b before p source target → Follows b before p source target

-- step 1 of this process
abbrev pub starts_by : Pid → Pid → Stage → Bool
starts_by p q stage.Frozen = pid_eq p q
starts_by p q stage.Asked = false
starts_by p q stage.Accepted = false
starts_by p q stage.StateTaken = false
starts_by p q stage.MemoryTaken = false
starts_by p q stage.Left = false
starts_by p q stage.Restarted = false

abbrev pub starts_act : Pid → Act → Bool
starts_act p (act.Migrates s q) = starts_by p q s
starts_act p a = false

abbrev pub starts : Pid → Line → Bool
starts p l = starts_act p (act_of l)

-- a machine accepts this process, has no room for it, calls its move off, or has it go on
abbrev pub takes_by : Pid → Pid → Stage → Bool
takes_by p q stage.Frozen = false
takes_by p q stage.Asked = false
takes_by p q stage.Accepted = pid_eq p q
takes_by p q stage.StateTaken = false
takes_by p q stage.MemoryTaken = false
takes_by p q stage.Left = false
takes_by p q stage.Restarted = pid_eq p q

abbrev pub takes_act : Pid → Act → Bool
takes_act p (act.Migrates s q) = takes_by p q s
takes_act p (act.Lacks q) = pid_eq p q
takes_act p (act.AllGoBack q) = pid_eq p q
takes_act p a = false

abbrev pub takes_in : Pid → Line → Bool
takes_in p l = takes_act p (act_of l)

-- the machine that acts behind these lines is the one that was named as the process set off last: a rule that moves a process to any
-- other machine, or asks any other to take it, is refused by `acting`
pub record IsNamedMachine (b : Boot) (earlier : List Line) (p : Pid) : Type 0 where
  pub before : List Line
  pub between : List Line
  pub began : earlier ≡ before ++ line.Migration stage.Frozen p ∷ between
  pub last : count (starts p) between ≡ 0
  pub source : ℕ
  pub target : ℕ
  pub follows : Follows b before p source target
  pub point : Point
  pub stands : after (first_point b) earlier ≡ Some point
  pub acting : point.view.acting ≡ target

-- wherever the rule leads, steps 3 and 8 of a process, `lacks` and `called` are lines of the machine that was named
abbrev pub MovesAsNamed : Type 0
MovesAsNamed =
    (b : Boot) (es : List Step) (ls earlier later : List Line) (l : Line) (pt : Point) (p : Pid) → IsValid b → LeadsBy b (first_point b) es ls pt → ls ≡ earlier ++ l ∷ later → takes_in p l ≡ true → IsNamedMachine b earlier p

-- among these lines a machine has no room for the process, or calls its move off
pub record IsRefused (p : Pid) (ls : List Line) : Type 0 where
  pub earlier : List Line
  pub line : Line
  pub later : List Line
  pub are : ls ≡ earlier ++ line ∷ later
  pub is : (act_of line ≡ act.Lacks p) ⊎ (act_of line ≡ act.AllGoBack p)

-- where the process is then, on this machine, and why: it has come to the machine that was named, so a rule that says `asked` and at
-- once `answered ID 0`, and moves nothing, is refused by the first row; or it is still where it was asked, and was refused on the way, so
-- one that says `answered ID 1` without trying is refused by the second. That it has ended is no answer
abbrev pub IsSo : Pid → (source target at : ℕ) → List Line → Outcome → Type 0
IsSo p source target at between ends.Done = at ≡ target
IsSo p source target at between ends.Stayed = (at ≡ source) × IsRefused p between
IsSo p source target at between ends.Ended = ⊥

-- the answer behind these lines is of a request that was asked among them, once it was asked the process has set off once at most, and it
-- is on the machine that says the answer
pub record AnswersSo (b : Boot) (earlier : List Line) (i : MsgId) (o : Outcome) : Type 0 where
  pub process : Pid
  pub source : ℕ
  pub target : ℕ
  pub before : List Line
  pub between : List Line
  pub asked : earlier ≡ before ++ line.Label (label.Asked i) ∷ between
  pub once : count (starts process) between ≤ 1
  pub request : IsAsked b before i process source target
  pub point : Point
  pub stands : after (first_point b) earlier ≡ Some point
  pub here : point.view.known point.view.acting process ≡ Here
  pub so : IsSo process source target point.view.acting between o

-- wherever the rule leads
abbrev pub AnswersAreSo : Type 0
AnswersAreSo =
    (b : Boot) (es : List Step) (ls earlier later : List Line) (pt : Point) (i : MsgId) (o : Outcome) → IsValid b → LeadsBy b (first_point b) es ls pt → ls ≡ earlier ++ line.Label (label.Answered i o) ∷ later → AnswersSo b earlier i o
