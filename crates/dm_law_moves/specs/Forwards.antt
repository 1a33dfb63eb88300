-- What a forward tells: the sender of a message that went along a stale link is told where the receiver went.
use Rattle.std.specs.Prelude.{◌≡◌, ℕ, true, List, ◌∷◌, ◌++◌}
use Rattle.std.specs.declared.option.Option.TheVariants.{None, Some}
use Rattle.dm_link.specs.declared.Pid.{Pid}
use Rattle.dm_message.specs.declared.MsgId.{MsgId}
use Rattle.dm_message.specs.declared.kind.MessageKind.TheVariants as kind
use Rattle.dm_message.specs.Kinds.{plain_kind}
use Rattle.dm_message.specs.Plain.{PlainMessage}
use Rattle.dm_onekernel.specs.declared.boot.Boot.{Boot}
use Rattle.dm_onekernel.specs.Boot.{IsValid, manager}
use Rattle.dm_schedule.specs.declared.Step.{Step}
use Rattle.dm_schedule.specs.declared.Step.TheVariants as step
use Rattle.dm_line.specs.declared.line.Line.{Line}
use Rattle.dm_line.specs.declared.line.Line.TheVariants as line
use Rattle.dm_law_rule.specs.Addresses.{is_told_back}
use Rattle.dm_law_rule.specs.Laws.{Leads}
use Rattle.dm_law_rule.specs.Parts.{Spelled}
use Rattle.dm_law_rule.specs.Point.{Point, first_point}
use Rattle.dm_law_rule.specs.Rule.{group_of}
use Rattle.dm_law_rule.specs.View.{Told, Forward, actor}
use Rattle.dm_law_moves.specs.Promise.{IsUnderWay}

-- a group says that a message of p to q, of a kind whose sender is told, goes on to another machine
pub record Forwards (b : Boot) (pt : Point) (d : Step) (group : Spelled) (p q : Pid) (to : ℕ) : Type 0 where
  pub is : group_of b pt d ≡ Some group
  pub id : MsgId
  pub message : PlainMessage
  pub there : pt.kernel.bag id ≡ Some message
  pub sender : message.sender ≡ p
  pub receiver : message.to ≡ q
  pub told_back : is_told_back (plain_kind message.what) ≡ true
  pub earlier : List Line
  pub later : List Line
  pub says : group.lines ≡ earlier ++ line.Forwarded id to ∷ later

-- it goes by the forwarding address of the machine that acts; and behind the group a new update is under way that tells p this address
pub record Tells (d : Step) (pt next : Point) (p q : Pid) (to : ℕ) : Type 0 where
  pub turn : d ≡ step.Turn (actor pt.view d)
  pub moves : ℕ
  pub known : pt.view.known (actor pt.view d) q ≡ Forward to moves
  pub update : MsgId
  pub new : pt.view.told update ≡ None
  pub way : IsUnderWay next.view update p q (record { at = to; moves = moves })

-- wherever the rule leads, a group that sends a message on tells its sender where the receiver went
abbrev pub ForwardsTell : Type 0
ForwardsTell =
    (b : Boot) (es : List Step) (pt : Point) (d : Step) (group : Spelled) (p q : Pid) (to : ℕ) → IsValid b → Leads b (first_point b) es pt → Forwards b pt d group p q to → Tells d pt group.point p q to

-- a group says that a request to move q, a kernel's own message in the manager's name, goes on to another machine
pub record ForwardsRequest (b : Boot) (pt : Point) (d : Step) (group : Spelled) (q : Pid) (to : ℕ) : Type 0 where
  pub is : group_of b pt d ≡ Some group
  pub id : MsgId
  pub told : Told
  pub there : pt.view.told id ≡ Some told
  pub request : told.kind ≡ kind.Migrate
  pub receiver : told.receiver ≡ q
  pub earlier : List Line
  pub later : List Line
  pub says : group.lines ≡ earlier ++ line.Forwarded id to ∷ later

-- wherever the rule leads, a group that sends a request to move on tells the manager where the process went
abbrev pub RequestsTell : Type 0
RequestsTell =
    (b : Boot) (es : List Step) (pt : Point) (d : Step) (group : Spelled) (q : Pid) (to : ℕ) → IsValid b → Leads b (first_point b) es pt → ForwardsRequest b pt d group q to → Tells d pt group.point manager q to
