-- What removes forwarding addresses: each is held back by a predecessor, by a burial that is on its way, or by a calling off.
use Rattle.std.specs.Prelude.{◌≡◌, ◌≢◌, ℕ, ◌≤◌, ◌<◌, Bool, true, false, ◌==◌, List}
use Rattle.std.specs.declared.option.Option.{Option}
use Rattle.std.specs.declared.option.Option.TheVariants.{Some}
use Rattle.dm_link.specs.declared.Pid.{Pid}
use Rattle.dm_link.specs.Names.{pid_of}
use Rattle.dm_message.specs.declared.MsgId.{MsgId}
use Rattle.dm_message.specs.declared.kind.MessageKind.TheVariants as kind
use Rattle.dm_onekernel.specs.declared.boot.Boot.{Boot}
use Rattle.dm_onekernel.specs.Boot.{IsValid}
use Rattle.dm_schedule.specs.declared.Step.{Step}
use Rattle.dm_law_rule.specs.Laws.{Leads}
use Rattle.dm_law_rule.specs.Phases.{Moves, IsIn}
use Rattle.dm_law_rule.specs.Point.{Point, first_point}
use Rattle.dm_law_rule.specs.Spots.{Spot, Queue, Held, Inbox, Untaken, standing}
use Rattle.dm_law_rule.specs.View.{Unknown, Incoming, Forward, Told, Of}

-- on the way to a machine
abbrev pub is_way_to : ℕ → Spot → Bool
is_way_to m (Queue n p) = false
is_way_to m (Held n p) = false
is_way_to m (Inbox n) = m == n
is_way_to m (Untaken a n) = m == n

-- what will have machine m forget a process that it forwards to machine k: k has m for a predecessor; or m is told already; or m has
-- called the process's migration off, and k is told of that, and will have m for one then
pub data IsHeldBack (pt : Point) (p : Pid) (m k : ℕ) : Type 0 where
  ByPreds : pt.view.preds k p m ≡ true → pt.view.known k p ≢ Unknown → IsHeldBack pt p m k
  ByBury : (i : MsgId) → (t : Told) → (z : Spot) → pt.view.told i ≡ Some t → t.kind ≡ kind.Bury → t.receiver ≡ pid_of m 0 → t.about ≡ Of p → is_way_to m z ≡ true → 1 ≤ standing pt.view i z → IsHeldBack pt p m k
  ByCallOff : (j : Option MsgId) → IsIn pt.view p (Moves kind.CallOff k m j) → IsHeldBack pt p m k

pub record Predecessors (pt : Point) : Type 0 where
  -- each forwarding address is held back, of a process that lives or has ended
  pub back : (m k c : ℕ) (p : Pid) → pt.view.known m p ≡ Forward k c → IsHeldBack pt p m k
  -- a machine is no predecessor of its own, has some only where it has a record, and all of them are machines that there are
  pub others : (m : ℕ) (p : Pid) → pt.view.preds m p m ≡ false
  pub none : (m n : ℕ) (p : Pid) → pt.view.known m p ≡ Unknown → pt.view.preds m p n ≡ false
  pub within : (m n : ℕ) (p : Pid) → pt.view.preds m p n ≡ true → n < pt.kernel.machines
  -- where a process comes, the machine that it comes from is one
  pub comes : (k s : ℕ) (p : Pid) → pt.view.known k p ≡ Incoming s → pt.view.preds k p s ≡ true

-- wherever the rule leads
abbrev pub PredecessorsAlways : Type 0
PredecessorsAlways = (b : Boot) (es : List Step) (pt : Point) → IsValid b → Leads b (first_point b) es pt → Predecessors pt
