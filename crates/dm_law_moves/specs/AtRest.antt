-- Where nothing is on its way between machines, all messages are queued, each request to move has come to its end, and no machine knows
-- of a process that has ended.
use Rattle.std.specs.Prelude.{◌≡◌, ◌≢◌, ◌==◌, ℕ, Bool, true, false, List, []}
use Rattle.std.specs.declared.option.Option.TheVariants.{None, Some}
use Rattle.dm_link.specs.declared.Pid.{Pid}
use Rattle.dm_message.specs.declared.MsgId.{MsgId}
use Rattle.dm_message.specs.declared.kind.MessageKind.TheVariants as kind
use Rattle.dm_message.specs.Kinds.{plain_kind}
use Rattle.dm_message.specs.Plain.{PlainMessage}
use Rattle.dm_onekernel.specs.declared.boot.Boot.{Boot}
use Rattle.dm_onekernel.specs.Boot.{IsValid}
use Rattle.dm_onekernel.specs.Kernel.{Alive}
use Rattle.dm_law_rule.specs.View.{is_server}
use Rattle.dm_onekernel.specs.PlainProcess.{PlainProcess}
use Rattle.dm_schedule.specs.declared.Step.{Step}
use Rattle.dm_law_rule.specs.Laws.{Leads}
use Rattle.dm_law_rule.specs.Phases.{is_away}
use Rattle.dm_law_rule.specs.Point.{Point, first_point}
use Rattle.dm_law_rule.specs.Quiet.{IsQuiet}
use Rattle.dm_law_rule.specs.Spots.{Spot, Queue, standing, untaken}
use Rattle.dm_law_rule.specs.View.{View, Known, Unknown, Here, Frozen, Incoming, Forward, is_kernels}
use Rattle.dm_law_moves.specs.Movers.{HasEnded}

-- a machine waits for a process to leave or to come
abbrev pub is_moving : Known → Bool
is_moving Unknown = false
is_moving Here = false
is_moving (Frozen to) = true
is_moving (Incoming from) = true
is_moving (Forward at moves) = false

-- a message in the queue of the process that it is for, where that is, and in no other place
pub record IsWaiting (pt : Point) (i : MsgId) (m : PlainMessage) : Type 0 where
  pub machine : ℕ
  pub user : plain_kind m.what ≡ kind.User
  pub here : pt.view.known machine m.to ≡ Here
  pub queued : standing pt.view i (Queue machine m.to) ≡ 1
  pub alone : (z : Spot) → z ≢ Queue machine m.to → standing pt.view i z ≡ 0

-- a process is on one machine; each other machine doesn't know it, or forwards what comes for it
pub record IsAt (v : View) (p : Pid) : Type 0 where
  pub machine : ℕ
  pub here : v.known machine p ≡ Here
  pub away : (n : ℕ) → (machine == n) ≡ false → is_away (v.known n p) ≡ true

-- no machine has a record of a process that has ended
abbrev pub AllForgotten : Point → Type 0
AllForgotten pt = (m : ℕ) (p : Pid) → HasEnded pt.kernel p → pt.view.known m p ≡ Unknown

pub record AtRest (pt : Point) : Type 0 where
  -- each living process is on one machine, and so is each server
  pub lives : (p : Pid) (x : PlainProcess) → pt.kernel.processes p ≡ Some (Alive x) → IsAt pt.view p
  pub servers : (p : Pid) → is_server p ≡ true → IsAt pt.view p
  pub forgotten : AllForgotten pt
  -- no process is leaving or coming, and nothing is held back for one
  pub still : (m : ℕ) (p : Pid) → is_moving (pt.view.known m p) ≡ false
  pub held : (m : ℕ) (p : Pid) → pt.view.held m p ≡ []
  -- nothing is on its way
  pub inbox : (m : ℕ) → pt.view.inbox m ≡ []
  pub untaken : (a b : ℕ) → untaken (pt.view.pair a b) ≡ []
  -- each message that there is waits in a queue
  pub waiting : (i : MsgId) (m : PlainMessage) → pt.kernel.bag i ≡ Some m → IsWaiting pt i m
  -- no process follows a request to move
  pub unasked : (p : Pid) → pt.kernel.notes p ≡ None
  -- no kernel's own message stands anywhere: no request to move, no message of a migration, no update
  pub own : (i : MsgId) (z : Spot) → is_kernels i ≡ true → standing pt.view i z ≡ 0

-- wherever the rule leads, where nothing is on its way between machines all is at rest
abbrev pub AtRestAlways : Type 0
AtRestAlways = (b : Boot) (es : List Step) (pt : Point) → IsValid b → Leads b (first_point b) es pt → IsQuiet pt.kernel.machines pt.view → AtRest pt

-- wherever the rule leads, where a process has ended no message is queued for it
abbrev pub DropsAlways : Type 0
DropsAlways = (b : Boot) (es : List Step) (pt : Point) (n : ℕ) (q : Pid) → IsValid b → Leads b (first_point b) es pt → HasEnded pt.kernel q → pt.view.queue n q ≡ []
