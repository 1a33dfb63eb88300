-- Messages wait only where a machine has a list for them.
use Rattle.std.specs.Prelude.{◌≡◌, ℕ, ◌≤◌, true, List, []}
use Rattle.std.specs.declared.option.Option.TheVariants.{Some}
use Rattle.dm_link.specs.declared.Pid.{Pid}
use Rattle.dm_message.specs.declared.MsgId.{MsgId}
use Rattle.dm_message.specs.declared.kind.MessageKind.TheVariants as kind
use Rattle.dm_message.specs.Kinds.{plain_kind}
use Rattle.dm_message.specs.Plain.{PlainMessage}
use Rattle.dm_onekernel.specs.declared.boot.Boot.{Boot}
use Rattle.dm_onekernel.specs.Boot.{IsValid}
use Rattle.dm_schedule.specs.declared.Step.{Step}
use Rattle.dm_law_rule.specs.Laws.{Leads}
use Rattle.dm_law_rule.specs.Point.{Point, first_point}
use Rattle.dm_law_rule.specs.Spots.{Queue, Held, standing}
use Rattle.dm_law_rule.specs.View.{View, Told}
use Rattle.dm_law_always.specs.Fits.{is_server}
use Rattle.dm_law_always.specs.Found.{ListsStand}

-- where messages are queued and held back
pub record ListsRight (v : View) : Type 0 where
  -- queued nowhere but where a process is or leaves, and held back nowhere but where it leaves or comes
  pub stand : ListsStand v
  -- nor for a server, which handles each message at once
  pub server : (m : ℕ) (p : Pid) → is_server p ≡ true → v.queue m p ≡ []

-- wherever the rule leads
abbrev pub ListsAlways : Type 0
ListsAlways = (b : Boot) (es : List Step) (pt : Point) → IsValid b → Leads b (first_point b) es pt → ListsRight pt.view

-- a user message for a process, which nobody has got yet
pub record IsUserFor (pt : Point) (p : Pid) (i : MsgId) : Type 0 where
  pub message : PlainMessage
  pub there : pt.kernel.bag i ≡ Some message
  pub user : plain_kind message.what ≡ kind.User
  pub receiver : message.to ≡ p

-- a message for a process: a kernel's own, by what its first put told, or one of the bag too
pub record IsFor (pt : Point) (p : Pid) (i : MsgId) : Type 0 where
  pub told : Told
  pub is : pt.view.told i ≡ Some told
  pub receiver : told.receiver ≡ p
  pub of_bag : (m : PlainMessage) → pt.kernel.bag i ≡ Some m → m.to ≡ p

-- each queue has user messages for its process, and each list of what is held back has messages for its process
pub record ListsFor (pt : Point) : Type 0 where
  pub queue : (m : ℕ) (p : Pid) (i : MsgId) → 1 ≤ standing pt.view i (Queue m p) → IsUserFor pt p i
  pub held : (m : ℕ) (p : Pid) (i : MsgId) → 1 ≤ standing pt.view i (Held m p) → IsFor pt p i

-- wherever the rule leads
abbrev pub ListsForTheirs : Type 0
ListsForTheirs = (b : Boot) (es : List Step) (pt : Point) → IsValid b → Leads b (first_point b) es pt → ListsFor pt
