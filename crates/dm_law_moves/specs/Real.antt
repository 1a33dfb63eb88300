-- Who is named anywhere: a kernel of a machine that there is, a server, or a process that was made.
use Rattle.std.specs.Prelude.{◌≡◌, ◌≢◌, ⊤, ℕ, ◌<◌, true, is_some, List}
use Rattle.std.specs.declared.option.Option.TheVariants.{Some}
use Rattle.dm_link.specs.declared.Pid.{Pid}
use Rattle.dm_message.specs.declared.MsgId.{MsgId}
use Rattle.dm_message.specs.Plain as what
use Rattle.dm_message.specs.Plain.{PlainMessage}
use Rattle.dm_onekernel.specs.declared.boot.Boot.{Boot}
use Rattle.dm_onekernel.specs.Boot.{IsValid}
use Rattle.dm_onekernel.specs.Kernel.{OneKernel}
use Rattle.dm_schedule.specs.declared.Step.{Step}
use Rattle.dm_law_rule.specs.Addresses.{Holder}
use Rattle.dm_law_rule.specs.Homes.{names}
use Rattle.dm_law_rule.specs.Laws.{Leads}
use Rattle.dm_law_rule.specs.Point.{Point, first_point}
use Rattle.dm_law_rule.specs.View.{Told, About, NothingElse, Target, Of, Unknown}
use Rattle.dm_law_rule.specs.View as view
use Rattle.dm_law_always.specs.Fits.{is_server}

-- a name is somebody's
pub data IsReal (s : OneKernel) (q : Pid) : Type 0 where
  Kernel : q.num ≡ 0 → q.home < s.machines → IsReal s q
  Server : is_server q ≡ true → IsReal s q
  Made : is_some (s.processes q) ≡ true → IsReal s q

-- so is that of the process that a kernel's own message is about, if it is about one
abbrev pub IsAboutReal : OneKernel → About → Type 0
IsAboutReal s NothingElse = ⊤
IsAboutReal s (Target m) = ⊤
IsAboutReal s (Of p) = IsReal s p
IsAboutReal s (view.Place p at moves) = IsReal s p

pub record Real (pt : Point) : Type 0 where
  -- whom an address is of: in a slot or a data move, a message's receiver and sender, its links, and what the servers keep
  pub named : (h : Holder) (q : Pid) → names pt.kernel h ≡ Some q → IsReal pt.kernel q
  -- whose name a message has: one of the bag, and one that was ever put, be it a kernel's own
  pub bag : (i : MsgId) (m : PlainMessage) → pt.kernel.bag i ≡ Some m → IsReal pt.kernel i.from
  pub told : (i : MsgId) (t : Told) → pt.view.told i ≡ Some t → IsReal pt.kernel i.from
  -- whom one that was ever put is for, and whom it is about: an update, or a message of a migration
  pub receiver : (i : MsgId) (t : Told) → pt.view.told i ≡ Some t → IsReal pt.kernel t.receiver
  pub about : (i : MsgId) (t : Told) → pt.view.told i ≡ Some t → IsAboutReal pt.kernel t.about
  -- the child that a message says was made
  pub child : (i : MsgId) (m : PlainMessage) (p : Pid) → pt.kernel.bag i ≡ Some m → m.what ≡ what.Created p → IsReal pt.kernel p
  -- whom a machine has, expects, holds back or sends on
  pub known : (n : ℕ) (p : Pid) → pt.view.known n p ≢ Unknown → IsReal pt.kernel p

-- wherever the rule leads
abbrev pub RealAlways : Type 0
RealAlways = (b : Boot) (es : List Step) (pt : Point) → IsValid b → Leads b (first_point b) es pt → Real pt
