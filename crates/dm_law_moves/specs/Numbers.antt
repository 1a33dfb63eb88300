-- The numbers in names of messages: each is below the count of its sender.
use Rattle.std.specs.Prelude.{◌≡◌, ◌<◌, true, false, List}
use Rattle.std.specs.declared.option.Option.TheVariants.{Some}
use Rattle.dm_message.specs.declared.MsgId.{MsgId}
use Rattle.dm_message.specs.Plain.{PlainMessage}
use Rattle.dm_onekernel.specs.declared.boot.Boot.{Boot}
use Rattle.dm_onekernel.specs.Boot.{IsValid, switchboard, manager}
use Rattle.dm_onekernel.specs.Kernel.{Alive, OneKernel}
use Rattle.dm_onekernel.specs.PlainProcess.{PlainProcess}
use Rattle.dm_schedule.specs.declared.Step.{Step}
use Rattle.dm_law_rule.specs.Laws.{Leads}
use Rattle.dm_law_rule.specs.Point.{Point, first_point}
use Rattle.dm_law_rule.specs.View.{Told, is_kernels}

-- the sender of a name has sent more messages than its number says; a process that has ended counts no more
pub record IsBelow (s : OneKernel) (i : MsgId) : Type 0 where
  pub of_process : (x : PlainProcess) → s.processes i.from ≡ Some (Alive x) → i.n < x.sent
  pub of_switchboard : i.from ≡ switchboard → i.n < s.switchboard.sent
  pub of_manager : i.from ≡ manager → i.n < s.manager.sent

pub record Numbers (pt : Point) : Type 0 where
  -- a message of the bag
  pub bag : (i : MsgId) (m : PlainMessage) → pt.kernel.bag i ≡ Some m → IsBelow pt.kernel i
  -- a message that was ever put, and is no kernel's own
  pub told : (i : MsgId) (t : Told) → pt.view.told i ≡ Some t → is_kernels i ≡ false → IsBelow pt.kernel i
  -- a kernel's own message: its machine's kernel has put so many
  pub own : (i : MsgId) (t : Told) → pt.view.told i ≡ Some t → is_kernels i ≡ true → i.n < pt.view.count i.from.home

-- wherever the rule leads
abbrev pub NumbersAlways : Type 0
NumbersAlways = (b : Boot) (es : List Step) (pt : Point) → IsValid b → Leads b (first_point b) es pt → Numbers pt
