-- What the labels of a run say of the order in which messages are received.
use Rattle.std.specs.Prelude.{◌≡◌, ℕ, ◌<◌, List, [], ◌∷◌, ◌++◌}
use Rattle.std.specs.declared.option.Option.{Option}
use Rattle.std.specs.declared.option.Option.TheVariants.{None, Some}
use Rattle.dm_link.specs.declared.Pid.{Pid}
use Rattle.dm_message.specs.Ids.{id_of}
use Rattle.dm_message.specs.declared.MsgId.{MsgId}
use Rattle.dm_message.specs.Plain as what
use Rattle.dm_message.specs.Plain.{PlainMessage, PlainWhat}
use Rattle.dm_onekernel.specs.declared.boot.Boot.{Boot}
use Rattle.dm_onekernel.specs.Boot.{IsValid}
use Rattle.dm_onekernel.specs.declared.label.Label.{Label}
use Rattle.dm_onekernel.specs.declared.label.Label.TheVariants as label
use Rattle.dm_onekernel.specs.Kernel.{OneKernel}
use Rattle.dm_onekernel.specs.Start.{start}
use Rattle.dm_onekernel.specs.Step.{replay}
use Rattle.dm_schedule.specs.declared.Step.{Step}
use Rattle.dm_line.specs.declared.line.Line.{Line}
use Rattle.dm_law_rule.specs.Parts.{Spelled}
use Rattle.dm_law_rule.specs.Point.{Point, first_point, labels}
use Rattle.dm_law_rule.specs.Rule.{group_of}
use Rattle.dm_law_rule.specs.Laws.{IsStep, AreStill, AskNone}

-- the rule leads from a point to another, and these are the lines, group after group
abbrev pub LeadsBy : Boot → Point → List Step → List Line → Point → Type 0
LeadsBy b pt [] ls end = (ls ≡ []) × (pt ≡ end)
LeadsBy b pt (e ∷ es) ls end =
    (w : Spelled) × (rest : List Line) × IsStep pt.kernel.machines e × (group_of b pt e ≡ Some w) × (ls ≡ w.lines ++ rest) × LeadsBy b w.point es rest end

-- the channel of a user message
abbrev pub channel_in : PlainWhat → Option ℕ
channel_in (what.User code channel body links) = Some channel
channel_in what.Stop = None
channel_in what.Resume = None
channel_in what.Kill = None
channel_in (what.Read base len) = None
channel_in (what.Write base bytes) = None
channel_in (what.Block bytes) = None
channel_in what.Written = None
channel_in what.Gone = None
channel_in (what.Create image links) = None
channel_in (what.Created child) = None
channel_in what.NoRoom = None
channel_in (what.Move machine) = None
channel_in (what.Moved outcome) = None

-- after these labels the message stands in the bag, on this channel
pub record StandsOn (b : Boot) (ls : List Label) (i : MsgId) (channel : ℕ) : Type 0 where
  pub kernel : OneKernel
  pub run : replay (start b) ls ≡ Some kernel
  pub message : PlainMessage
  pub there : kernel.bag i ≡ Some message
  pub on : channel_in message.what ≡ Some channel

-- as long as nothing moves, of the messages that one process or server sent, those that a process receives on one channel are
-- received in the order in which they were sent
abbrev pub ReceivesInOrder : Type 0
ReceivesInOrder =
    (b : Boot) (es : List Step) (ls : List Line) (pt : Point) (before between after : List Label) (from to : Pid) (n k channel : ℕ) → IsValid b → AreStill es → AskNone ls → LeadsBy b (first_point b) es ls pt
    → labels ls ≡ before ++ label.Receive to (id_of from n) ∷ (between ++ label.Receive to (id_of from k) ∷ after)
    → StandsOn b before (id_of from n) channel → StandsOn b (before ++ label.Receive to (id_of from n) ∷ between) (id_of from k) channel → n < k
